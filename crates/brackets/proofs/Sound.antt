-- The analysis of Look.antt is sound: one induction over programs.
use Prim.Native.Nat.{ℕ, suc}
use native.Mathlib.Nat.{le_refl}
use mathlib.Core.Path.{◌≡◌, refl, sym, subst}
use mathlib.Core.Bool.{Bool, true, false, ◌&&◌}
use mathlib.Core.List.{List}
use lib.ListN.{length}
use Rattle.definitions.specs.Prog.{choose, Ans, no, yes, also, again, Rule, Prog, ret, act, ◌⨟◌, case, in_marker, loop, chain, brace, open_call}
use Rattle.definitions.specs.Token.{drop_trivia}
use Rattle.definitions.specs.Skeleton.{Label, done}
use Rattle.definitions.specs.Run.{State, Out, mark_of, makes, add, marked, is_again, iter, unlinked, links, chained, here, exec, run}
use Rattle.basics.proofs.Tests.{cond-with, and_left, and_right}
use Rattle.laws.proofs.Kept.{Stands}
use Rattle.laws.proofs.Onward.{Goes, run_goes, exec_goes}
use Rattle.laws.proofs.Pieces.{links_pieces}
use Rattle.laws.proofs.Clear.{BelowLimits, join_within, closed_within, within_pieces}
use Rattle.laws.proofs.Sound.{is_again_eq}
use Rattle.laws.proofs.Analysis.{Look, get}
use Rattle.brackets.specs.Brackets.{Outline, end}
use Rattle.brackets.proofs.Flat.{◌⊞◌, beside_end, flat, shut, flat_closed}
use Rattle.brackets.proofs.Summary.{exact}
use Rattle.brackets.proofs.Ahead.{Allows}
use Rattle.brackets.proofs.Look.{Fact, never, fact, ◌∪◌, within, any_of, then_look, of_two, going, from, returned, shapeless, goes_on_surely, head, turns, headed, look}
use Rattle.brackets.proofs.Meaning.{Holds, in_left, in_right, weaken, in_any, in_then, in_first, in_second, Gives, Sound, enter, gives_add, open_gives, returned_gives}
use Rattle.brackets.proofs.Actions.{act_gives}
use Rattle.laws.proofs.Shape.{iter_shape, chained_shape}
use Rattle.brackets.proofs.Shapes.{exec_shape}
use Rattle.brackets.proofs.Table.{table}
use Rattle.brackets.proofs.Scopes.{to_gives, gives_first, gives_second, then_gives, not_again, Inner, scoped_gives, begun}
use Rattle.brackets.proofs.Loops.{moves, iter_gives, links_gives}

module _ (n : ℕ) (calls : (r : Rule) (s : State) → Stands s → BelowLimits (run n r s).made → Inner (table r) s (run n r s)) (plain : (r : Rule) (s : State) → (run n r s).shape ≡ 0) where
  goes_all : (b : Label) (p : Prog) (s : State) → Goes s (exec (run n) b p s)
  goes_all b p s = exec_goes (run n) (run_goes n) b p s

  -- the three ways on from an answer
  module _ (b : Label) (x y z : Prog) (p : Sound (look table x) (exec (run n) b x)) (q : Sound (look table y) (exec (run n) b y)) (r : Sound (look table z) (exec (run n) b z)) (l : Look Fact) where
    abbrev on_no : Look Fact
    on_no = from l.if_no (look table x)

    abbrev on_yes : Look Fact
    on_yes = from (l.if_yes ∪ l.if_again) (look table y)

    abbrev on_also : Look Fact
    on_also = from l.if_also (look table z)

    abbrev all_ways : Look Fact
    all_ways = of_two on_no (of_two on_yes on_also)

    ways : (a : Ans) (c : Outline) (s : State) → all_ways.ok ≡ true → Stands s → Holds (get l a) c s
        → BelowLimits (choose a (exec (run n) b x) (exec (run n) b y) (exec (run n) b z) s).made → Gives all_ways c (choose a (exec (run n) b x) (exec (run n) b y) (exec (run n) b z) s)
    unfolding choose
    ways no c s ok k h w = gives_first on_no (of_two on_yes on_also) c (exec (run n) b x s) (enter (look table x) (exec (run n) b x) p l.if_no c s (and_left on_no.ok _ ok) k h w)
    ways yes c s ok k h w =
        gives_second on_no (of_two on_yes on_also) c (exec (run n) b y s)
        (gives_first on_yes on_also c (exec (run n) b y s)
        (enter (look table y) (exec (run n) b y) q (l.if_yes ∪ l.if_again) c s (and_left on_yes.ok _ (and_right on_no.ok _ ok)) k (in_left l.if_yes l.if_again c s h) w))
    ways also c s ok k h w =
        gives_second on_no (of_two on_yes on_also) c (exec (run n) b z s)
        (gives_second on_yes on_also c (exec (run n) b z s) (enter (look table z) (exec (run n) b z) r l.if_also c s (and_right on_yes.ok _ (and_right on_no.ok _ ok)) k h w))
    ways again c s ok k h w =
        gives_second on_no (of_two on_yes on_also) c (exec (run n) b y s)
        (gives_first on_yes on_also c (exec (run n) b y s)
        (enter (look table y) (exec (run n) b y) q (l.if_yes ∪ l.if_again) c s (and_left on_yes.ok _ (and_right on_no.ok _ ok)) k (in_right l.if_yes l.if_again c s h) w))

  -- a chain in a marker of its own: o is what its first program gave
  module _ (b : Label) (p q : Prog) (P : Sound (look table p) (exec (run n) b p)) (Q : Sound (look table q) (exec (run n) b q)) (s : State) (h : Stands s) (k : List Bool)
      (a : Allows k (drop_trivia s.rest)) where
    abbrev o : Out
    o = exec (run n) b p s

    abbrev l : Look Fact
    l = look table p (fact k (exact end))

    abbrev i : Fact
    i = head l.if_again (look table q)

    abbrev checks : Bool
    checks = shapeless p && headed l.if_again i (look table q)

    abbrev both_ways : Look Fact
    both_ways = of_two (going l never) (from i (look table q))

    abbrev Fine : Out → Type 0
    Fine r = BelowLimits r.made → Holds (get (then_look checks l both_ways) r.ans) (flat r.made) r.state

    module _ (ok : (then_look checks l both_ways).ok ≡ true) where
      checked : checks ≡ true
      checked = and_left checks _ ok

      heads : headed l.if_again i (look table q) ≡ true
      heads = and_right (shapeless p) _ (and_left checks _ ok)

      first : BelowLimits o.made → Holds (get l o.ans) (flat o.made) o.state
      unfolding ◌⊞◌
      first v =
          open_gives l end o (exec_shape (run n) plain b p s (and_left (shapeless p) _ checked))
          (P (fact k (exact end)) end s (and_left l.ok _ (and_right checks _ ok)) h (begun k s a) v)

      -- it answers again, and links follow
      links_on : is_again o.ans ≡ true → Fine (links (suc (length o.state.rest)) (exec (run n) b q) (mark_of s) done o.made o.state)
      unfolding ◌⊞◌ flat
      links_on e v =
          let j = suc (length o.state.rest) in
          let r = links j (exec (run n) b q) (mark_of s) done o.made o.state in
          let f = first (links_pieces BelowLimits within_pieces j (exec (run n) b q) (mark_of s) done o.made o.state v).1 in
          let g : Holds l.if_again (flat o.made) o.state = subst (λ (y : Ans). Holds (get l y) (flat o.made) o.state) (is_again_eq o.ans e) f in
          in_then checks l both_ways r.ans (flat r.made) r.state
          (in_second (going l never) (from i (look table q)) r.ans (flat r.made) r.state
          (links_gives (look table q) (exec (run n) b q) Q (goes_all b q) i (and_right (within l.if_again i) _ heads)
          (and_right l.ok _ (and_right l.ok _ (and_right checks _ ok))) j (mark_of s) done o.made o.state (le_refl _) (goes_all b p s h).0
          (weaken l.if_again i (flat o.made) o.state (and_left (within l.if_again i) _ heads) g) v))

      -- it does not, and its marker is ignored
      links_off : is_again o.ans ≡ false → Fine (unlinked (mark_of s) done o.made o.ans o.state)
      unfolding unlinked makes flat ◌⊞◌
      links_off e v =
          let f = first (closed_within 0 (mark_of s) (mark_of o.state) done o.made v).1 in
          subst (λ (y : Outline). Holds (get (then_look checks l both_ways) o.ans) y o.state) (sym (beside_end (flat o.made)))
          (in_then checks l both_ways o.ans (flat o.made) o.state
          (in_first (going l never) (from i (look table q)) o.ans (flat o.made) o.state (not_again l o.ans (flat o.made) o.state e f)))

      chain_gives : Fine (chained (exec (run n) b q) s o)
      unfolding chained
      chain_gives w =
          cond-with Fine (is_again o.ans) {x = links (suc (length o.state.rest)) (exec (run n) b q) (mark_of s) done o.made o.state}
          {y = unlinked (mark_of s) done o.made o.ans o.state} links_on links_off w

  loop_gives : (b : Label) (p : Prog) → Sound (look table p) (exec (run n) b p) → Sound (look table (loop p)) (exec (run n) b (loop p))
  unfolding exec look
  loop_gives b p S d q s ok h g w =
      let i = head d (look table p) in
      let l = turns (goes_on_surely p) i (look table p) in
      let checks = and_left (shapeless p && headed d i (look table p)) _ ok in
      let heads = and_right (shapeless p) _ checks in
      let r = iter (suc (length s.rest)) (exec (run n) b p) s in
      then_gives (shapeless p && headed d i (look table p)) l l q r
      (to_gives l q r (iter_shape (suc (length s.rest)) (exec (run n) b p) s)
      (iter_gives (look table p) (exec (run n) b p) S (goes_all b p) i (and_right (within d i) _ heads) (λ u. exec_shape (run n) plain b p u (and_left (shapeless p) _ checks))
      (goes_on_surely p) (moves n b p) (and_left l.ok _ (and_right (shapeless p && headed d i (look table p)) _ ok)) (suc (length s.rest)) q s (le_refl _) h
      (weaken d i q s (and_left (within d i) _ heads) g) w))

  -- THE ANALYSIS IS SOUND for every program
  pub exec_gives : (b : Label) (p : Prog) → Sound (look table p) (exec (run n) b p)
  unfolding exec look marked makes flat shut
  exec_gives b (ret k a) d q s ok h g w = subst (λ (x : Outline). Holds (get (returned k a d) a) (shut k x) s) (sym (beside_end q)) (returned_gives k a d q s ok g)
  exec_gives b (act a) never q s ok h g w = absurd g
  exec_gives b (act a) (fact k m) q s ok h g w = act_gives b a k m q s g
  exec_gives b (p ⨟ p') d q s ok h g w =
      let l = look table p d in
      let o = exec (run n) b p s in
      let c = join_within o.made (exec (run n) b p' o.state).made (unfold add in w) in
      let ok₁ = and_right (shapeless p) _ ok in
      let f = open_gives l q o (exec_shape (run n) plain b p s (and_left (shapeless p) _ ok)) (exec_gives b p d q s (and_left l.ok _ ok₁) h g c.0) in
      then_gives (shapeless p) l (from (any_of l) (look table p')) q (add o (exec (run n) b p' o.state))
      (gives_add (from (any_of l) (look table p')) q o (exec (run n) b p' o.state)
      (enter (look table p') (exec (run n) b p') (exec_gives b p') (any_of l) (q ⊞ flat o.made) o.state (and_right l.ok _ ok₁) (goes_all b p s h).0
      (in_any l o.ans (q ⊞ flat o.made) o.state f) c.1))
  exec_gives b (case c x y z) d q s ok h g w =
      let l = look table c d in
      let o = exec (run n) b c s in
      let r = choose o.ans (exec (run n) b x) (exec (run n) b y) (exec (run n) b z) o.state in
      let v = join_within o.made r.made (unfold add in w) in
      let ok₁ = and_right (shapeless c) _ ok in
      let f = open_gives l q o (exec_shape (run n) plain b c s (and_left (shapeless c) _ ok)) (exec_gives b c d q s (and_left l.ok _ ok₁) h g v.0) in
      then_gives (shapeless c) l (all_ways b x y z (exec_gives b x) (exec_gives b y) (exec_gives b z) l) q (add o r)
      (gives_add (all_ways b x y z (exec_gives b x) (exec_gives b y) (exec_gives b z) l) q o r
      (ways b x y z (exec_gives b x) (exec_gives b y) (exec_gives b z) l o.ans (q ⊞ flat o.made) o.state (and_right l.ok _ ok₁) (goes_all b c s h).0 f v.1))
  exec_gives b (in_marker p) d q s ok h g w =
      let o = exec (run n) b p s in
      scoped_gives (look table p) d q s (marked s o) refl ok g
      (λ k a e. subst (λ (x : Outline). Holds (get (look table p (fact k (exact end))) o.ans) x o.state) (sym (flat_closed o.shape (mark_of s) (mark_of o.state) done o.made))
      (exec_gives b p (fact k (exact end)) end s e h (begun k s a) (closed_within o.shape (mark_of s) (mark_of o.state) done o.made w).1))
  exec_gives b (loop p) d q s ok h g w = loop_gives b p (exec_gives b p) d q s ok h g w
  exec_gives b (chain p p') d q s ok h g w =
      scoped_gives _ d q s (exec (run n) b (chain p p') s) (chained_shape (exec (run n) b p') s (exec (run n) b p s)) ok g
      (λ k a e. chain_gives b p p' (exec_gives b p) (exec_gives b p') s h k a e w)
  exec_gives b (brace p) d q s ok h g w = exec_gives (here s.rest) p d q s ok h g w
  exec_gives b (open_call r) d q s ok h g w = scoped_gives (table r) d q s (run n r s) (plain r s) ok g (calls r s h w)
