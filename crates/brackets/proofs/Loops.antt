-- Loops and chains: what holds at the head holds before each turn, and where turns surely go on, a loop that stops has
-- seen the end.
use Prim.Native.Nat.{ℕ, zero, suc, ◌<◌}
use native.Mathlib.Nat.{le_refl, not-suc-le-zero}
use native.Mathlib.Omega.{arith}
use mathlib.Core.Path.{◌≡◌, refl, ap, sym, ◌∙◌, subst}
use mathlib.Core.Bool.{Bool, true, false, ◌&&◌, false≢true, true≢false}
use lib.Dec.{ltb}
use lib.ListN.{length}
use borrow.Author.Tests.{lt-ltb}
use Rattle.definitions.specs.Prog.{Ans, no, yes, also, again, Prog}
use Rattle.definitions.specs.Token.{drop_trivia, ended}
use Rattle.definitions.specs.Skeleton.{Label, Skeleton, done, ◌⧺◌}
use Rattle.definitions.specs.Run.{State, Out, mark_of, makes, add, closed, is_again, goes_on, iter, unlinked, by_shape, links, exec, run}
use Rattle.basics.proofs.Tests.{cond-with, and_left, and_right}
use Rattle.laws.proofs.Kept.{Stands}
use Rattle.laws.proofs.Marks.{stands_within}
use Rattle.laws.proofs.Onward.{Goes, run_goes}
use Rattle.laws.proofs.Fuel.{goes_on_shorter, turn_of}
use Rattle.laws.proofs.Pieces.{linked, closed_pieces, links_pieces}
use Rattle.laws.proofs.Clear.{BelowLimits, join_within, closed_within, within_pieces}
use Rattle.laws.proofs.Analysis.{Look, get}
use Rattle.laws.proofs.Analysis as A
use Rattle.laws.proofs.Sound.{is_again_eq}
use Rattle.laws.proofs.Sound as S
use Rattle.laws.proofs.Progress.{taking, standing, taking_tokens}
use Rattle.laws.proofs.Progress as G
use Rattle.laws.proofs.FactsHold.{There, Case, took_case, there_case, gone_case, taking_means}
use Rattle.laws.proofs.FactsHold as H
use Rattle.laws.proofs.Takes.{taking_acts, table_gives, run_takes}
use Rattle.brackets.specs.Brackets.{Outline}
use Rattle.brackets.proofs.Bits.{both, at_both}
use Rattle.brackets.proofs.Flat.{◌⊞◌, beside_end, beside_assoc, flat, flat_join, shut, flat_closed}
use Rattle.brackets.proofs.Ahead.{class, none_left, allows_ended}
use Rattle.brackets.proofs.Look.{Fact, never, fact, within, from, goes_on_surely, at_end_only, turns}
use Rattle.brackets.proofs.Meaning.{Holds, kept_holds, weaken, Sound, enter, open_gives}
use Rattle.brackets.proofs.Scopes.{Open, open_add}

module _ (n : ℕ) (b : Label) where
  -- a turn that answers again takes a token, where one is there
  pub moves : (p : Prog) → goes_on_surely p ≡ true → (s : State) → Stands s → There s → BelowLimits (exec (run n) b p s).made → (exec (run n) b p s).ans ≡ again
      → length (exec (run n) b p s).state.rest < length s.rest
  unfolding goes_on_surely
  moves p e s k t w a =
      let o = exec (run n) b p s in
      let l = A.look taking_tokens G.table p standing in
      let g : H.Holds (get l o.ans) s o.state =
      (S.exec_gives taking_tokens taking_means taking_acts (run n) (run_goes n) G.table (λ q. table_gives q n (λ u₀ u x v. (tt, run_takes n q u₀ u x v))) b p standing s s
      (and_left l.ok _ e) (record { stands = k; below = le_refl _; case = there_case refl t }) w).1 in
      let h : H.Holds taking s o.state = H.weaken l.if_again taking s o.state (and_right l.ok _ e) (subst (λ (x : Ans). H.Holds (get l x) s o.state) a g) in
      go o.state h.stands h.case
    where
      go : (u : State) → Stands u → Case taking s u → length u.rest < length s.rest
      go u h (took_case i x) = let z = stands_within u h in omega arith
      go u h (there_case i x) = absurd (false≢true i)
      go u h (gone_case i x) = absurd (false≢true i)

-- a program, and what is known of its turns
module _ (f : Fact → Look Fact) (F : State → Out) (sound : Sound f F) (goes : (s : State) → Goes s (F s)) (i : Fact) (stable : within (from i f).if_again i ≡ true) where
  -- where the loop goes on, the head's fact holds again
  head_again : (s : State) (x : Outline) → goes_on s (F s) ≡ true → Holds (get (from i f) (F s).ans) x (F s).state → Holds i x (F s).state
  unfolding goes_on
  head_again s x e h =
      weaken (from i f).if_again i x (F s).state stable
      (subst (λ (a : Ans). Holds (get (from i f) a) x (F s).state) (is_again_eq (F s).ans (and_left (is_again (F s).ans) _ e)) h)

  module _ (plain : (s : State) → (F s).shape ≡ 0) (sure : Bool)
      (moved : sure ≡ true → (s : State) → Stands s → There s → BelowLimits (F s).made → (F s).ans ≡ again → length (F s).state.rest < length s.rest) where
    turn_ok : (c : Bool) → (turns c i f).ok ≡ true → (from i f).ok ≡ true
    unfolding turns
    turn_ok true e = and_left (from i f).ok _ (and_right (from (at_end_only i) f).ok _ e)
    turn_ok false e = e

    -- a turn that begins at the end
    end_holds : (d : Fact) (q : Outline) (s : State) → ended (drop_trivia s.rest) ≡ true → Holds d q s → Holds (at_end_only d) q s
    end_holds never q s e h = h
    end_holds (fact n m) q s e h =
        kept_holds (both n none_left) m q s
        (record { ahead = at_both (class (drop_trivia s.rest)) n none_left h.ahead (allows_ended (drop_trivia s.rest) e); sums = h.sums; fit = h.fit })

    -- the last turn of a loop
    stalled : (q : Outline) (s : State) → (turns true i f).ok ≡ true → goes_on s (F s) ≡ false → Stands s → Holds i q s → BelowLimits (F s).made → sure ≡ true
        → (a : Ans) → (F s).ans ≡ a → Holds (get (from i f) a) (q ⊞ flat (F s).made) (F s).state → Holds (get (turns true i f) a) (q ⊞ flat (F s).made) (F s).state
    unfolding turns goes_on is_again
    stalled q s ok e k h w c no z g = g
    stalled q s ok e k h w c yes z g = g
    stalled q s ok e k h w c also z g = g
    stalled q s ok e k h w c again z g = by_end (ended (drop_trivia s.rest)) refl
      where
        by_end : (x : Bool) → ended (drop_trivia s.rest) ≡ x → Holds (from (at_end_only i) f).if_again (q ⊞ flat (F s).made) (F s).state
        by_end true y =
            subst (λ (a : Ans). Holds (get (from (at_end_only i) f) a) (q ⊞ flat (F s).made) (F s).state) z
            (open_gives (from (at_end_only i) f) q (F s) (plain s) (enter f F sound (at_end_only i) q s (and_left (from (at_end_only i) f).ok _ ok) k (end_holds i q s y h) w))
        by_end false y =
            absurd
            (true≢false
            (sym (ap (λ (a : Ans). is_again a && ltb (length (F s).state.rest) (length s.rest)) z ∙ lt-ltb (length (F s).state.rest) (length s.rest) (moved c s k y w z)) ∙ e))

    last_turn : (c : Bool) → c ≡ sure → (q : Outline) (s : State) → (turns c i f).ok ≡ true → goes_on s (F s) ≡ false → Stands s → Holds i q s → BelowLimits (F s).made
        → Holds (get (from i f) (F s).ans) (q ⊞ flat (F s).made) (F s).state → Holds (get (turns c i f) (F s).ans) (q ⊞ flat (F s).made) (F s).state
    unfolding turns
    last_turn true c q s ok e k h w g = stalled q s ok e k h w (sym c) (F s).ans refl g
    last_turn false c q s ok e k h w g = g

    pub iter_gives : ((turns sure i f).ok ≡ true) → (j : ℕ) (q : Outline) (s : State) → length s.rest < j → Stands s → Holds i q s → BelowLimits (iter j F s).made → Open (turns sure i f) q (iter j F s)
    unfolding iter makes add
    iter_gives ok zero q s l k h w = absurd (not-suc-le-zero l)
    iter_gives ok (suc j) q s l k h w =
        let turn : BelowLimits (F s).made → Holds (get (from i f) (F s).ans) (q ⊞ flat (F s).made) (F s).state =
        λ v. open_gives (from i f) q (F s) (plain s) (enter f F sound i q s (turn_ok sure ok) k h v) in
        cond-with (λ (o : Out). BelowLimits o.made → Open (turns sure i f) q o) (goes_on s (F s)) {x = add (turn_of (F s)) (iter j F (F s).state)} {y = turn_of (F s)}
        (λ e v.
        let c = join_within (F s).made (iter j F (F s).state).made v in
        let d : length (F s).state.rest < length s.rest = goes_on_shorter s (F s) e in
        open_add (turns sure i f) q (turn_of (F s)) (iter j F (F s).state)
        (iter_gives ok j (q ⊞ flat (F s).made) (F s).state (omega arith) (goes s k).0 (head_again s (q ⊞ flat (F s).made) e (turn c.0)) c.1))
        (λ e v. last_turn sure refl q s ok e k h v (turn v))
        w

  -- ---------------------------------------------------------------- chains

  abbrev Linked : Out → Type 0
  Linked o = BelowLimits o.made → Holds (get (from i f) o.ans) (flat o.made) o.state

  linked_shape : (k : ℕ) (x y : Out) → (k ≡ 0 → Linked x) → Linked y → Linked (by_shape k x y)
  unfolding by_shape
  linked_shape zero x y p q = p refl
  linked_shape (suc k) x y p q = q

  -- what a closed marker holds
  same_closed : (k m m' : ℕ) (a j p : Skeleton) → shut k ((flat a ⊞ flat j) ⊞ flat p) ≡ flat (closed k m m' a (j ⧺ p))
  same_closed k m m' a j p =
      ap (shut k) (beside_assoc (flat a) (flat j) (flat p) ∙ ap (flat a ⊞◌) (sym (flat_join j p))) ∙ sym (flat_closed k m m' a (j ⧺ p))

  pub links_gives : (from i f).ok ≡ true → (k m : ℕ) (a j : Skeleton) (s : State) → length s.rest < k → Stands s → Holds i (flat a ⊞ flat j) s → Linked (links k F m a j s)
  unfolding links unlinked makes flat shut
  links_gives ok zero m a j s l h g = absurd (not-suc-le-zero l)
  links_gives ok (suc k) m a j s l h g =
      let o : Out = F s in
      let m' : ℕ = mark_of (F s).state in
      let node : Skeleton = linked m a j (F s) in
      let closes : (c : ℕ) → (F s).shape ≡ c → BelowLimits (closed c m m' a (j ⧺ (F s).made)) → Holds (get (from i f) (F s).ans) (flat (closed c m m' a (j ⧺ (F s).made))) (F s).state =
      λ c e w. subst (λ (x : Outline). Holds (get (from i f) (F s).ans) x (F s).state)
      (ap (λ (d : ℕ). shut d ((flat a ⊞ flat j) ⊞ flat (F s).made)) e ∙ same_closed c m m' a j (F s).made)
      (enter f F sound i (flat a ⊞ flat j) s ok h g (closed_pieces BelowLimits within_pieces c m m' a j (F s).made w).2) in
      linked_shape o.shape _ _ (λ e. closes 0 e)
      (cond-with Linked (goes_on s o) {x = links k F m' node done o.state} {y = unlinked m' node done o.ans o.state}
      (λ e w.
      let d : length (F s).state.rest < length s.rest = goes_on_shorter s (F s) e in
      let v : BelowLimits node = (links_pieces BelowLimits within_pieces k F m' node done (F s).state w).0 in
      links_gives ok k m' node done (F s).state (omega arith) (goes s h).0
      (subst (λ (x : Outline). Holds i x (F s).state) (sym (beside_end (flat node))) (head_again s (flat node) e (closes (F s).shape refl v)))
      w)
      (λ e w.
      let v : BelowLimits node = (closed_within 0 m' m' node done w).0 in
      subst (λ (x : Outline). Holds (get (from i f) (F s).ans) x (F s).state) (sym (flat_closed 0 m' m' node done ∙ beside_end (flat node))) (closes (F s).shape refl v)))
