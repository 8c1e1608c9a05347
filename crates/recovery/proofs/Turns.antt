-- The source file's loop, turn by turn: what comes after a statement that ends in a semicolon of its own is what the
-- tokens after that semicolon make by themselves.
use Prim.Native.Nat.{ℕ, zero, suc, ◌≤◌, ◌<◌}
use native.Mathlib.Nat.{le_refl, not-suc-le-zero}
use native.Mathlib.Omega.{arith}
use mathlib.Core.Logic.{◌⊎◌, inl, inr, ⊎_elim}
use mathlib.Core.Path.{◌≡◌, refl, ap, sym, ◌∙◌, subst}
use mathlib.Core.Bool.{Bool, true, false, cond, true≢false}
use mathlib.Core.List.{List, [], ◌∷◌}
use lib.ListN.{length}
use borrow.Author.Tests.{lt-ltb}
use Rattle.definitions.specs.Layout.{MOST_OPEN_CALLS}
use Rattle.definitions.specs.Token.{Token, drop_trivia}
use Rattle.definitions.specs.Prog.{choose, again}
use Rattle.definitions.specs.Grammar.{SourceFile, whole, entry, entry_sourcefile, sourcefile_turn, left_over}
use Rattle.definitions.specs.Skeleton.{no_label, Skeleton, done, ◌⧺◌}
use Rattle.definitions.specs.Run.{State, Out, mark_of, peeked, replies, makes, taken, add, perform, is_again, goes_on, iter, exec, run}
use Rattle.definitions.specs.Place.{Tree, nil, leaf, subtree, ◌⊕◌, lead, after, place}
use Rattle.definitions.specs.Call.{run_entry}
use Rattle.basics.proofs.Tests.{cond-with}
use Rattle.laws.proofs.Skeleton.{join_assoc, after_join}
use Rattle.laws.proofs.Tree.{beside_assoc, place_join}
use Rattle.laws.proofs.Kept.{stands_taken}
use Rattle.laws.proofs.Marks.{stands_within}
use Rattle.laws.proofs.Fuel.{turn_of, iter_same, goes_on_shorter}
use Rattle.recovery.proofs.Analysis.{low, mid, know}
use Rattle.recovery.proofs.Told.{All, told, told_all, Above, falls_above}
use Rattle.recovery.proofs.Going.{Goes, exec_goes, At, at_after}
use Rattle.recovery.proofs.Meaning.{closes, Quiet, Last, Sealed, Holds}
use Rattle.recovery.proofs.Actions.{lead_quiet}
use Rattle.recovery.proofs.Sound.{turn_holds, left_over_holds}

-- ---------------------------------------------------------------- a root's children

unfoldable pub children : Skeleton → List Token → Tree
unfolding place lead after ◌⊕◌
children p ts = place p ts ⊕ lead (after p ts)

children_join : (p q : Skeleton) (ts : List Token) → children (p ⧺ q) ts ≡ place p ts ⊕ children q (after p ts)
unfolding children
children_join p q ts =
    ap (◌⊕ lead (after (p ⧺ q) ts)) (place_join p q ts)
    ∙ beside_assoc (place p ts) (place q (after p ts)) (lead (after (p ⧺ q) ts))
    ∙ ap (λ (l : List Token). place p ts ⊕ (place q (after p ts) ⊕ lead l)) (after_join p q ts)

-- a part of kind k among some, with i under it and v after it
unfoldable pub Part : Tree → ℕ → Tree → Tree → Type 0
Part nil k i v = ⊥
Part (leaf j us f) k i v = Part f k i v
Part (subtree j c f) k i v = ((j ≡ k) × (c ≡ i) × (f ≡ v)) ⊎ Part f k i v

pub part_here : (f : Tree) (k : ℕ) (i v : Tree) → Part (f ⊕ subtree k i v) k i v
unfolding Part ◌⊕◌
part_here nil k i v = inl (refl, refl, refl)
part_here (leaf j us f) k i v = part_here f k i v
part_here (subtree j c f) k i v = inr (part_here f k i v)

-- ---------------------------------------------------------------- the loop

abbrev pub turn : State → Out
turn s = exec (run MOST_OPEN_CALLS) no_label sourcefile_turn s

abbrev pub sweep : State → Out
sweep s = exec (run MOST_OPEN_CALLS) no_label left_over s

-- at most n turns from a state, and then what is left over
unfoldable pub onward : ℕ → State → Skeleton
unfolding ◌⧺◌
onward n s = let r = iter n turn s in r.made ⧺ (sweep r.state).made

entry_onward : (ts : List Token) → run_entry SourceFile ts ≡ onward (suc (length ts)) (taken ts)
unfolding onward run_entry whole entry entry_sourcefile exec add
entry_onward ts = refl

onward_again : (n : ℕ) (s : State) → goes_on s (turn s) ≡ true → onward (suc n) s ≡ (turn s).made ⧺ onward n (turn s).state
unfolding onward iter makes add
onward_again n s e =
    ap (λ (b : Bool). let o : Out = cond b (add (turn_of (turn s)) (iter n turn (turn s).state)) (turn_of (turn s)) in o.made ⧺ (sweep o.state).made) e
    ∙ join_assoc (turn s).made (iter n turn (turn s).state).made _

onward_last : (n : ℕ) (s : State) → goes_on s (turn s) ≡ false → onward (suc n) s ≡ (turn s).made ⧺ (sweep (turn s).state).made
unfolding onward iter makes
onward_last n s e = ap (λ (b : Bool). let o : Out = cond b (add (turn_of (turn s)) (iter n turn (turn s).state)) (turn_of (turn s)) in o.made ⧺ (sweep o.state).made) e

-- from right after a token the loop goes as it would from the start of a file
onward_fresh : (n : ℕ) (us : List Token) → length us < n → onward n (taken us) ≡ run_entry SourceFile us
unfolding onward
onward_fresh n us l = ap (λ (r : Out). r.made ⧺ (sweep r.state).made) (iter_same n (suc (length us)) turn (taken us) l (omega arith)) ∙ sym (entry_onward us)

-- a turn goes on, or it has made nothing
turn_answer : (s : State) → ((turn s).ans ≡ again) ⊎ ((turn s).made ≡ done)
unfolding sourcefile_turn exec perform add choose replies peeked ◌⧺◌
turn_answer s = go (drop_trivia s.rest) refl
  where
    go : (l : List Token) → drop_trivia s.rest ≡ l → ((turn s).ans ≡ again) ⊎ ((turn s).made ≡ done)
    go [] e = inr (rw e refl)
    go (t ∷ ts) e = inl (rw e refl)

done_quiet : (p : Skeleton) (ts : List Token) → p ≡ done → Quiet (place p ts)
unfolding Quiet place
done_quiet p ts e = subst (λ (r : Skeleton). Quiet (place r ts)) (sym e) tt

again_goes_on : (s : State) (o : Out) → o.ans ≡ again → length o.state.rest < length s.rest → goes_on s o ≡ true
unfolding goes_on is_again
again_goes_on s o a l = rw (a, lt-ltb (length o.state.rest) (length s.rest) l) refl

-- ---------------------------------------------------------------- what follows a statement

-- v: what stands after it. It is, and p ends with, what the tokens `rest` make by themselves.
pub record Found (s : State) (p : Skeleton) (v : Tree) : Type 0 where
  pub rest : List Token
  pub first : Skeleton
  pub is : p ≡ first ⧺ run_entry SourceFile rest
  pub above : All (Above (length rest)) (told first)
  pub less : length rest < length s.rest
  pub beyond : v ≡ children (run_entry SourceFile rest) rest

found_later : (s u : State) (p q : Skeleton) (v : Tree) → Goes s p u → Found u q v → Found s (p ⧺ q) v
found_later s u p q v G F =
    let w : length u.rest ≤ mark_of u = stands_within u G.stands in
    let x : length u.rest ≤ length s.rest = G.onward.rest in
    let y : length F.rest < length u.rest = F.less in
    record {
      rest = F.rest;
      first = p ⧺ F.first;
      is = ap (p ⧺◌) F.is ∙ sym (join_assoc p F.first _);
      above = told_all (Above (length F.rest)) p F.first (falls_above _ (mark_of s) (mark_of u) p (omega arith) G.down.falls) F.above;
      less = omega arith;
      beyond = F.beyond;
    }

module _ (k : ℕ) (i v : Tree) (C : closes k i ≡ true) where
  quiet_part : (f g : Tree) → Quiet f → Part (f ⊕ g) k i v → Part g k i v
  unfolding Quiet Part ◌⊕◌
  quiet_part nil g q h = h
  quiet_part (leaf j us f) g q h = quiet_part f g q h
  quiet_part (subtree j c f) g q (inl e) = absurd (true≢false (sym C ∙ ap (λ (n : ℕ). closes n i) (sym e.0) ∙ ap (closes j) (sym e.1) ∙ q.0))
  quiet_part (subtree j c f) g q (inr h) = quiet_part f g q.1 h

  quiet_none : (f : Tree) → Quiet f → Part f k i v → ⊥
  unfolding Quiet Part
  quiet_none nil q h = h
  quiet_none (leaf j us f) q h = quiet_none f q h
  quiet_none (subtree j c f) q (inl e) = true≢false (sym C ∙ ap (λ (n : ℕ). closes n i) (sym e.0) ∙ ap (closes j) (sym e.1) ∙ q.0)
  quiet_none (subtree j c f) q (inr h) = quiet_none f q.1 h

  -- the statement is the last part of f, or stands after it
  last_part : (f g : Tree) → Last f → Part (f ⊕ g) k i v → (g ≡ v) ⊎ Part g k i v
  last_part f g l h = go (quiet_part l.others (subtree l.kind l.inner nil ⊕ g) l.quiet (subst (λ (x : Tree). Part x k i v) (ap (◌⊕ g) l.is ∙ beside_assoc l.others _ g) h))
    where
      go : Part (subtree l.kind l.inner nil ⊕ g) k i v → (g ≡ v) ⊎ Part g k i v
      go h = unfold Part ◌⊕◌ in ⊎_elim (λ e. inl e.2) (λ x. inr x) h

  abbrev Turned : State → List Token → Type 0
  Turned s ts = Holds (know true low mid) s ts (turn s).made (turn s).state

  parts_of : (s : State) (ts : List Token) → Turned s ts → Quiet (place (turn s).made ts) ⊎ (Last (place (turn s).made ts) × Sealed s ts (turn s).made (turn s).state)
  parts_of s ts T = T.part

  -- a turn after which the loop goes on
  goes_further : (n : ℕ) (s : State) (ts : List Token) → At s ts → Turned s ts → length (turn s).state.rest < n
      → (Part (children (onward n (turn s).state) (after (turn s).made ts)) k i v → Found (turn s).state (onward n (turn s).state) v)
      → Part (children ((turn s).made ⧺ onward n (turn s).state) ts) k i v → Found s ((turn s).made ⧺ onward n (turn s).state) v
  goes_further n s ts A T l ih h =
      let p : Skeleton = (turn s).made in
      let u : State = (turn s).state in
      let q : Skeleton = onward n u in
      let h' : Part (place p ts ⊕ children q (after p ts)) k i v = subst (λ (x : Tree). Part x k i v) (children_join p q ts) h in
      let on : Part (children q (after p ts)) k i v → Found s (p ⧺ q) v = λ x. found_later s u p q v (exec_goes MOST_OPEN_CALLS no_label sourcefile_turn s A.stands) (ih x) in
      ⊎_elim
      (λ x. on (quiet_part (place p ts) _ x h'))
      (λ x.
      let S : Sealed s ts p u = x.1 in
      let fresh : q ≡ run_entry SourceFile S.rest = ap (onward n) S.is ∙ onward_fresh n S.rest (subst (λ (w : State). length w.rest < n) S.is l) in
      ⊎_elim
      (λ e.
      record {
        rest = S.rest;
        first = p;
        is = ap (p ⧺◌) fresh;
        above = S.above;
        less = S.less;
        beyond = sym e ∙ ap (children q) S.exact ∙ ap (λ (r : Skeleton). children r S.rest) fresh;
      })
      on (last_part (place p ts) _ x.0 h'))
      (parts_of s ts T)

  -- what is left over has no statement in it
  swept : (s : State) (ts : List Token) → At s ts → Part (children (sweep s).made ts) k i v → ⊥
  unfolding children
  swept s ts A h =
      let w : List Token = after (sweep s).made ts in
      quiet_none (lead w) (lead_quiet w) (quiet_part (place (sweep s).made ts) (lead w) (left_over_holds s ts A).part h)

  -- a turn after which it does not
  stops : (s : State) (ts : List Token) → At s ts → Turned s ts → goes_on s (turn s) ≡ false → Part (children ((turn s).made ⧺ (sweep (turn s).state).made) ts) k i v → ⊥
  stops s ts A T b h =
      let p : Skeleton = (turn s).made in
      let u : State = (turn s).state in
      let A' : At u (after p ts) = at_after s u ts p A (exec_goes MOST_OPEN_CALLS no_label sourcefile_turn s A.stands) in
      let quiet : Quiet (place p ts) → ⊥ = λ x. swept u (after p ts) A' (quiet_part (place p ts) _ x (subst (λ (z : Tree). Part z k i v) (children_join p (sweep u).made ts) h)) in
      ⊎_elim quiet
      (λ x.
      ⊎_elim
      (λ a.
      let l : length u.rest < length s.rest = subst (λ (w : State). length w.rest < length s.rest) (sym x.1.is) x.1.less in
      true≢false (sym (again_goes_on s (turn s) a l) ∙ b))
      (λ e. quiet (done_quiet p ts e))
      (turn_answer s))
      (parts_of s ts T)

  pub find : (n : ℕ) (s : State) (ts : List Token) → At s ts → length s.rest < n → Part (children (onward n s) ts) k i v → Found s (onward n s) v
  find zero s ts A l h = absurd (not-suc-le-zero l)
  find (suc n) s ts A l h =
      let p : Skeleton = (turn s).made in
      let u : State = (turn s).state in
      let T : Turned s ts = turn_holds s ts A in
      cond-with (λ _. Found s (onward (suc n) s) v) (goes_on s (turn s)) {x = tt {0}} {y = tt {0}}
      (λ b.
      let less : length u.rest < length s.rest = goes_on_shorter s (turn s) b in
      let enough : length u.rest < n = omega arith in
      let e : onward (suc n) s ≡ p ⧺ onward n u = onward_again n s b in
      subst (λ (r : Skeleton). Found s r v) (sym e)
      (goes_further n s ts A T enough (λ x. find n u (after p ts) (at_after s u ts p A (exec_goes MOST_OPEN_CALLS no_label sourcefile_turn s A.stands)) enough x)
      (subst (λ (r : Skeleton). Part (children r ts) k i v) e h)))
      (λ b. absurd (stops s ts A T b (subst (λ (r : Skeleton). Part (children r ts) k i v) (onward_last n s b) h)))

  -- WHAT FOLLOWS A STATEMENT in a file
  pub find_in : (ts : List Token) → Part (children (run_entry SourceFile ts) ts) k i v → Found (taken ts) (run_entry SourceFile ts) v
  find_in ts h =
      subst (λ (r : Skeleton). Found (taken ts) r v) (sym (entry_onward ts))
      (find (suc (length ts)) (taken ts) ts (record { stands = stands_taken ts; same = refl }) (le_refl _) (subst (λ (r : Skeleton). Part (children r ts) k i v) (entry_onward ts) h))
