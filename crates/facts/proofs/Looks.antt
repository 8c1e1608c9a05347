-- What a look says of an answer is right in the looks that are made of it.
use Prim.Native.Nat.{ℕ, zero, suc}
use mathlib.Core.Path.{◌≡◌}
use mathlib.Core.Bool.{Bool, true, false, true≢false}
use Rattle.definitions.specs.Prog.{Ans, no, yes, also, again}
use Rattle.definitions.specs.Run.{State, is_again}
use Rattle.basics.proofs.Tests.{and_left, and_right}
use Rattle.facts.proofs.Facts.{Fact, fact_within, taken_before}
use Rattle.facts.proofs.Look.{Look, get, only, any_of, and_ok, either, unshaped, stopped, later, again_of, looks_within}
use Rattle.facts.proofs.Holds.{Holds, holds_left, holds_right, holds_weaken}

module _ (s₀ s : State) where
  pub in_only : (a : Ans) (k : ℕ) (d : Fact) → Holds d s₀ s → Holds (get (only a k d) a k) s₀ s
  unfolding only get
  in_only no k d h = h
  in_only yes k d h = h
  in_only also k d h = h
  in_only again zero d h = h
  in_only again (suc k) d h = h

  pub in_and : (b : Bool) (l : Look) (a : Ans) (k : ℕ) → Holds (get l a k) s₀ s → Holds (get (and_ok b l) a k) s₀ s
  unfolding get
  in_and b l no k h = h
  in_and b l yes k h = h
  in_and b l also k h = h
  in_and b l again zero h = h
  in_and b l again (suc k) h = h

  pub in_first : (l m : Look) (a : Ans) (k : ℕ) → Holds (get l a k) s₀ s → Holds (get (either l m) a k) s₀ s
  unfolding get
  in_first l m no k h = holds_left l.if_no m.if_no s₀ s h
  in_first l m yes k h = holds_left l.if_yes m.if_yes s₀ s h
  in_first l m also k h = holds_left l.if_also m.if_also s₀ s h
  in_first l m again zero h = holds_left l.if_again m.if_again s₀ s h
  in_first l m again (suc k) h = holds_left l.if_linked m.if_linked s₀ s h

  pub in_second : (l m : Look) (a : Ans) (k : ℕ) → Holds (get m a k) s₀ s → Holds (get (either l m) a k) s₀ s
  unfolding get
  in_second l m no k h = holds_right l.if_no m.if_no s₀ s h
  in_second l m yes k h = holds_right l.if_yes m.if_yes s₀ s h
  in_second l m also k h = holds_right l.if_also m.if_also s₀ s h
  in_second l m again zero h = holds_right l.if_again m.if_again s₀ s h
  in_second l m again (suc k) h = holds_right l.if_linked m.if_linked s₀ s h

  -- whatever the answer was
  pub in_any : (l : Look) (a : Ans) (k : ℕ) → Holds (get l a k) s₀ s → Holds (any_of l) s₀ s
  unfolding get
  in_any l no k h = holds_left l.if_no _ s₀ s h
  in_any l yes k h = holds_right l.if_no _ s₀ s (holds_left l.if_yes _ s₀ s h)
  in_any l also k h = holds_right l.if_no _ s₀ s (holds_right l.if_yes _ s₀ s (holds_left l.if_also _ s₀ s h))
  in_any l again zero h = holds_right l.if_no _ s₀ s (holds_right l.if_yes _ s₀ s (holds_right l.if_also _ s₀ s (holds_left l.if_again _ s₀ s h)))
  in_any l again (suc k) h = holds_right l.if_no _ s₀ s (holds_right l.if_yes _ s₀ s (holds_right l.if_also _ s₀ s (holds_right l.if_again _ s₀ s h)))

  -- again, whatever it shapes
  pub in_again : (l : Look) (k : ℕ) → Holds (get l again k) s₀ s → Holds (again_of l) s₀ s
  unfolding get
  in_again l zero h = holds_left l.if_again l.if_linked s₀ s h
  in_again l (suc k) h = holds_right l.if_again l.if_linked s₀ s h

  pub in_unshaped : (l : Look) (a : Ans) (k : ℕ) → Holds (get l a k) s₀ s → Holds (get (unshaped l) a 0) s₀ s
  unfolding get
  in_unshaped l no k h = h
  in_unshaped l yes k h = h
  in_unshaped l also k h = h
  in_unshaped l again k h = in_again l k h

  pub in_stopped : (l : Look) (a : Ans) (k j : ℕ) → is_again a ≡ false → Holds (get l a k) s₀ s → Holds (get (stopped l) a j) s₀ s
  unfolding get is_again
  in_stopped l no k j e h = h
  in_stopped l yes k j e h = h
  in_stopped l also k j e h = h
  in_stopped l again k j e h = absurd (true≢false e)

  pub in_later : (l : Look) (a : Ans) (k : ℕ) → Holds (taken_before (get l a k)) s₀ s → Holds (get (later l) a k) s₀ s
  unfolding get
  in_later l no k h = h
  in_later l yes k h = h
  in_later l also k h = h
  in_later l again zero h = h
  in_later l again (suc k) h = h

  pub in_weaken : (l m : Look) → looks_within l m ≡ true → (a : Ans) (k : ℕ) → Holds (get l a k) s₀ s → Holds (get m a k) s₀ s
  unfolding looks_within get
  in_weaken l m e no k h = holds_weaken l.if_no m.if_no s₀ s (and_left (fact_within l.if_no m.if_no) _ (and_right l.ok _ e)) h
  in_weaken l m e yes k h =
      holds_weaken l.if_yes m.if_yes s₀ s (and_left (fact_within l.if_yes m.if_yes) _ (and_right (fact_within l.if_no m.if_no) _ (and_right l.ok _ e))) h
  in_weaken l m e also k h =
      holds_weaken l.if_also m.if_also s₀ s
      (and_left (fact_within l.if_also m.if_also) _ (and_right (fact_within l.if_yes m.if_yes) _ (and_right (fact_within l.if_no m.if_no) _ (and_right l.ok _ e)))) h
  in_weaken l m e again zero h =
      holds_weaken l.if_again m.if_again s₀ s
      (and_left (fact_within l.if_again m.if_again) _
      (and_right (fact_within l.if_also m.if_also) _ (and_right (fact_within l.if_yes m.if_yes) _ (and_right (fact_within l.if_no m.if_no) _ (and_right l.ok _ e))))) h
  in_weaken l m e again (suc k) h =
      holds_weaken l.if_linked m.if_linked s₀ s
      (and_right (fact_within l.if_again m.if_again) _
      (and_right (fact_within l.if_also m.if_also) _ (and_right (fact_within l.if_yes m.if_yes) _ (and_right (fact_within l.if_no m.if_no) _ (and_right l.ok _ e))))) h
