-- A chain: its links are turns, and each completes a marker.
use Prim.Native.Nat.{ℕ, zero, suc, ◌+◌, ◌≤◌, ◌<◌}
use native.Mathlib.Nat.{le_refl, le_of_eq}
use native.Mathlib.Omega.{arith}
use mathlib.Core.Path.{◌≡◌, sym, subst}
use mathlib.Core.Bool.{Bool, true, false}
use lib.ListN.{length}
use Rattle.definitions.specs.Skeleton.{Skeleton, done, ◌⧺◌}
use Rattle.definitions.specs.Prog.{Ans, again}
use Rattle.definitions.specs.Run.{State, Out, mark_of, makes, closed, is_again, goes_on, unlinked, by_shape, links, chained}
use Rattle.laws.proofs.Fuel.{goes_on_shorter}
use Rattle.laws.proofs.Sound.{is_again_eq}
use Rattle.basics.proofs.Tests.{cond-with}
use Rattle.bounds.proofs.Row.{Key, Row, get, if_took, ◌⊔◌, raise, stopped}
use Rattle.bounds.proofs.Cost.{Price, Bill, side, raise_bill, pays, chain_row}
use Rattle.bounds.proofs.RowLaws.{stopped_is}
use Rattle.bounds.proofs.Paid.{Known, cost, cost_join, closed_cost, Fits, recost, widen, or_left, or_right, raise_fits, Goes, Sound}
use Rattle.bounds.proofs.Turns.{on, turning, goes, paying, turn_stops, turn_later}

module _ (w : Price) where
  pub raised : (q : Bill) (Q : State → Out) → Sound w q Q → (d : Bool) (s : State) → Known d s → (n : ℕ) → n ≤ w.marker + cost w (Q s).made → Fits w (get (side (raise_bill w.marker q) d) (Q s).ans) s (Q s).state n
  unfolding raise_bill
  raised q Q S false s k n h = raise_fits w w.marker q.cold (Q s).ans h (S false s k)
  raised q Q S true s k n h = raise_fits w w.marker q.warm (Q s).ans h (S true s k)

  -- what lies in a marker, and the marker
  record Wrapped (x : Key → ℕ) (s₀ s : State) (n : ℕ) : Type 0 where
    inner : ℕ
    most : n ≤ w.marker + inner
    fits : Fits w x s₀ s inner

  by_shape_with : (P : Out → Type 0) (k : ℕ) {o o' : Out} → P o → P o' → P (by_shape k o o')
  unfolding by_shape
  by_shape_with P zero p p' = p
  by_shape_with P (suc k) p p' = p'

  -- one more link, o, after w what lies in a and i. k: the kind that it completes its marker as
  module _ (x : Key → ℕ) (q : Bill) (s₀ s : State) (k m : ℕ) (a i : Skeleton) (o : Out) (f : Fits w x s₀ s (cost w a + cost w i))
      (g : (n : ℕ) → n ≤ w.marker + cost w o.made → Goes w q o.ans s o.state n) where
    abbrev linked : Skeleton
    linked = closed k m (mark_of o.state) a (i ⧺ o.made)

    linked_cost : cost w linked ≡ cost w a + cost w i + (w.marker + cost w o.made)
    linked_cost =
        let c : cost w (closed k m (mark_of o.state) a (i ⧺ o.made)) ≡ w.marker + (cost w a + cost w (i ⧺ o.made)) = closed_cost w k m _ a _ in
        let j : cost w (i ⧺ o.made) ≡ cost w i + cost w o.made = cost_join w i _ in
        omega arith

    link_off : Wrapped (get (turning w x q) o.ans) s₀ o.state (cost w (unlinked m a (i ⧺ o.made) o.ans o.state).made)
    unfolding unlinked makes
    link_off =
        let c : cost w (closed 0 m (mark_of o.state) a (i ⧺ o.made)) ≡ w.marker + (cost w a + cost w (i ⧺ o.made)) = closed_cost w 0 m _ a _ in
        let j : cost w (i ⧺ o.made) ≡ cost w i + cost w o.made = cost_join w i _ in
        record { inner = cost w a + cost w i + cost w o.made; most = omega arith; fits = turn_stops w x q o.ans f (g (cost w o.made) (omega arith)) }

    link_last : Wrapped (get (turning w x q) o.ans) s₀ o.state (cost w (unlinked (mark_of o.state) linked done o.ans o.state).made)
    unfolding unlinked makes cost
    link_last =
        let c : cost w (closed 0 (mark_of o.state) (mark_of o.state) linked done) ≡ w.marker + (cost w linked + 0) = closed_cost w 0 (mark_of o.state) (mark_of o.state) linked done in
        record { inner = cost w a + cost w i + (w.marker + cost w o.made); most = omega (arith, linked_cost); fits = turn_stops w x q o.ans f (g _ (le_refl _)) }

    link_on : goes_on s o ≡ true → Fits w (λ κ. if_took κ (on w x q)) s₀ o.state (cost w linked + cost w done)
    unfolding cost
    link_on e = recost w (omega (arith, linked_cost)) (goes w x q s₀ s o e f (g _ (le_refl _)))

  links_fits : (q : Bill) (Q : State → Out) → Sound w q Q → pays w (raise_bill w.marker q).cold ≡ true → (n : ℕ) (x : Key → ℕ) (s₀ s : State) (m : ℕ) (a i : Skeleton) → length s.rest < n → Fits w x s₀ s (cost w a + cost w i)
      → Wrapped (get (turning w x (raise_bill w.marker q)) (links n Q m a i s).ans) s₀ (links n Q m a i s).state (cost w (links n Q m a i s).made)
  unfolding links
  links_fits q Q S P zero x s₀ s m a i l f = absurd (omega arith)
  links_fits q Q S P (suc n) x s₀ s m a i l f =
      let g : (n : ℕ) → n ≤ w.marker + cost w (Q s).made → Goes w (raise_bill w.marker q) (Q s).ans s (Q s).state n = λ n h d k. raised q Q S d s k n h in
      by_shape_with R (Q s).shape (link_off x (raise_bill w.marker q) s₀ s 0 m a i (Q s) f g)
      (cond-with R (goes_on s (Q s))
      (λ e. later (links n Q (mark_of (Q s).state) (closed (Q s).shape m (mark_of (Q s).state) a (i ⧺ (Q s).made)) done (Q s).state) (links_fits q Q S P n (λ κ. if_took κ (on w x (raise_bill w.marker q))) s₀ (Q s).state _ _ done (omega (arith, goes_on_shorter s (Q s) e)) (link_on x (raise_bill w.marker q) s₀ s (Q s).shape m a i (Q s) f g e)))
      (λ _. link_last x (raise_bill w.marker q) s₀ s (Q s).shape m a i (Q s) f g))
    where
      R : Out → Type 0
      R y = Wrapped (get (turning w x (raise_bill w.marker q)) y.ans) s₀ y.state (cost w y.made)

      later : (y : Out) → Wrapped (get (turning w (λ κ. if_took κ (on w x (raise_bill w.marker q))) (raise_bill w.marker q)) y.ans) s₀ y.state (cost w y.made) → R y
      later y h = record { inner = h.inner; most = h.most; fits = turn_later w x (raise_bill w.marker q) y.ans (paying w _ P) h.fits }

  stopped_fits : (f : Row) (a : Ans) {s₀ s : State} {n : ℕ} → is_again a ≡ false → Fits w (get f a) s₀ s n → Fits w (get (stopped f) a) s₀ s n
  stopped_fits f a e h = widen w (λ κ. le_of_eq (sym (stopped_is f a κ e))) h

  -- a chain after w its first program, o
  pub chain_fits : (f : Row) (q : Bill) (Q : State → Out) → Sound w q Q → pays w (raise_bill w.marker q).cold ≡ true → (s : State) (o : Out) → Fits w (get f o.ans) s o.state (cost w o.made)
      → Fits w (get (raise w.marker (chain_row w f (raise_bill w.marker q))) (chained Q s o).ans) s (chained Q s o).state (cost w (chained Q s o).made)
  unfolding chained chain_row cost
  chain_fits f q Q S P s o F =
      cond-with (λ (y : Out). Fits w (get (raise w.marker (stopped f ⊔ turning w (get f again) (raise_bill w.marker q))) y.ans) s y.state (cost w y.made)) (is_again o.ans)
      (λ e. on_fits (links (suc (length o.state.rest)) Q (mark_of s) done o.made o.state) (links_fits q Q S P (suc (length o.state.rest)) (get f again) s o.state (mark_of s) done o.made (omega arith) (recost w (omega arith) (subst (λ (a : Ans). Fits w (get f a) s o.state (cost w o.made)) (is_again_eq o.ans e) F))))
      (λ e. raise_fits w w.marker _ o.ans (omega (arith, closed_cost w 0 (mark_of s) (mark_of o.state) done o.made)) (or_left w _ _ o.ans (stopped_fits f o.ans e F)))
    where
      on_fits : (y : Out) → Wrapped (get (turning w (get f again) (raise_bill w.marker q)) y.ans) s y.state (cost w y.made) → Fits w (get (raise w.marker (stopped f ⊔ turning w (get f again) (raise_bill w.marker q))) y.ans) s y.state (cost w y.made)
      on_fits y h = raise_fits w w.marker _ y.ans h.most (or_right w _ _ y.ans h.fits)
