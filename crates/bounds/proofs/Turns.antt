-- The turns of a loop: each that goes on moved the cursor, and costs no more than its tokens bring.
use Prim.Native.Nat.{ℕ, zero, suc, ◌+◌, ◌-◌, ◌*◌, max, ◌≤◌, ◌<◌}
use native.Mathlib.Nat.{le_trans, le_refl, le_of_eq, le-max_left, le-max_right, max-le, mul-le-mul_left}
use native.Mathlib.Omega.{arith}
use mathlib.Core.Path.{◌≡◌, sym, ◌∙◌, subst}
use mathlib.Core.Bool.{true, false}
use lib.ListN.{length}
use borrow.Author.Tests.{leb-true}
use Rattle.definitions.specs.Skeleton.{◌⧺◌}
use Rattle.definitions.specs.Prog.{Ans, again}
use Rattle.definitions.specs.Run.{State, Out, makes, add, is_again, goes_on, iter}
use Rattle.laws.proofs.Fuel.{goes_on_shorter}
use Rattle.laws.proofs.Sound.{is_again_eq}
use Rattle.basics.proofs.Tests.{cond-with, and_left}
use Rattle.bounds.proofs.Row.{Key, still, there, took, Row, get, glue, lower, if_took, moved, then, last, going, turns}
use Rattle.bounds.proofs.Cost.{Price, Bill, side, pays}
use Rattle.bounds.proofs.RowLaws.{least_right, or_most, glue_less, glue_mono, lower_pays, then_is}
use Rattle.bounds.proofs.Paid.{cost, cost_join, Paid, Fits, weaken, after, recost, widen, or_left, Goes, Sound, then_fits}

module _ (w : Price) where
  -- ---------------------------------------------------------------- turns

  abbrev pub moving : Row → ℕ
  unfolding moved
  moving u = moved w.credit u.again_still u.again_there u.again_took

  abbrev pub on : (Key → ℕ) → Bill → ℕ
  unfolding going
  on x q = going w.credit w.base (x still) (x there) (x took) q.cold q.warm

  abbrev pub turning : (Key → ℕ) → Bill → Row
  unfolding turns
  turning x q = turns w.credit w.base (x still) (x there) (x took) q.cold q.warm

  -- the first token that was passed gives its credit back
  lower_paid : (v d n : ℕ) → 1 ≤ d → 1 ≤ v → n + w.base ≤ v + w.credit * (d - 1) → (1 ≤ lower w.credit v) × (n + w.base ≤ lower w.credit v + w.credit * d)
  lower_paid v d n h c e =
      let f : w.credit * (d - 1 + 1) ≤ w.credit * d = mul-le-mul_left w.credit (omega arith) in
      lower_pays w.credit v n w.base (w.credit * (d - 1)) (w.credit * d) c e (omega arith)

  moved_at : (κ : Key) (x : Key → ℕ) {s s' : State} {n : ℕ} → length s'.rest < length s.rest → Paid w κ (x κ) s s' n → Paid w took (moved w.credit (x still) (x there) (x took)) s s' n
  unfolding moved
  moved_at still x {s} {s'} {n} h p =
      let a : length s'.rest + p.steps ≡ length s.rest = p.left in
      let l = lower_paid _ p.steps n (omega arith) p.can p.enough in
      weaken w (le-max_left _ _) (record { steps = p.steps; left = p.left; holds = omega arith; can = l.0; enough = l.1 })
  moved_at there x {s} {s'} {n} h p =
      let a : length s'.rest + p.steps ≡ length s.rest = p.left in
      let l = lower_paid _ p.steps n (omega arith) p.can p.enough in
      weaken w (le_trans (le-max_left _ _) (le-max_right _ _)) (record { steps = p.steps; left = p.left; holds = omega arith; can = l.0; enough = l.1 })
  moved_at took x h p = weaken w (le_trans (le-max_right _ _) (le-max_right _ _)) p

  goes_at : (j : Key) (x : Key → ℕ) (q : Bill) {s₀ s s' : State} {n n' : ℕ} → Paid w j (x j) s₀ s n → Goes w q again s s' n' → length s'.rest < length s.rest → Paid w took (on x q) s₀ s' (n + n')
  unfolding going
  goes_at still x q p g h = let f = g false tt in weaken w (le-max_left _ _) (after w (weaken w (le-max_left _ _) p) (moved_at f.key (get q.cold again) h f.paid))
  goes_at there x q p g h = let f = g true p.holds in weaken w (le-max_right _ _) (after w p (moved_at f.key (get q.warm again) h f.paid))
  goes_at took x q p g h = let f = g false tt in weaken w (le-max_left _ _) (after w (weaken w (le-max_right _ _) p) (moved_at f.key (get q.cold again) h f.paid))

  -- a turn that goes on
  turn_goes : (x : Key → ℕ) (q : Bill) {s₀ s s' : State} {n n' : ℕ} → Fits w x s₀ s n → Goes w q again s s' n' → length s'.rest < length s.rest → Fits w (λ κ. if_took κ (on x q)) s₀ s' (n + n')
  turn_goes x q f g h = record { key = took; paid = goes_at f.key x q f.paid g h }

  -- the last turn
  pub turn_stops : (x : Key → ℕ) (q : Bill) (a : Ans) {s₀ s s' : State} {n n' : ℕ} → Fits w x s₀ s n → Goes w q a s s' n' → Fits w (get (turning x q) a) s₀ s' (n + n')
  unfolding turns
  turn_stops x q a f g = or_left w _ _ a (then_fits w x q a f g)

  -- the turns after w one that went on
  last_mono : (v v' : ℕ) (u : Row) (a : Ans) (κ : Key) → v ≤ v' → get (last w.base v u) a κ ≤ get (last w.base v' u) a κ
  unfolding last glue
  last_mono v v' u a still h = rw (then_is w.base 0 0 v u u a still, then_is w.base 0 0 v' u u a still) (le_refl _)
  last_mono v v' u a there h = rw (then_is w.base 0 0 v u u a there, then_is w.base 0 0 v' u u a there) (le_refl _)
  last_mono v v' u a took h = rw (then_is w.base 0 0 v u u a took, then_is w.base 0 0 v' u u a took) (max-le (le-max_left _ _) (le_trans (glue_mono w.base v v' _ h) (le-max_right _ _)))

  then_last : (v : ℕ) (u k : Row) (a : Ans) (κ : Key) → get (then w.base 0 0 v u k) a κ ≤ get (last w.base v u) a κ
  unfolding last glue
  then_last v u k a still = le_of_eq (then_is w.base 0 0 v u k a still ∙ sym (then_is w.base 0 0 v u u a still))
  then_last v u k a there = le_of_eq (then_is w.base 0 0 v u k a there ∙ sym (then_is w.base 0 0 v u u a there))
  then_last v u k a took = le_of_eq (then_is w.base 0 0 v u k a took ∙ sym (then_is w.base 0 0 v u u a took))

  going_less : (v : ℕ) (u k : Row) → moving u ≤ w.base → going w.credit w.base 0 0 v u k ≤ v
  unfolding going glue
  going_less v u k h = max-le (le_trans (glue_less w.base (max 0 v) (moving u) h) (omega arith)) (omega arith)

  turns_again : (x : Key → ℕ) (q : Bill) (a : Ans) (κ : Key) → moving q.cold ≤ w.base → get (turning (λ j. if_took j (on x q)) q) a κ ≤ get (turning x q) a κ
  unfolding turns
  turns_again x q a κ h =
      or_most _ _ a κ (le_trans (then_last (on x q) q.cold q.warm a κ) (least_right _ _ a κ)) (le_trans (last_mono _ _ q.cold a κ (going_less (on x q) q.cold q.warm h)) (least_right _ _ a κ))

  pub turn_later : (x : Key → ℕ) (q : Bill) (a : Ans) {s₀ s : State} {n : ℕ} → moving q.cold ≤ w.base → Fits w (get (turning (λ κ. if_took κ (on x q)) q) a) s₀ s n → Fits w (get (turning x q) a) s₀ s n
  turn_later x q a h f = widen w (λ κ. turns_again x q a κ h) f

  -- ---------------------------------------------------------------- loops and chains

  -- a turn that goes on
  pub goes : (x : Key → ℕ) (q : Bill) (s₀ s : State) (o : Out) {n n' : ℕ} → goes_on s o ≡ true → Fits w x s₀ s n → Goes w q o.ans s o.state n' → Fits w (λ κ. if_took κ (on x q)) s₀ o.state (n + n')
  unfolding goes_on
  goes x q s₀ s o {n} {n'} e f g =
      turn_goes x q f
      (λ d k. subst (λ (a : Ans). Fits w (get (side q d) a) s o.state n') (is_again_eq o.ans (and_left (is_again o.ans) _ e)) (g d k))
      (goes_on_shorter s o e)

  pub paying : (u : Row) → pays w u ≡ true → moving u ≤ w.base
  unfolding pays
  paying u e = leb-true _ _ e

  pub iter_fits : (q : Bill) (Q : State → Out) → Sound w q Q → pays w q.cold ≡ true → (n : ℕ) (x : Key → ℕ) (s₀ s : State) (n₀ : ℕ) → length s.rest < n → Fits w x s₀ s n₀
      → Fits w (get (turning x q) (iter n Q s).ans) s₀ (iter n Q s).state (n₀ + cost w (iter n Q s).made)
  unfolding iter makes add
  iter_fits q Q S P zero x s₀ s n₀ l f = absurd (omega arith)
  iter_fits q Q S P (suc n) x s₀ s n₀ l f =
      cond-with (λ (o : Out). Fits w (get (turning x q) o.ans) s₀ o.state (n₀ + cost w o.made)) (goes_on s (Q s))
      (λ e.
      let h = iter_fits q Q S P n (λ κ. if_took κ (on x q)) s₀ (Q s).state (n₀ + cost w (Q s).made) (omega (arith, goes_on_shorter s (Q s) e)) (goes x q s₀ s (Q s) e f (λ d. S d s)) in
      let j : cost w ((Q s).made ⧺ (iter n Q (Q s).state).made) ≡ cost w (Q s).made + cost w (iter n Q (Q s).state).made = cost_join w (Q s).made _ in
      recost w (omega arith) (turn_later x q (iter n Q (Q s).state).ans (paying q.cold P) h))
      (λ _. turn_stops x q (Q s).ans f (λ d. S d s))
