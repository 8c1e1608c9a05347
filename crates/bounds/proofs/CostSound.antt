-- The analysis of Cost is sound, once for all programs.
use Prim.Native.Nat.{ℕ, suc, ◌+◌, max, ◌≤◌}
use native.Mathlib.Nat.{zero-add, le-max_left, le-max_right}
use native.Mathlib.Omega.{arith}
use mathlib.Core.Path.{◌≡◌, refl, sym, subst}
use mathlib.Core.Bool.{Bool, true, false, cond, ◌&&◌}
use lib.ListN.{length}
use borrow.Author.Tests.{leb-false}
use Rattle.definitions.specs.Skeleton.{Label, done}
use Rattle.definitions.specs.Prog.{choose, Ans, no, yes, also, again, Rule, Act, Prog, ret, act, ◌⨟◌, case, in_marker, loop, chain, brace, open_call}
use Rattle.definitions.specs.Run.{State, Out, mark_of, makes, add, marked, iter, chained, here as here_label, perform, exec}
use Rattle.basics.proofs.Tests.{cond-with, and_left, and_right}
use Rattle.bounds.proofs.Row.{Key, still, there, took, Row, get, any}
use Rattle.bounds.proofs.Cost.{Price, Bill, side, seq_row, case_row, seq_bill, case_bill, answers_also, never, raise_bill, pays, loop_bill, chain_bill, bill}
use Rattle.bounds.proofs.RowLaws.{in_any}
use Rattle.bounds.proofs.Paid.{Known, cost, cost_join, closed_cost, Fits, recost, widen, or_left, or_right, fits_at, Sound, then_fits, here_paid}
use Rattle.bounds.proofs.Turns.{iter_fits}
use Rattle.bounds.proofs.Chains.{raised, chain_fits}

no_also : (b : Bill) → answers_also b ≡ false → (d : Bool) (κ : Key) → get (side b d) also κ ≤ 0
unfolding answers_also
no_also b e false still = omega (arith, leb-false)
no_also b e false there = omega (arith, leb-false)
no_also b e false took = omega (arith, leb-false)
no_also b e true still = omega (arith, leb-false)
no_also b e true there = omega (arith, leb-false)
no_also b e true took = omega (arith, leb-false)

module _ (w : Price) where
  seq_fits : (p q : Bill) (Q : State → Out) → Sound w q Q → (d : Bool) (x : Ans) {s₀ s : State} {n : ℕ} → Fits w (get (side p d) x) s₀ s n
      → Fits w (get (side (seq_bill w.base p q) d) (Q s).ans) s₀ (Q s).state (n + cost w (Q s).made)
  unfolding seq_bill seq_row
  seq_fits p q Q S false x {s₀} {s} f = then_fits w (any p.cold) q (Q s).ans (widen w (in_any p.cold x) f) (λ d. S d s)
  seq_fits p q Q S true x {s₀} {s} f = then_fits w (any p.warm) q (Q s).ans (widen w (in_any p.warm x) f) (λ d. S d s)

  module _ (f : Row) (N Y L : Bill) (n y l : State → Out) (SN : Sound w N n) (SY : Sound w Y y) where
    case_fits : (x : Ans) → (x ≡ also → Sound w L l) → {s₀ s : State} {m : ℕ} → Fits w (get f x) s₀ s m
        → Fits w (get (case_row w.base f N Y L) (choose x n y l s).ans) s₀ (choose x n y l s).state (m + cost w (choose x n y l s).made)
    unfolding choose case_row
    case_fits no SL {s₀} {s} F = or_left w _ _ (n s).ans (then_fits w (get f no) N (n s).ans F (λ d. SN d s))
    case_fits yes SL {s₀} {s} F = or_right w _ _ (y s).ans (or_left w _ _ (y s).ans (then_fits w (λ κ. max (get f yes κ) (get f again κ)) Y (y s).ans (widen w (λ κ. le-max_left _ _) F) (λ d. SY d s)))
    case_fits again SL {s₀} {s} F = or_right w _ _ (y s).ans (or_left w _ _ (y s).ans (then_fits w (λ κ. max (get f yes κ) (get f again κ)) Y (y s).ans (widen w (λ κ. le-max_right _ _) F) (λ d. SY d s)))
    case_fits also SL {s₀} {s} F = or_right w _ _ (l s).ans (or_right w _ _ (l s).ans (then_fits w (get f also) L (l s).ans F (λ d. SL refl d s)))

  case_sound : (B N Y L : Bill) (n y l : State → Out) → Sound w N n → Sound w Y y → (d : Bool) (x : Ans) → (x ≡ also → Sound w L l) → {s₀ s : State} {m : ℕ} → Fits w (get (side B d) x) s₀ s m
      → Fits w (get (side (case_bill w.base B N Y L) d) (choose x n y l s).ans) s₀ (choose x n y l s).state (m + cost w (choose x n y l s).made)
  unfolding case_bill
  case_sound B N Y L n y l SN SY false x SL F = case_fits B.cold N Y L n y l SN SY x SL F
  case_sound B N Y L n y l SN SY true x SL F = case_fits B.warm N Y L n y l SN SY x SL F

  chain_sound : (p q : Bill) (Q : State → Out) → Sound w q Q → (chain_bill w p (raise_bill w.marker q)).ok ≡ true → (d : Bool) (s : State) (o : Out) → Fits w (get (side p d) o.ans) s o.state (cost w o.made)
      → Fits w (get (side (raise_bill w.marker (chain_bill w p (raise_bill w.marker q))) d) (chained Q s o).ans) s (chained Q s o).state (cost w (chained Q s o).made)
  unfolding chain_bill raise_bill
  chain_sound p q Q S e false s o F = chain_fits w p.cold q Q S (and_right q.ok _ (and_right p.ok _ e)) s o F
  chain_sound p q Q S e true s o F = chain_fits w p.warm q Q S (and_right q.ok _ (and_right p.ok _ e)) s o F

  abbrev start : Bool → Key → ℕ
  start false still = w.base
  start false there = 0
  start false took = 0
  start true still = 0
  start true there = w.base
  start true took = 0

  start_fits : (d : Bool) (s : State) → 1 ≤ w.base → Known d s → Fits w (start d) s s 0
  start_fits false s b k = record { key = still; paid = here_paid w false s b k }
  start_fits true s b k = record { key = there; paid = here_paid w true s b k }

  loop_fits : (q : Bill) (Q : State → Out) → Sound w q Q → (loop_bill w q).ok ≡ true → 1 ≤ w.base → Sound w (loop_bill w q) (λ s. iter (suc (length s.rest)) Q s)
  unfolding loop_bill
  loop_fits q Q S e b false s k = recost w (zero-add _) (iter_fits w q Q S (and_right q.ok _ e) (suc (length s.rest)) (start false) s s 0 (omega arith) (start_fits false s b k))
  loop_fits q Q S e b true s k = recost w (zero-add _) (iter_fits w q Q S (and_right q.ok _ e) (suc (length s.rest)) (start true) s s 0 (omega arith) (start_fits true s b k))

  mark_fits : (q : Bill) (Q : State → Out) → Sound w q Q → Sound w (raise_bill w.marker q) (λ s. marked s (Q s))
  unfolding marked makes cost
  mark_fits q Q S d s k = raised w q Q S d s k _ (omega (arith, closed_cost w (Q s).shape (mark_of s) (mark_of (Q s).state) done (Q s).made))

  module _ (one : 1 ≤ w.base) (t : Rule → Bill) (ask : Rule → State → Out) (A : (b : Label) (a : Act) → Sound w (bill w t (act a)) (perform b a)) (C : (r : Rule) → Sound w (t r) (ask r)) where
    ret_fits : (k : ℕ) (a : Ans) (d : Bool) (s : State) → Known d s → Fits w (get (side (bill w t (ret k a)) d) a) s s 0
    unfolding bill
    ret_fits k a false s h = fits_at w a (here_paid w false s one h)
    ret_fits k a true s h = fits_at w a (here_paid w true s one h)

    third : (b l : Bill) (L : State → Out) (x : Ans) (d : Bool) {s₀ s : State} {n : ℕ} → (l.ok ≡ true → Sound w l L) → (cond (answers_also b) l never).ok ≡ true → Fits w (get (side b d) x) s₀ s n → x ≡ also → Sound w (cond (answers_also b) l never) L
    third b l L x d {s₀} {s} {n} S e f a =
        cond-with (λ (y : Bill). y.ok ≡ true → Sound w y L) (answers_also b) (λ _. S)
        (λ u _.
        let g : Fits w (get (side b d) also) s₀ s n = subst (λ (y : Ans). Fits w (get (side b d) y) s₀ s n) a f in
        let h : get (side b d) also g.key ≤ 0 = no_also b u d g.key in
        let c : 1 ≤ get (side b d) also g.key = g.paid.can in
        absurd (omega arith))
        e

    pub exec_fits : (p : Prog) → (bill w t p).ok ≡ true → (b : Label) → Sound w (bill w t p) (exec ask b p)
    unfolding exec bill add cost
    exec_fits (ret k a) e b d s h = ret_fits k a d s h
    exec_fits (act a) e b d s h = A b a d s h
    exec_fits (p ⨟ q) e b d s h =
        recost w (sym (cost_join w (exec ask b p s).made _))
        (seq_fits (bill w t p) (bill w t q) (exec ask b q) (exec_fits q (and_right (bill w t p).ok _ e) b) d (exec ask b p s).ans (exec_fits p (and_left _ (bill w t q).ok e) b d s h))
    exec_fits (in_marker p) e b d s h = mark_fits (bill w t p) (exec ask b p) (exec_fits p e b) d s h
    exec_fits (loop p) e b d s h = loop_fits (bill w t p) (exec ask b p) (exec_fits p (and_left (bill w t p).ok _ e) b) e one d s h
    exec_fits (brace p) e b d s h = exec_fits p e (here_label s.rest) d s h
    exec_fits (open_call r) e b d s h = C r d s h
    exec_fits (chain p q) e b d s h =
        chain_sound (bill w t p) (bill w t q) (exec ask b q) (exec_fits q (and_left _ (pays w (raise_bill w.marker (bill w t q)).cold) (and_right (bill w t p).ok _ e)) b) e d s (exec ask b p s) (exec_fits p (and_left (bill w t p).ok _ e) b d s h)
    exec_fits (case c n y a) e b d s h =
        let F = exec_fits c (and_left _ (bill w t n).ok (and_left _ ((bill w t y).ok && (cond (answers_also (bill w t c)) (bill w t a) never).ok) e)) b d s h in
        let ey = and_right ((bill w t c).ok && (bill w t n).ok) _ e in
        recost w (sym (cost_join w (exec ask b c s).made _))
        (case_sound (bill w t c) (bill w t n) (bill w t y) (cond (answers_also (bill w t c)) (bill w t a) never) (exec ask b n) (exec ask b y) (exec ask b a)
        (exec_fits n (and_right (bill w t c).ok _ (and_left _ ((bill w t y).ok && (cond (answers_also (bill w t c)) (bill w t a) never).ok) e)) b)
        (exec_fits y (and_left (bill w t y).ok _ ey) b)
        d (exec ask b c s).ans
        (third (bill w t c) (bill w t a) (exec ask b a) (exec ask b c s).ans d (λ k. exec_fits a k b) (and_right (bill w t y).ok _ ey) F)
        F)
