-- The loop's bound is never reached, and as many calls as symbols, and one, are enough.
use Prim.Native.Nat.{ℕ, zero, suc, ◌≤◌, ◌<◌}
use native.Mathlib.Omega.{arith}
use mathlib.Core.Bool.{Bool, true, false}
use mathlib.Core.List.{List, [], ◌∷◌}
use lib.Dec.{ltb}
use lib.ListN.{length}
use Rattle.definitions.specs.TokenKind as K
use Rattle.definitions.specs.C.{Symbol, plain, arguments, Change, opens, closes, keeps, change, Expr, prefix, bracketed, binary, ternary}
use Rattle.precedence.proofs.Pratt.{Operand, prefixes, brackets, names, literals, nothing, operand, Operator, asks, binds, operator, is, Res, done, report, refused, spent, Reader, bind, expect_if, expect, Args, closed, unclosed, push, args_turn, args, invoked, named, lhs_by, lhs, bind_if, ask_if, step_by, step, loop, reader, cell}
use Rattle.precedence.proofs.Pratt as P

-- fewer than a symbols are left; a refusal has the cause R
abbrev pub Fin : ℕ → Type 0 → Res → Type 0
Fin a R (done e us) = length us < a
Fin a R (report p) = Unit {0}
Fin a R refused = R
Fin a R spent = ⊥

fin_bind : (a b : ℕ) (R S : Type 0) (x : Res) (f : Expr → List Symbol → Res) → Fin a R x → (R → S)
    → ((e : Expr) (us : List Symbol) → length us < a → Fin b S (f e us)) → Fin b S (bind x f)
fin_bind a b R S (done e us) f h r g = g e us h
fin_bind a b R S (report p) f h r g = tt
fin_bind a b R S refused f h r g = r h
fin_bind a b R S spent f h r g = absurd h

fin_weaken : (a b : ℕ) (R S : Type 0) (x : Res) → Fin a R x → a ≤ b → (R → S) → Fin b S x
fin_weaken a b R S (done e us) h l r = omega arith
fin_weaken a b R S (report p) h l r = tt
fin_weaken a b R S refused h l r = r h
fin_weaken a b R S spent h l r = h

fin_if : (a : ℕ) (R : Type 0) (t : Bool) (us : List Symbol) (x : Res) → Fin a R x → Fin a R (expect_if t us x)
fin_if a R true us x h = h
fin_if a R false us x h = tt

fin_expect : (a : ℕ) (R : Type 0) (k : ℕ) (us : List Symbol) (f : List Symbol → Res)
    → ((vs : List Symbol) → length vs < length us → Fin a R (f vs)) → Fin a R (expect k us f)
fin_expect a R k [] f h = tt
fin_expect a R k (x ∷ us) f h = fin_if a R (is k x) (x ∷ us) (f us) (h us (omega arith))

-- ---------------------------------------------------------------- operands

abbrev Short : ℕ → Args → Type 0
Short a (closed xs us) = length us < a
Short a unclosed = Unit {0}

short_push : (x : Symbol) (a : ℕ) (y : Args) → Short a y → Short (suc a) (push x y)
short_push x a (closed xs us) h = omega arith
short_push x a unclosed h = tt

short_turn : (t : Change) (x : Symbol) (f : ℕ → Args) (us : List Symbol) (n : ℕ) → ((m : ℕ) → Short (length us) (f m))
    → Short (suc (length us)) (args_turn t x f us n)
short_turn opens x f us n h = short_push x (length us) (f (suc n)) (h (suc n))
short_turn closes x f us zero h = omega arith
short_turn closes x f us (suc n) h = short_push x (length us) (f n) (h n)
short_turn keeps x f us n h = short_push x (length us) (f n) (h n)

short : (us : List Symbol) (n : ℕ) → Short (length us) (args us n)
short [] n = tt
short (x ∷ us) n = short_turn (change x) x (args us) us n (short us)

invoked_fin : (a b : ℕ) (R : Type 0) (x : Args) → Short a x → a ≤ b → Fin b R (invoked x)
invoked_fin a b R (closed xs us) h l = omega arith
invoked_fin a b R unclosed h l = tt

named_fin : (us : List Symbol) (R : Type 0) → Fin (suc (length us)) R (named us)
named_fin [] R = omega arith
named_fin (plain k ∷ us) R = omega arith
named_fin (arguments ∷ us) R = invoked_fin (length us) (suc (suc (length us))) R (args us 0) (short us 0) (omega arith)

module _ (d : ℕ) (rec : Reader) (ends : (m : ℕ) (us : List Symbol) → Fin (length us) (d ≤ length us) (rec m us)) where
  lhs_from : (y : Operand) (x : Symbol) (us : List Symbol) → Fin (suc (length us)) (suc d ≤ suc (length us)) (lhs_by y rec x us)
  lhs_from (prefixes k) x us =
      fin_bind (length us) (suc (length us)) (d ≤ length us) (suc d ≤ suc (length us)) (rec 23 us) (λ e vs. done (prefix k e) vs)
      (ends 23 us) (λ h. omega arith) (λ e vs h. omega arith)
  lhs_from brackets x us =
      fin_bind (length us) (suc (length us)) (d ≤ length us) (suc d ≤ suc (length us)) (rec 0 us)
      (λ e vs. expect K.RParen vs (λ ws. done (bracketed e) ws)) (ends 0 us) (λ h. omega arith)
      λ e vs h. fin_expect (suc (length us)) (suc d ≤ suc (length us)) K.RParen vs (λ ws. done (bracketed e) ws) (λ ws l. omega arith)
  lhs_from names x us = named_fin us (suc d ≤ suc (length us))
  lhs_from (literals k) x us = omega arith
  lhs_from nothing x us = tt

  lhs_fin : (us : List Symbol) → Fin (length us) (suc d ≤ length us) (lhs rec us)
  lhs_fin [] = tt
  lhs_fin (x ∷ us) = lhs_from (operand x) x us

  -- ---------------------------------------------------------------- the loop

  module _ (n : ℕ) (more : Expr → List Symbol → Res)
      (goes : (e : Expr) (us : List Symbol) → length us ≤ n → Fin (suc (length us)) (d ≤ length us) (more e us)) where
    bind_fin : (e : Expr) (k r : ℕ) (x : Symbol) (us : List Symbol) → length us ≤ n → (b : Bool)
        → Fin (suc (suc (length us))) (d ≤ suc (length us)) (bind_if b more rec e k r (x ∷ us) us)
    bind_fin e k r x us h true = omega arith
    bind_fin e k r x us h false =
        fin_bind (length us) (suc (suc (length us))) (d ≤ length us) (d ≤ suc (length us)) (rec r us) (λ f vs. more (binary e k f) vs)
        (ends r us) (λ l. omega arith)
        λ f vs l.
        fin_weaken (suc (length vs)) (suc (suc (length us))) (d ≤ length vs) (d ≤ suc (length us)) (more (binary e k f) vs)
        (goes (binary e k f) vs (omega arith)) (omega arith) (λ z. omega arith)

    ask_fin : (e : Expr) (x : Symbol) (us : List Symbol) → length us ≤ n → (b : Bool)
        → Fin (suc (suc (length us))) (d ≤ suc (length us)) (ask_if b more rec e (x ∷ us) us)
    ask_fin e x us h true = omega arith
    ask_fin e x us h false =
        let b = suc (suc (length us)) in
        let S = d ≤ suc (length us) in
        fin_bind (length us) b (d ≤ length us) S (rec 0 us)
        (λ a ws. expect K.Colon ws (λ xs. bind (rec 1 xs) (λ b ys. more (ternary e a b) ys))) (ends 0 us) (λ l. omega arith)
        λ a ws l.
        fin_expect b S K.Colon ws (λ xs. bind (rec 1 xs) (λ b ys. more (ternary e a b) ys))
        λ xs l'.
        fin_bind (length xs) b (d ≤ length xs) S (rec 1 xs) (λ b ys. more (ternary e a b) ys) (ends 1 xs) (λ z. omega arith)
        λ c ys l''.
        fin_weaken (suc (length ys)) b (d ≤ length ys) S (more (ternary e a c) ys) (goes (ternary e a c) ys (omega arith)) (omega arith) (λ z. omega arith)

    step_from : (y : Operator) (m : ℕ) (e : Expr) (x : Symbol) (us : List Symbol) → length us ≤ n
        → Fin (suc (suc (length us))) (d ≤ suc (length us)) (step_by y more rec m e x us)
    step_from asks m e x us h = ask_fin e x us h (ltb 2 m)
    step_from (binds k l r) m e x us h = bind_fin e k r x us h (ltb l m)
    step_from P.none m e x us h = omega arith

    step_fin : (m : ℕ) (e : Expr) (us : List Symbol) → length us ≤ suc n → Fin (suc (length us)) (d ≤ length us) (step more rec m e us)
    step_fin m e [] h = omega arith
    step_fin m e (x ∷ us) h = step_from (operator x) m e x us (omega arith)

  loop_fin : (n m : ℕ) (e : Expr) (us : List Symbol) → length us ≤ n → Fin (suc (length us)) (d ≤ length us) (loop rec n m e us)
  loop_fin zero m e [] h = omega arith
  loop_fin zero m e (x ∷ us) h = absurd (omega arith)
  loop_fin (suc n) m e us h = step_fin n (loop rec n m) (loop_fin n m) m e us h

pub reader_fin : (d m : ℕ) (us : List Symbol) → Fin (length us) (d ≤ length us) (reader d m us)
reader_fin zero m us = omega arith
reader_fin (suc d) m us =
    fin_bind (length us) (length us) (suc d ≤ length us) (suc d ≤ length us) (lhs (reader d) us) (λ e vs. loop (reader d) (length vs) m e vs)
    (lhs_fin d (reader d) (reader_fin d) us) (λ h. h)
    λ e vs l.
    fin_weaken (suc (length vs)) (length us) (d ≤ length vs) (suc d ≤ length us) (loop (reader d) (length vs) m e vs)
    (loop_fin d (reader d) (reader_fin d) (length vs) m e vs (omega arith)) l (λ z. omega arith)

pub cell_fin : (d : ℕ) (us : List Symbol) → Fin (length us) (d ≤ length us) (cell d us)
cell_fin d us =
    fin_bind (length us) (length us) (d ≤ length us) (d ≤ length us) (reader d 0 us) (λ e vs. expect K.RParen vs (λ ws. done e ws))
    (reader_fin d 0 us) (λ h. h)
    (λ e vs l. fin_expect (length us) (d ≤ length us) K.RParen vs (λ ws. done e ws) (λ ws l'. omega arith))
