-- What the reader reads without a report is an expression that C's table allows, and its symbols; a report comes before
-- any bracket is closed that was not opened.
use Prim.Native.Nat.{ℕ, zero, suc, ◌≤◌, ◌<◌}
use native.Mathlib.Omega.{arith}
use mathlib.Core.Path.{◌≡◌, refl, sym, ◌∙◌, ap}
use mathlib.Core.Bool.{Bool, true, false, cond}
use mathlib.Core.List.{List, [], ◌∷◌, ◌++◌, append-nil}
use mathlib.Core.Option.{Option, some}
use borrow.Author.Tests.{ltb-true, ltb-false, eqb-true}
use lib.Dec.{ltb, eqb}
use lib.ListN.{length}
use Rattle.definitions.specs.TokenKind as K
use Rattle.definitions.specs.C.{Symbol, plain, arguments, Change, opens, closes, keeps, change, changed, open_after, line_of, Expr, bracketed, prefix, binary, ternary, WellFormed}
use Rattle.precedence.proofs.Pratt.{Operand, prefixes, brackets, names, literals, nothing, operand, Operator, asks, binds, operator, Res, done, spent, Reader, bind, expect, Args, closed, unclosed, push, args_turn, args, invoked, named, lhs_by, lhs, bind_if, ask_if, step_by, step, loop, reader}
use Rattle.precedence.proofs.Pratt as P
use Rattle.precedence.proofs.Tables.{Powers, OperatorOf, operator_of, OperandOf, operand_of}
use Rattle.precedence.proofs.Powers.{lb, rb, powers, under_prefix, as_left, as_right, as_condition}
use Rattle.precedence.proofs.Base.{onto, not_none, open_up, flat_binary, flat_prefix_of, Before, before_refl, before_flat, before_open, before_onto, Stop, stop_all, Post, post_bind, post_expect}

-- e was read from us at the minimum m, and vs is left
pub record Read (m : ℕ) (us : List Symbol) (e : Expr) (vs : List Symbol) : Type 0 where
  pub well_formed : WellFormed e
  pub power : m ≤ lb e
  pub symbols_are : us ≡ onto e vs
  pub stops : Stop m vs

-- e was read from us as an operand
pub record First (us : List Symbol) (e : Expr) (vs : List Symbol) : Type 0 where
  pub well_formed : WellFormed e
  pub tight : 23 ≤ lb e
  pub tight' : 24 ≤ rb e
  pub symbols_are : us ≡ onto e vs

abbrev Sound : Reader → Type 0
Sound rec = (m : ℕ) → m ≤ 23 → (us : List Symbol) → Post (Read m us) (Before us) (rec m us)

-- after an expression
pub beyond : (e : Expr) → WellFormed e → (us vs p : List Symbol) → us ≡ onto e vs → Before vs p → Before us p
beyond e a us vs p h b = rw h (before_onto e a vs p b)

-- ---------------------------------------------------------------- argument lists

abbrev pub ArgsOf : List Symbol → ℕ → Args → Type 0
ArgsOf us n (closed xs vs) = (us ≡ xs ++ (plain K.RParen ∷ vs)) × (open_after xs n ≡ some 0)
ArgsOf us n unclosed = (m : ℕ) × (open_after us n ≡ some m)

turn_by : (k : ℕ) (b c : Bool) → eqb k K.RParen ≡ c → cond b opens (cond c closes keeps) ≡ closes → k ≡ K.RParen
turn_by k true c e h = cc
turn_by k false true e h = eqb-true k K.RParen e
turn_by k false false e h = cc

pub turn_closes : (x : Symbol) → change x ≡ closes → x ≡ plain K.RParen
turn_closes (plain k) h = ap plain (turn_by k (eqb k K.LParen) (eqb k K.RParen) refl h)
turn_closes arguments h = cc

-- one symbol more, which takes the count from n to n'
push_of : (x : Symbol) (us : List Symbol) (n n' : ℕ) (y : Args) → ((f : ℕ → Option ℕ) → changed (change x) f n ≡ f n')
    → ArgsOf us n' y → ArgsOf (x ∷ us) n (push x y)
push_of x us n n' (closed xs vs) e h = (rw h.0, e (open_after xs) ∙ h.1)
push_of x us n n' unclosed e h = (h.0, e (open_after us) ∙ h.1)

turn_of : (t : Change) (x : Symbol) (us : List Symbol) (n : ℕ) → change x ≡ t → ((m : ℕ) → ArgsOf us m (args us m))
    → ArgsOf (x ∷ us) n (args_turn t x (args us) us n)
turn_of opens x us n h ih = push_of x us n (suc n) (args us (suc n)) (λ f. rw h) (ih (suc n))
turn_of closes x us zero h ih = (rw (turn_closes x h), refl)
turn_of closes x us (suc n) h ih = push_of x us (suc n) n (args us n) (λ f. rw h) (ih n)
turn_of keeps x us n h ih = push_of x us n n (args us n) (λ f. rw h) (ih n)

pub args_of : (us : List Symbol) (n : ℕ) → ArgsOf us n (args us n)
args_of [] n = (n, refl)
args_of (x ∷ us) n = turn_of (change x) x us n refl (args_of us)

more_open : (us : List Symbol) → (m : ℕ) × (open_after us 0 ≡ some m) → (n : ℕ) → (m : ℕ) × (open_after us n ≡ some m)
more_open us h zero = h
more_open us h (suc n) = let o = more_open us h n in (suc o.0, open_up us n o.0 o.1)

-- ---------------------------------------------------------------- operands

abbrev FirstOf : List Symbol → Res → Type 0
FirstOf us x = Post (First us) (Before us) x

invoked_sound : (us : List Symbol) (x : Args) → ArgsOf us 0 x → FirstOf (plain K.Ident ∷ arguments ∷ us) (invoked x)
invoked_sound us (closed xs vs) h = record { well_formed = h.1; tight = omega arith; tight' = omega arith; symbols_are = rw h.0 }
invoked_sound us unclosed h =
    record {
      passed = plain K.Ident ∷ arguments ∷ us;
      split = sym (append-nil (plain K.Ident ∷ arguments ∷ us));
      inside = λ n z. let o = more_open us h (suc n) in not_none o.0 (sym o.1 ∙ z);
    }

named_sound : (us : List Symbol) → FirstOf (plain K.Ident ∷ us) (named us)
named_sound [] = record { well_formed = tt; tight = omega arith; tight' = omega arith; symbols_are = refl }
named_sound (plain k ∷ us) = record { well_formed = tt; tight = omega arith; tight' = omega arith; symbols_are = refl }
named_sound (arguments ∷ us) = invoked_sound us (args us 0) (args_of us 0)

module _ (rec : Reader) (sound : Sound rec) where
  prefix_sound : (k : ℕ) (us : List Symbol) → OperandOf (plain k) (prefixes k) → FirstOf (plain k ∷ us) (lhs_by (prefixes k) rec (plain k) us)
  prefix_sound k us h =
      post_bind (Read 23 us) (Before us) (First (plain k ∷ us)) (Before (plain k ∷ us)) (rec 23 us)
      (λ e vs. done (prefix k e) vs) (sound 23 (omega arith) us) (λ q b. before_flat (plain k) us q (flat_prefix_of k h.1) b)
      λ e vs r.
      record {
        well_formed = (h.1, r.well_formed, under_prefix e (powers e r.well_formed) r.power);
        tight = omega arith;
        tight' = omega arith;
        symbols_are = rw r.symbols_are;
      }

  bracket_sound : (us : List Symbol) → FirstOf (plain K.LParen ∷ us) (lhs_by brackets rec (plain K.LParen) us)
  bracket_sound us =
      post_bind (Read 0 us) (Before us) (First (plain K.LParen ∷ us)) (Before (plain K.LParen ∷ us)) (rec 0 us)
      (λ e vs. expect K.RParen vs (λ ws. done (bracketed e) ws)) (sound 0 (omega arith) us) (λ q b. before_open us q b)
      λ e vs r.
      post_expect (First (plain K.LParen ∷ us)) (Before (plain K.LParen ∷ us)) K.RParen vs (λ ws. done (bracketed e) ws)
      (before_open us vs (beyond e r.well_formed us vs vs r.symbols_are (before_refl vs)))
      λ ws h.
      let y = r.symbols_are in
      record { well_formed = r.well_formed; tight = omega arith; tight' = omega arith; symbols_are = cc }

  lhs_from : (y : Operand) (x : Symbol) (us : List Symbol) → OperandOf x y → FirstOf (x ∷ us) (lhs_by y rec x us)
  lhs_from (prefixes k) x us h = rw h.0 (prefix_sound k us (refl, h.1))
  lhs_from brackets x us h = rw h (bracket_sound us)
  lhs_from names x us h = rw h (named_sound us)
  lhs_from (literals k) x us h = rw h.0 (record { well_formed = h.1; tight = omega arith; tight' = omega arith; symbols_are = refl })
  lhs_from nothing x us h = before_refl (x ∷ us)

  lhs_sound : (us : List Symbol) → FirstOf us (lhs rec us)
  lhs_sound [] = before_refl []
  lhs_sound (x ∷ us) = lhs_from (operand x) x us (operand_of x)

  -- ---------------------------------------------------------------- the loop

  module _ (m : ℕ) (small : m ≤ 23) (more : Expr → List Symbol → Res)
      (goes : (e : Expr) (us : List Symbol) → WellFormed e → m ≤ lb e → Stop (rb e) us → Post (Read m (onto e us)) (Before (onto e us)) (more e us)) where
    bind_sound : (e : Expr) (k l r : ℕ) (us : List Symbol) → WellFormed e → m ≤ lb e → l < rb e → Powers (line_of k) l r
        → (l < m → Stop m (plain k ∷ us)) → (b : Bool) → ltb l m ≡ b
        → Post (Read m (onto e (plain k ∷ us))) (Before (onto e (plain k ∷ us))) (bind_if b more rec e k r (plain k ∷ us) us)
    bind_sound e k l r us a h s pw st true t = record { well_formed = a; power = h; symbols_are = refl; stops = st (ltb-true l m t) }
    bind_sound e k l r us a h s pw st false t =
        let low : 1 ≤ line_of k = omega arith in
        let ml = ltb-false l m t in
        post_bind (Read r us) (Before us) (Read m (onto e (plain k ∷ us))) (Before (onto e (plain k ∷ us))) (rec r us)
        (λ f vs. more (binary e k f) vs) (sound r (omega arith) us)
        (λ q b. before_onto e a (plain k ∷ us) q (before_flat (plain k) us q (flat_binary k low) b))
        λ f vs d.
        let ok : WellFormed (binary e k f) =
        (low, a, d.well_formed, as_left e (powers e a) (line_of k) l r pw s, as_right f (powers f d.well_formed) (line_of k) l r pw d.power) in
        let lb-is : l ≡ lb (binary e k f) = omega arith in
        let rb-is : r ≡ rb (binary e k f) = omega arith in
        rw d.symbols_are (goes (binary e k f) vs ok (omega arith) (rw rb-is at d.stops))

    ask_sound : (e : Expr) (us : List Symbol) → WellFormed e → m ≤ lb e → 2 < rb e → (2 < m → Stop m (plain K.QuestionMark ∷ us)) → (b : Bool) → ltb 2 m ≡ b
        → Post (Read m (onto e (plain K.QuestionMark ∷ us))) (Before (onto e (plain K.QuestionMark ∷ us))) (ask_if b more rec e (plain K.QuestionMark ∷ us) us)
    ask_sound e us a h s st true t = record { well_formed = a; power = h; symbols_are = refl; stops = st (ltb-true 2 m t) }
    ask_sound e us a h s st false t =
        let D : Expr → List Symbol → Type 0 = Read m (onto e (plain K.QuestionMark ∷ us)) in
        let Q : List Symbol → Type 0 = Before (onto e (plain K.QuestionMark ∷ us)) in
        post_bind (Read 0 us) (Before us) D Q (rec 0 us)
        (λ x ws. expect K.Colon ws (λ xs. bind (rec 1 xs) (λ b ys. more (ternary e x b) ys))) (sound 0 (omega arith) us)
        (λ q b. before_onto e a (plain K.QuestionMark ∷ us) q (before_flat (plain K.QuestionMark) us q refl b))
        λ x ws d.
        post_expect D Q K.Colon ws (λ xs. bind (rec 1 xs) (λ b ys. more (ternary e x b) ys))
        (before_onto e a (plain K.QuestionMark ∷ us) ws
        (before_flat (plain K.QuestionMark) us ws refl (beyond x d.well_formed us ws ws d.symbols_are (before_refl ws))))
        λ xs z.
        post_bind (Read 1 xs) (Before xs) D Q (rec 1 xs) (λ b ys. more (ternary e x b) ys) (sound 1 (omega arith) xs)
        (λ q b. before_onto e a (plain K.QuestionMark ∷ us) q
        (before_flat (plain K.QuestionMark) us q refl
        (beyond x d.well_formed us ws q d.symbols_are (rw z (before_flat (plain K.Colon) xs q refl b)))))
        λ b ys g.
        rw (d.symbols_are, z, g.symbols_are)
        (goes (ternary e x b) ys (a, d.well_formed, g.well_formed, as_condition e (powers e a) s) (ltb-false 2 m t) g.stops)

    step_from : (y : Operator) (k : ℕ) (e : Expr) (us : List Symbol) → operator (plain k) ≡ y → OperatorOf k y → WellFormed e → m ≤ lb e
        → Stop (rb e) (plain k ∷ us) → Post (Read m (onto e (plain k ∷ us))) (Before (onto e (plain k ∷ us))) (step_by y more rec m e (plain k) us)
    step_from asks k e us o h a p s =
        let stops : 2 < m → Stop m (plain k ∷ us) = λ l. rw o l in
        rw h.0 (ask_sound e us a p (rw o at s) (rw h.0 at stops) (ltb 2 m) refl)
    step_from (binds j l r) k e us o h a p s =
        rw h.0 (bind_sound e k l r us a p (rw o at s) h.1 (λ z. rw o z) (ltb l m) refl)
    step_from P.none k e us o h a p s = record { well_formed = a; power = p; symbols_are = refl; stops = rw o tt }

    step_sound : (e : Expr) (us : List Symbol) → WellFormed e → m ≤ lb e → Stop (rb e) us
        → Post (Read m (onto e us)) (Before (onto e us)) (step more rec m e us)
    unfolding operator
    step_sound e [] a p s = record { well_formed = a; power = p; symbols_are = refl; stops = tt }
    step_sound e (plain k ∷ us) a p s = step_from (operator (plain k)) k e us refl (operator_of k) a p s
    step_sound e (arguments ∷ us) a p s = record { well_formed = a; power = p; symbols_are = refl; stops = tt }

  loop_sound : (n m : ℕ) → m ≤ 23 → (e : Expr) (us : List Symbol) → WellFormed e → m ≤ lb e → Stop (rb e) us
      → Post (Read m (onto e us)) (Before (onto e us)) (loop rec n m e us)
  loop_sound zero m small = step_sound m small (λ e us. spent) (λ e us a h s. tt)
  loop_sound (suc n) m small = step_sound m small (loop rec n m) (loop_sound n m small)

pub reader_sound : (d : ℕ) → Sound (reader d)
reader_sound zero m small us = tt
reader_sound (suc d) m small us =
    post_bind (First us) (Before us) (Read m us) (Before us) (lhs (reader d) us) (λ e vs. loop (reader d) (length vs) m e vs)
    (lhs_sound (reader d) (reader_sound d) us) (λ p b. b)
    λ e vs f.
    rw f.symbols_are
    (loop_sound (reader d) (reader_sound d) (length vs) m small e vs f.well_formed (omega arith) (stop_all (rb e) (omega arith) vs))
