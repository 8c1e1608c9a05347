-- The lexical errors after a semicolon: which rows they are, and how they move.
use Prim.Native.Nat.{ℕ, suc, ◌+◌, ◌≤◌}
use native.Mathlib.Nat.{le_refl}
use native.Mathlib.Omega.{arith}
use mathlib.Core.Path.{◌≡◌, refl, ap, ◌∙◌}
use mathlib.Core.Bool.{Bool, true, false, cond}
use mathlib.Core.List.{List, [], ◌∷◌, ◌++◌}
use borrow.Author.Tests.{lt-ltb, le-ltb}
use Rattle.definitions.specs.Token.{Token, is_error, byte_count}
use Rattle.rows.specs.ResultRows.{Row, start}
use Rattle.recovery.specs.Recovery.{those, later_error, Moved, Pairwise, none, more, ErrorMoved}
use Rattle.recovery.proofs.Written.{errors_of}

-- ---------------------------------------------------------------- those of some rows

abbrev pub Every : (Row → Type 0) → List Row → Type 0
Every P [] = Unit {0}
Every P (r ∷ l) = P r × Every P l

pub those_append : (f : Row → Bool) (l m : List Row) → those f (l ++ m) ≡ those f l ++ those f m
unfolding those
those_append f [] m = refl
those_append f (r ∷ l) m = go (f r) (those_append f l m)
  where
    go : (b : Bool) → those f (l ++ m) ≡ those f l ++ those f m → cond b (r ∷ those f (l ++ m)) (those f (l ++ m)) ≡ cond b (r ∷ those f l) (those f l) ++ those f m
    go true h = ap (r ∷◌) h
    go false h = h

pub those_all : (f : Row → Bool) (l : List Row) → Every (λ r. f r ≡ true) l → those f l ≡ l
unfolding those
those_all f [] h = refl
those_all f (r ∷ l) h = ap (λ (b : Bool). cond b (r ∷ those f l) (those f l)) h.0 ∙ ap (r ∷◌) (those_all f l h.1)

pub those_none : (f : Row → Bool) (l : List Row) → Every (λ r. f r ≡ false) l → those f l ≡ []
unfolding those
those_none f [] h = refl
those_none f (r ∷ l) h = ap (λ (b : Bool). cond b (r ∷ those f l) (those f l)) h.0 ∙ those_none f l h.1

-- ---------------------------------------------------------------- lexical errors

errors_append : (a : ℕ) (ts us : List Token) → errors_of a (ts ++ us) ≡ errors_of a ts ++ errors_of (a + byte_count ts) us
unfolding errors_of byte_count
errors_append a [] us = ap (λ (n : ℕ). errors_of n us) (let e : a ≡ a + 0 = omega arith in e)
errors_append a (t ∷ ts) us =
    go (is_error t.kind) (errors_append (a + t.len) ts us ∙ ap (λ (n : ℕ). errors_of (a + t.len) ts ++ errors_of n us) (let e : a + t.len + byte_count ts ≡ a + (t.len + byte_count ts) = omega arith in e))
  where
    go : (b : Bool) → errors_of (a + t.len) (ts ++ us) ≡ errors_of (a + t.len) ts ++ errors_of (a + (t.len + byte_count ts)) us
        → cond b ((t.kind ∷ a ∷ (a + t.len) ∷ []) ∷ errors_of (a + t.len) (ts ++ us)) (errors_of (a + t.len) (ts ++ us))
        ≡ cond b ((t.kind ∷ a ∷ (a + t.len) ∷ []) ∷ errors_of (a + t.len) ts) (errors_of (a + t.len) ts) ++ errors_of (a + (t.len + byte_count ts)) us
    go true h = ap ((t.kind ∷ a ∷ (a + t.len) ∷ []) ∷◌) h
    go false h = h

-- where they start
errors_start : (P : Row → Type 0) (low high a : ℕ) → ((r : Row) → low ≤ start r → start r ≤ high → P r) → (ts : List Token) → low ≤ a → a + byte_count ts ≤ high → Every P (errors_of a ts)
unfolding errors_of byte_count
errors_start P low high a f [] h g = tt
errors_start P low high a f (t ∷ ts) h g = go (is_error t.kind) (errors_start P low high (a + t.len) f ts (omega arith) (omega arith))
  where
    go : (b : Bool) → Every P (errors_of (a + t.len) ts) → Every P (cond b ((t.kind ∷ a ∷ (a + t.len) ∷ []) ∷ errors_of (a + t.len) ts) (errors_of (a + t.len) ts))
    go true e = (f (t.kind ∷ a ∷ (a + t.len) ∷ []) h (omega arith), e)
    go false e = e

-- the later ones are those of the tokens after the semicolon
pub errors_later : (ps : List Token) (t : Token) (us : List Token) → t.len ≡ 1 → is_error t.kind ≡ false → those (later_error (byte_count ps)) (errors_of 0 (ps ++ (t ∷ us))) ≡ errors_of (suc (byte_count ps)) us
unfolding errors_of later_error
errors_later ps t us l n =
    let p : ℕ = byte_count ps in
    let w : 0 + p ≡ p = omega arith in
    let s : p + t.len ≡ suc p = omega arith in
    ap (those (later_error p)) (errors_append 0 ps (t ∷ us) ∙ ap (λ (x : ℕ). errors_of 0 ps ++ errors_of x (t ∷ us)) w)
    ∙ those_append (later_error p) (errors_of 0 ps) _
    ∙ ap (◌++ those (later_error p) (errors_of p (t ∷ us)))
    (those_none (later_error p) (errors_of 0 ps) (errors_start (λ r. later_error p r ≡ false) 0 p 0 (λ r x y. le-ltb p (start r) y) ps (le_refl 0) (omega arith)))
    ∙ ap (λ (b : Bool). those (later_error p) (cond b ((t.kind ∷ p ∷ (p + t.len) ∷ []) ∷ errors_of (p + t.len) us) (errors_of (p + t.len) us))) n
    ∙ ap (λ (x : ℕ). those (later_error p) (errors_of x us)) s
    ∙ those_all (later_error p) (errors_of (suc p) us)
    (errors_start (λ r. later_error p r ≡ true) (suc p) (suc p + byte_count us) (suc p) (λ r x y. lt-ltb p (start r) x) us (le_refl _) (le_refl _))

pub errors_moved : (a b x y : ℕ) → Moved a b x y → (ts : List Token) → Pairwise (ErrorMoved a b) (errors_of x ts) (errors_of y ts)
unfolding errors_of
errors_moved a b x y h [] = none
errors_moved a b x y h (t ∷ ts) = go (is_error t.kind) (errors_moved a b (x + t.len) (y + t.len) (omega arith) ts)
  where
    go : (c : Bool) → Pairwise (ErrorMoved a b) (errors_of (x + t.len) ts) (errors_of (y + t.len) ts)
        → Pairwise (ErrorMoved a b) (cond c ((t.kind ∷ x ∷ (x + t.len) ∷ []) ∷ errors_of (x + t.len) ts) (errors_of (x + t.len) ts)) (cond c ((t.kind ∷ y ∷ (y + t.len) ∷ []) ∷ errors_of (y + t.len) ts) (errors_of (y + t.len) ts))
    go true e = let stop : Moved a b (x + t.len) (y + t.len) = omega arith in more (record { same_number = refl; start_moves = h; end_moves = stop }) e
    go false e = e
