-- What a check that accepts says of its tests.
use Prim.Native.Nat.{ℕ, suc, ◌+◌, ◌≤◌}
use native.Mathlib.Omega.{arith}
use mathlib.Core.Path.{◌≡◌, refl}
use mathlib.Core.Bool.{Bool, true, false, cond}
use mathlib.Core.List.{List, ◌∷◌}
use lib.Dec.{leb, eqb}
use borrow.Author.Tests.{leb-true, leb-false, eqb-true, eqb-false, le-leb, lt-leb, eq-eqb, ne_eqb}
use Rattle.definitions.specs.Token.{Token}
use Rattle.definitions.specs.Refusal.{Refusal, bad_kind, zero_length, Verdict, accepted, refused, unless, ◌or_else◌}
use Rattle.definitions.specs.RowCauses.{is_kind, check_row, check_rows}

pub cond_accepted : (b : Bool) (v : Verdict) (r : Refusal) → cond b v (refused r) ≡ accepted → (b ≡ true) × (v ≡ accepted)
cond_accepted true v r e = (refl, e)
cond_accepted false v r e = let x : ◌≡◌ {A = ℕ} 0 1 = cc in absurd (omega arith)

pub or_else_left : (v w : Verdict) → (v or_else w) ≡ accepted → v ≡ accepted
unfolding ◌or_else◌
or_else_left accepted w e = refl
or_else_left (refused r) w e = e

pub or_else_right : (v w : Verdict) → (v or_else w) ≡ accepted → w ≡ accepted
unfolding ◌or_else◌
or_else_right accepted w e = e
or_else_right (refused r) w e = let x : ◌≡◌ {A = ℕ} 0 1 = cc in absurd (omega arith)

pub unless_holds : (c : Bool) (r : Refusal) → unless c r ≡ accepted → c ≡ true
unless_holds true r e = refl
unless_holds false r e = let x : ◌≡◌ {A = ℕ} 0 1 = cc in absurd (omega arith)

-- a row with none of 11 to 13
pub record SoundRow (start size : ℕ) (t : Token) : Type 0 where
  pub kind : is_kind t.kind ≡ true
  pub not_empty : 1 ≤ t.len
  pub inside : start + t.len ≤ size

pub row_sound : (i start size : ℕ) (t : Token) → check_row i start size t ≡ accepted → SoundRow start size t
unfolding check_row
row_sound i start size t e =
    let f = or_else_right (unless (is_kind t.kind) (bad_kind i)) _ e in
    record {
      kind = unless_holds _ _ (or_else_left (unless (is_kind t.kind) (bad_kind i)) _ e);
      not_empty = leb-true 1 t.len (unless_holds _ _ (or_else_left (unless (leb 1 t.len) (zero_length i)) _ f));
      inside = leb-true _ _ (unless_holds _ _ (or_else_right (unless (leb 1 t.len) (zero_length i)) _ f));
    }

-- the first of rows that pass, and the others
pub rows_sound : (i start size : ℕ) (t : Token) (ts : List Token) → check_rows i start size (t ∷ ts) ≡ accepted
    → SoundRow start size t × (check_rows (suc i) (start + t.len) size ts ≡ accepted)
unfolding check_rows
rows_sound i start size t ts e = (row_sound i start size t (or_else_left (check_row i start size t) _ e), or_else_right (check_row i start size t) _ e)

-- a token ends past the input exactly if it is longer than what is left
pub same_end : (start n left size : ℕ) → start + left ≡ size → leb (start + n) size ≡ leb n left
same_end start n left size h = by (leb n left) refl
  where
    by : (b : Bool) → leb n left ≡ b → leb (start + n) size ≡ b
    by true e = le-leb (start + n) size (omega (arith, h, leb-true n left e))
    by false e = lt-leb (start + n) size (omega (arith, h, leb-false n left e))

-- and rows cover the input exactly if nothing is left
pub same_cover : (start left size : ℕ) → start + left ≡ size → eqb start size ≡ eqb left 0
same_cover start left size h = by (eqb left 0) refl
  where
    by : (b : Bool) → eqb left 0 ≡ b → eqb start size ≡ b
    by true e = eq-eqb start size (omega (arith, h, eqb-true left 0 e))
    by false e = ne_eqb start size (λ p. eqb-false left 0 e (omega (arith, h, p)))
