-- The rows, as they were judged and as they are: where the numbers are whole rows the two verdicts go together, and an
-- odd count was refused at the first bad row or at the number left over.
use Prim.Native.Nat.{ℕ, suc, ◌+◌, ◌-◌, ◌*◌, ◌≤◌}
use native.Mathlib.Omega.{arith}
use mathlib.Core.Path.{◌≡◌, refl}
use mathlib.Core.Bool.{Bool, true, false, cond, ◌&&◌}
use mathlib.Core.List.{List, [], ◌∷◌}
use lib.Dec.{leb, eqb}
use lib.ListN.{length}
use borrow.Author.Tests.{leb-true}
use Rattle.definitions.specs.Token.{tokens_of}
use Rattle.definitions.specs.Refusal.{Refusal, bad_kind, zero_length, past_input, short_total, number_of, place_of, Verdict, accepted, refused, unless, ◌or_else◌}
use Rattle.definitions.specs.RowCauses.{is_kind, check_row, check_rows}
use Rattle.basics.proofs.Verdicts.{same_end, same_cover}
use Rattle.row_causes.specs.Before.{bad_row}
use Rattle.row_causes.specs.Before as B

-- ---------------------------------------------------------------- whole rows

-- a verdict now and the one before
pub data Both : Verdict → Verdict → Type 0 where
  pass : Both accepted accepted
  refuse : (r : Refusal) → 11 ≤ number_of r → number_of r ≤ 13 → Both (refused r) (refused (bad_row (place_of r)))

one_row : (i : ℕ) (x y z : Bool) (v w : Verdict) → (z ≡ true → Both v w)
    → Both ((unless x (bad_kind i) or_else unless y (zero_length i) or_else unless z (past_input i)) or_else v) (cond (x && y && z) w (refused (bad_row i)))
unfolding ◌or_else◌ number_of place_of
one_row i false y z v w h = refuse (bad_kind i) (omega arith) (omega arith)
one_row i true false z v w h = refuse (zero_length i) (omega arith) (omega arith)
one_row i true true false v w h = refuse (past_input i) (omega arith) (omega arith)
one_row i true true true v w h = h refl

last : (i : ℕ) (x : Bool) → Both (unless x (short_total i)) (unless x (bad_row i))
unfolding number_of place_of
last i true = pass
last i false = refuse (short_total i) (omega arith) (omega arith)

pub both : (i start left size : ℕ) (tokens : List ℕ) → start + left ≡ size → length tokens ≡ 2 * length (tokens_of tokens)
    → Both (check_rows i start size (tokens_of tokens)) (B.check_rows i left tokens)
unfolding tokens_of check_rows check_row B.check_rows
both i start left size [] h p = rw (same_cover start left size h) (last i (eqb left 0))
both i start left size (k ∷ []) h p = absurd (omega (arith, p))
both i start left size (k ∷ n ∷ l) h p =
    rw (same_end start n left size h)
    (one_row i (is_kind k) (leb 1 n) (leb n left) _ _
    (λ e. both (suc i) (start + n) (left - n) size l (omega (arith, h, leb-true n left e)) (omega (arith, p))))

-- ---------------------------------------------------------------- an odd count

pub record RefusedAt (most : ℕ) (v : Verdict) : Type 0 where
  pub row : ℕ
  pub told : v ≡ refused (bad_row row)
  pub inside : row ≤ most

further : (i m : ℕ) (x : Bool) (v : Verdict) → i ≤ m → RefusedAt m v → RefusedAt m (cond x v (refused (bad_row i)))
further i m true v h r = r
further i m false v h r = record { row = i; told = refl; inside = h }

pub odd : (i left : ℕ) (tokens : List ℕ) → ¬ (length tokens ≡ 2 * length (tokens_of tokens)) → RefusedAt (i + length (tokens_of tokens)) (B.check_rows i left tokens)
unfolding tokens_of B.check_rows
odd i left [] h = absurd (h refl)
odd i left (k ∷ []) h = record { row = i; told = refl; inside = omega arith }
odd i left (k ∷ n ∷ l) h =
    further i (i + suc (length (tokens_of l))) (is_kind k && leb 1 n && leb n left) _ (omega arith)
    (wider (odd (suc i) (left - n) l (λ e. h (omega (arith, e)))))
  where
    wider : RefusedAt (suc i + length (tokens_of l)) (B.check_rows (suc i) (left - n) l) → RefusedAt (i + suc (length (tokens_of l))) (B.check_rows (suc i) (left - n) l)
    wider r = record { row = r.row; told = r.told; inside = omega (arith, r.inside) }
