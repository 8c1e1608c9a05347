-- A test that is computed once for each number below a bound.
use Prim.Native.Nat.{ℕ, zero, suc, ◌<◌}
use mathlib.Core.Path.{◌≡◌, refl, ap, ◌∙◌}
use mathlib.Core.Bool.{Bool, true, false, ◌&&◌}
use native.Mathlib.Omega.{arith}
use lib.Dec.{eqb}
use borrow.Author.Tests.{eqb-true, eqb-false}
use Rattle.basics.proofs.Tests.{and_left, and_right}

-- at each number below n
unfoldable pub all_below : (ℕ → Bool) → ℕ → Bool
all_below f zero = true
all_below f (suc n) = f n && all_below f n

-- a test that passes at each number below n passes at any of them
pub at_below : (f : ℕ → Bool) (n k : ℕ) → all_below f n ≡ true → k < n → f k ≡ true
unfolding all_below
at_below f zero k h l = absurd (omega (arith, l))
at_below f (suc n) k h l = go (eqb k n) refl (at_below f n k (and_right (f n) (all_below f n) h))
  where
    go : (b : Bool) → eqb k n ≡ b → (k < n → f k ≡ true) → f k ≡ true
    go true e r = ap f (eqb-true k n e) ∙ and_left (f n) (all_below f n) h
    go false e r = r (omega (arith, l, eqb-false k n e))
