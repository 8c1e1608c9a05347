-- Tests: what holds of both branches, two tests that both hold, an equality either way round. That `true` is not
-- `false` is mathlib's `true≢false`, `false≢true`.
use Prim.Native.Nat.{ℕ}
use mathlib.Core.Path.{◌≡◌, refl, sym}
use lib.Dec.{eqb}
use borrow.Author.Tests.{eqb-true, eqb-false, ne_eqb, eq-eqb}
use mathlib.Core.Bool.{Bool, true, false, cond, ◌&&◌, false≢true}

-- a property of each branch is one of the whole
pub cond-all {ℓ κ} : {A : Type ℓ} (P : A → Type κ) (b : Bool) {x y : A} → P x → P y → P (cond b x y)
cond-all P true p q = p
cond-all P false p q = q

-- the same, where each branch knows how the test came out
pub cond-with {ℓ κ} : {A : Type ℓ} (P : A → Type κ) (b : Bool) {x y : A} → (b ≡ true → P x) → (b ≡ false → P y) → P (cond b x y)
cond-with P true p q = p refl
cond-with P false p q = q refl

-- two tests that both hold
pub and_left : (a b : Bool) → (a && b) ≡ true → a ≡ true
and_left true b e = refl
and_left false b e = absurd (false≢true e)

pub and_right : (a b : Bool) → (a && b) ≡ true → b ≡ true
and_right true b e = e
and_right false b e = absurd (false≢true e)

pub and_both : {a b : Bool} → a ≡ true → b ≡ true → (a && b) ≡ true
and_both {a = true} e f = f
and_both {a = false} e f = absurd (false≢true e)

-- the same two numbers, either way round
pub eqb_swap : (a b : ℕ) → eqb a b ≡ eqb b a
eqb_swap a b = by (eqb b a) refl
  where
    by : (x : Bool) → eqb b a ≡ x → eqb a b ≡ x
    by true e = eq-eqb a b (sym (eqb-true b a e))
    by false e = ne_eqb a b (λ h. eqb-false b a e (sym h))
