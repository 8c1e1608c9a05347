-- Tests of the definitions, and the types that they decide.
use Prim.Native.Nat.{ℕ, ◌≤◌, ◌<◌}
use native.Mathlib.Omega.{arith}
use mathlib.Core.Path.{◌≡◌, refl}
use mathlib.Core.Bool.{Bool, true, false, not, ◌&&◌}
use lib.Dec.{leb, eqb}
use borrow.Author.Tests.{leb-true, leb-false, eqb-true, eqb-false}

-- a test that decides a type
pub data Decides (A : Type 0) : Bool → Type 0 where
  holds : A → Decides A true
  not_so : ¬ A → Decides A false

-- what is known of the type is known of the test
pub decided : {A : Type 0} (t : Bool) → Decides A t → A → t ≡ true
decided t (holds a) h = refl
decided t (not_so a) h = absurd (a h)

pub refuted : {A : Type 0} (t : Bool) → Decides A t → ¬ A → t ≡ false
refuted t (holds a) h = absurd (h a)
refuted t (not_so a) h = refl

pub both : {A B : Type 0} (s t : Bool) → Decides A s → Decides B t → Decides (A × B) (s && t)
both s t (holds a) (holds b) = holds (a, b)
both s t (holds a) (not_so b) = not_so (λ x. b x.1)
both s t (not_so a) d = not_so (λ x. a x.0)

pub leb_decides : (a b : ℕ) → Decides (a ≤ b) (leb a b)
leb_decides a b = by (leb a b) refl
  where
    by : (t : Bool) → leb a b ≡ t → Decides (a ≤ b) t
    by true e = holds (leb-true a b e)
    by false e = not_so (λ (h : a ≤ b). let g : b < a = leb-false a b e in omega (arith, h, g))

pub eqb_decides : (a b : ℕ) → Decides (a ≡ b) (eqb a b)
eqb_decides a b = by (eqb a b) refl
  where
    by : (t : Bool) → eqb a b ≡ t → Decides (a ≡ b) t
    by true e = holds (eqb-true a b e)
    by false e = not_so (eqb-false a b e)

pub not_decides : {A : Type 0} (t : Bool) → Decides A t → Decides (¬ A) (not t)
not_decides t (holds a) = not_so (λ h. h a)
not_decides t (not_so h) = holds h
