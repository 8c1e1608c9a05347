-- A test at each member of a list, with its place: computed once, it holds at every place.
use Prim.Native.Nat.{ℕ, zero, suc, ◌+◌, ◌<◌}
use native.Mathlib.Omega.{arith}
use mathlib.Core.Path.{◌≡◌}
use mathlib.Core.Bool.{Bool, true, ◌&&◌}
use mathlib.Core.List.{List, [], ◌∷◌}
use lib.ListN.{get_or, length}
use Rattle.basics.proofs.Tests.{and_left, and_right}

unfoldable pub every : {A : Type 0} → (ℕ → A → Bool) → ℕ → List A → Bool
every f i [] = true
every f i (x ∷ xs) = f i x && every f (suc i) xs

from : {A : Type 0} (f : ℕ → A → Bool) (xs : List A) (i : ℕ) (d : A) → every f i xs ≡ true
    → (k : ℕ) → k < length xs → f (i + k) (get_or xs k d) ≡ true
unfolding every
from f [] i d t k h = absurd (omega (arith, h))
from f (x ∷ xs) i d t zero h = let e : i + 0 ≡ i = omega arith in rw e (and_left (f i x) (every f (suc i) xs) t)
from f (x ∷ xs) i d t (suc k) h =
    let e : i + suc k ≡ suc i + k = omega arith in
    rw e (from f xs (suc i) d (and_right (f i x) (every f (suc i) xs) t) k (omega (arith, h)))

pub at_each : {A : Type 0} (f : ℕ → A → Bool) (xs : List A) (d : A) → every f 0 xs ≡ true
    → (k : ℕ) → k < length xs → f k (get_or xs k d) ≡ true
at_each f xs d t k h = let e : 0 + k ≡ k = omega arith in rw e at (from f xs 0 d t k h)
