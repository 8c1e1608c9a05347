-- Members of a list by their index, what holds of all of them, and Names whose first tokens rise.
use Prim.Native.Nat.{ℕ, zero, suc, ◌+◌, ◌≤◌, ◌<◌}
use native.Mathlib.Omega.{arith}
use mathlib.Core.Path.{◌≡◌}
use mathlib.Core.Bool.{Bool, true, false, cond}
use mathlib.Core.List.{List, [], ◌∷◌, ◌++◌}
use lib.ListN.{length}
use Rattle.definitions.specs.Strict.{NameAt}

pub data At {A : Type 0} (x : A) : ℕ → List A → Type 0 where
  first : {l : List A} → At x zero (x ∷ l)
  later : {y : A} {j : ℕ} {l : List A} → At x j l → At x (suc j) (y ∷ l)

pub at_less : {A : Type 0} {x : A} {j : ℕ} {l : List A} → At x j l → j < length l
at_less first = omega arith
at_less (later h) = let g = at_less h in omega arith

pub at_index : {A : Type 0} (l : List A) (j : ℕ) → j < length l → (x : A) × At x j l
at_index [] j h = absurd (omega arith)
at_index (x ∷ l) zero h = (x, first)
at_index (x ∷ l) (suc j) h = let w : (y : _) × At y j l = at_index l j (omega arith) in (w.0, later w.1)

pub at_left : {A : Type 0} {x : A} {j : ℕ} {l : List A} (m : List A) → At x j l → At x j (l ++ m)
at_left m first = first
at_left m (later h) = later (at_left m h)

pub at_right : {A : Type 0} {x : A} {j : ℕ} (l : List A) {m : List A} → At x j m → (i : ℕ) × At x i (l ++ m)
at_right {j = j} [] h = (j, h)
at_right (y ∷ l) h = let w = at_right l h in (suc w.0, later w.1)

-- ---------------------------------------------------------------- all of them

unfoldable pub All : {A : Type 0} → (A → Type 0) → List A → Type 0
All P [] = Unit {0}
All P (x ∷ l) = P x × All P l

pub all_append : {A : Type 0} (P : A → Type 0) (l m : List A) → All P l → All P m → All P (l ++ m)
unfolding All
all_append P [] m h g = g
all_append P (x ∷ l) m h g = (h.0, all_append P l m h.1 g)

pub all_by : {A : Type 0} {P Q : A → Type 0} → ((x : A) → P x → Q x) → (l : List A) → All P l → All Q l
unfolding All
all_by f [] h = tt
all_by f (x ∷ l) h = (f x h.0, all_by f l h.1)

pub all_at : {A : Type 0} (P : A → Type 0) {x : A} {j : ℕ} {l : List A} → All P l → At x j l → P x
unfolding All
all_at P h first = h.0
all_at P h (later g) = all_at P h.1 g

-- ---------------------------------------------------------------- Names in order

-- from a token index on, up to one
unfoldable pub Rising : ℕ → ℕ → List NameAt → Type 0
Rising lo hi [] = lo ≤ hi
Rising lo hi (n ∷ l) = (lo ≤ n.first_token) × Rising (suc n.first_token) hi l

pub rising_none : (lo hi : ℕ) → lo ≤ hi → Rising lo hi []
unfolding Rising
rising_none lo hi h = h

pub rising_from : (lo lower hi : ℕ) (l : List NameAt) → lower ≤ lo → Rising lo hi l → Rising lower hi l
unfolding Rising
rising_from lo lower hi [] e h = omega arith
rising_from lo lower hi (n ∷ l) e h = (omega (arith, h.0), h.1)

-- perhaps with one in front, of n tokens
pub rising_with : (b : Bool) (lo hi n : ℕ) (x : NameAt) (l : List NameAt) → 1 ≤ n → x.first_token ≡ lo → Rising (lo + n) hi l → Rising lo hi (cond b (x ∷ l) l)
unfolding Rising
rising_with true lo hi n x l e q h = (omega arith, rising_from (lo + n) (suc x.first_token) hi l (omega arith) h)
rising_with false lo hi n x l e q h = rising_from (lo + n) lo hi l (omega arith) h

-- without one that stood in front
pub rising_without : (lo hi : ℕ) (x : NameAt) (l : List NameAt) → Rising lo hi (x ∷ l) → Rising lo hi l
unfolding Rising
rising_without lo hi x l h = rising_from (suc x.first_token) lo hi l (omega (arith, h.0)) h.1

pub rising_append : (lo mid hi : ℕ) (l m : List NameAt) → Rising lo mid l → Rising mid hi m → Rising lo hi (l ++ m)
unfolding Rising
rising_append lo mid hi [] m h g = rising_from mid lo hi m h g
rising_append lo mid hi (n ∷ l) m h g = (h.0, rising_append (suc n.first_token) mid hi l m h.1 g)

pub rising_at : (n : NameAt) (lo hi : ℕ) (l : List NameAt) (j : ℕ) → Rising lo hi l → At n j l → lo ≤ n.first_token
unfolding Rising
rising_at n lo hi _ _ h first = h.0
rising_at n lo hi _ _ h (later {y} {j} {l} g) = let w = rising_at n (suc y.first_token) hi l j h.1 g in omega (arith, h.0, w)

pub rising_two : (n m : NameAt) (lo hi : ℕ) (l : List NameAt) (i j : ℕ) → Rising lo hi l → At n i l → At m j l → i < j → n.first_token < m.first_token
unfolding Rising
rising_two n m lo hi _ _ _ h first first e = absurd (omega arith)
rising_two n m lo hi _ _ _ h first (later {j} {l} g) e = let w = rising_at m (suc n.first_token) hi l j h.1 g in omega (arith, w)
rising_two n m lo hi _ _ _ h (later f) first e = absurd (omega arith)
rising_two n m lo hi _ _ _ h (later {y} {j = i} {l} f) (later {j} g) e = rising_two n m (suc y.first_token) hi l i j h.1 f g (omega arith)
