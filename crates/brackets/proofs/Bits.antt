-- Lists of truth values: flags that surely hold, and sets of what may be.
use Prim.Native.Nat.{ℕ, zero, suc}
use mathlib.Core.Path.{◌≡◌}
use mathlib.Core.Bool.{Bool, true, false, ◌&&◌, ◌||◌, false≢true}
use mathlib.Core.List.{List, [], ◌∷◌}
use Rattle.basics.proofs.Tests.{and_left, and_right}
use Rattle.laws.proofs.Progress.{implies}
use Rattle.laws.proofs.FactsHold.{or_left, or_right, implied}
use Rattle.basics.proofs.Tests.{and_both}

-- number i of the list; false where it has none
abbrev pub at : ℕ → List Bool → Bool
at i [] = false
at zero (b ∷ l) = b
at (suc i) (b ∷ l) = at i l

abbrev pub both : List Bool → List Bool → List Bool
both [] m = []
both (a ∷ l) [] = []
both (a ∷ l) (b ∷ m) = (a && b) ∷ both l m

abbrev pub either : List Bool → List Bool → List Bool
either [] m = m
either (a ∷ l) [] = a ∷ l
either (a ∷ l) (b ∷ m) = (a || b) ∷ either l m

abbrev pub any : List Bool → Bool
any [] = false
any (b ∷ l) = b || any l

pub at_both : (i : ℕ) (l m : List Bool) → at i l ≡ true → at i m ≡ true → at i (both l m) ≡ true
at_both i [] m e f = absurd (false≢true e)
at_both i (a ∷ l) [] e f = absurd (false≢true f)
at_both zero (a ∷ l) (b ∷ m) e f = and_both e f
at_both (suc i) (a ∷ l) (b ∷ m) e f = at_both i l m e f

pub at_left : (i : ℕ) (l m : List Bool) → at i l ≡ true → at i (either l m) ≡ true
at_left i [] m e = absurd (false≢true e)
at_left i (a ∷ l) [] e = e
at_left zero (a ∷ l) (b ∷ m) e = or_left a b e
at_left (suc i) (a ∷ l) (b ∷ m) e = at_left i l m e

pub at_right : (i : ℕ) (l m : List Bool) → at i m ≡ true → at i (either l m) ≡ true
at_right i [] m e = e
at_right i (a ∷ l) [] e = absurd (false≢true e)
at_right zero (a ∷ l) (b ∷ m) e = or_right a b e
at_right (suc i) (a ∷ l) (b ∷ m) e = at_right i l m e

pub at_any : (i : ℕ) (l : List Bool) → at i l ≡ true → any l ≡ true
at_any i [] e = absurd (false≢true e)
at_any zero (b ∷ l) e = or_left b (any l) e
at_any (suc i) (b ∷ l) e = or_right b (any l) (at_any i l e)

-- ---------------------------------------------------------------- one list within another

abbrev pub below : List Bool → List Bool → Bool
below [] m = true
below (a ∷ l) [] = false
below (a ∷ l) (b ∷ m) = implies a b && below l m

pub record Below (l m : List Bool) : Type 0 where
  pub holds : (i : ℕ) → at i l ≡ true → at i m ≡ true

below_at : (l m : List Bool) → below l m ≡ true → (i : ℕ) → at i l ≡ true → at i m ≡ true
below_at [] m e i f = absurd (false≢true f)
below_at (a ∷ l) [] e i f = absurd (false≢true e)
below_at (a ∷ l) (b ∷ m) e zero f = implied a b (and_left (implies a b) _ e) f
below_at (a ∷ l) (b ∷ m) e (suc i) f = below_at l m (and_right (implies a b) _ e) i f

pub below_holds : (l m : List Bool) → below l m ≡ true → Below l m
below_holds l m e = record { holds = below_at l m e }

pub below_then : (l m n : List Bool) → Below l m → Below m n → Below l n
below_then l m n p q = record { holds = λ i e. q.holds i (p.holds i e) }

both_left : (l m : List Bool) (i : ℕ) → at i (both l m) ≡ true → at i l ≡ true
both_left [] m i e = e
both_left (a ∷ l) [] i e = absurd (false≢true e)
both_left (a ∷ l) (b ∷ m) zero e = and_left a b e
both_left (a ∷ l) (b ∷ m) (suc i) e = both_left l m i e

both_right : (l m : List Bool) (i : ℕ) → at i (both l m) ≡ true → at i m ≡ true
both_right [] m i e = absurd (false≢true e)
both_right (a ∷ l) [] i e = absurd (false≢true e)
both_right (a ∷ l) (b ∷ m) zero e = and_right a b e
both_right (a ∷ l) (b ∷ m) (suc i) e = both_right l m i e

pub below_left : (l m : List Bool) → Below (both l m) l
below_left l m = record { holds = both_left l m }

pub below_right : (l m : List Bool) → Below (both l m) m
below_right l m = record { holds = both_right l m }

pub below_same : (l : List Bool) → Below l l
below_same l = record { holds = λ i e. e }

-- a flag more
pub below_nil : (m : List Bool) → Below [] m
below_nil m = record { holds = λ i e. absurd (false≢true e) }

pub below_cons : {a b : Bool} {l m : List Bool} → (a ≡ true → b ≡ true) → Below l m → Below (a ∷ l) (b ∷ m)
below_cons {a = a} {b = b} {l = l} {m = m} f h = record { holds = go }
  where
    go : (i : ℕ) → at i (a ∷ l) ≡ true → at i (b ∷ m) ≡ true
    go zero e = f e
    go (suc i) e = h.holds i e
