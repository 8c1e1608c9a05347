-- Regular expressions as data, and which texts fit one, as a textbook says it. A text is a list of bytes.
use Rattle.std.specs.Prelude.{ℕ, zero, suc, Bool, true, false, not, ◌&&◌, ◌||◌, List, [], ◌∷◌, leb, length}

-- the bytes from `low` to `high`
pub record Range : Type 0 where
  pub low : ℕ
  pub high : ℕ

infixr 30 ◌then◌
infixr 20 ◌or◌
pub data Pattern : Type 0 where
  -- no text at all
  nothing : Pattern
  -- the empty text
  empty : Pattern
  -- [..]: one byte of these
  one : List Range → Pattern
  -- [^..]: one byte, none of these
  other : List Range → Pattern
  -- a text of the first, and after it one of the second
  ◌then◌ : Pattern → Pattern → Pattern
  -- |
  ◌or◌ : Pattern → Pattern → Pattern
  -- *: any number of texts, one after the other
  many : Pattern → Pattern

unfoldable pub within : List Range → ℕ → Bool
within [] b = false
within (r ∷ rs) b = (leb r.low b && leb b r.high) || within rs b

-- ---------------------------------------------------------------- which texts fit

abbrev pub no_byte : List ℕ → Bool
no_byte [] = true
no_byte (b ∷ u) = false

abbrev pub one_byte : (ℕ → Bool) → List ℕ → Bool
one_byte f [] = false
one_byte f (b ∷ []) = f b
one_byte f (b ∷ c ∷ u) = false

-- u can be cut in two, s and t, such that f s t
unfoldable pub cut : (List ℕ → List ℕ → Bool) → List ℕ → Bool
cut f [] = f [] []
cut f (b ∷ u) = f [] (b ∷ u) || cut (λ (s t : List ℕ). f (b ∷ s) t) u

-- u is n texts, one after the other, of each of which f holds
unfoldable pub times : (List ℕ → Bool) → ℕ → List ℕ → Bool
unfolding cut
times f zero u = no_byte u
times f (suc n) u = cut (λ (s t : List ℕ). f s && times f n t) u

-- n such texts, or fewer
unfoldable pub up_to : (List ℕ → Bool) → ℕ → List ℕ → Bool
unfolding times
up_to f zero u = times f zero u
up_to f (suc n) u = times f (suc n) u || up_to f n u

-- of `many` there are no more texts than bytes: others would be empty
unfoldable pub fits : Pattern → List ℕ → Bool
unfolding within cut up_to
fits nothing u = false
fits empty u = no_byte u
fits (one c) u = one_byte (within c) u
fits (other c) u = one_byte (λ (b : ℕ). not (within c b)) u
fits (p then q) u = cut (λ (s t : List ℕ). fits p s && fits q t) u
fits (p or q) u = fits p u || fits q u
fits (many p) u = up_to (fits p) (length u) u
