-- TEXTBOOK: the test `fits` of the definitions is what a textbook says of the texts of a regular expression, as
-- propositions: there is a cut, there is a number of texts.
use Rattle.std.specs.Prelude.{ℕ, zero, suc, ◌≡◌, ◌⊎◌, ◌↔◌, true, false, List, [], ◌∷◌, ◌++◌}
use Rattle.definitions.specs.Pattern.{Pattern, nothing, empty, one, other, ◌then◌, ◌or◌, many, within, fits}

-- n texts, one after the other, of each of which P holds
unfoldable pub Times : ℕ → (List ℕ → Type 0) → List ℕ → Type 0
Times zero P u = u ≡ []
Times (suc n) P u = (s : List ℕ) × (t : List ℕ) × (u ≡ s ++ t) × P s × Times n P t

unfoldable pub Fits : Pattern → List ℕ → Type 0
unfolding within Times
Fits nothing u = ⊥
Fits empty u = u ≡ []
Fits (one c) u = (b : ℕ) × (u ≡ b ∷ []) × (within c b ≡ true)
Fits (other c) u = (b : ℕ) × (u ≡ b ∷ []) × (within c b ≡ false)
Fits (p then q) u = (s : List ℕ) × (t : List ℕ) × (u ≡ s ++ t) × Fits p s × Fits q t
Fits (p or q) u = Fits p u ⊎ Fits q u
Fits (many p) u = (n : ℕ) × Times n (Fits p) u

abbrev pub Textbook : Type 0
Textbook = (p : Pattern) (u : List ℕ) → (fits p u ≡ true) ↔ Fits p u
