-- The rule over the bytes of a name: its first byte, and each byte after that.
use Rattle.std.proofs.Common.{◌≡◌, ℕ, ◌<◌, List, [], ◌∷◌, Bool, ◌&&◌, ◌||◌, length, get_or, drop, refl, arith, IsTrue}
use Rattle.std.specs.Bool.{Decides}
use Rattle.std.specs.List.{All}
use Rattle.std.proofs.lemmas.Bool.Decides.{same_from_decides, Decides-by_and}
use Rattle.definitions.specs.Strict.{is_letter, is_digit, in_label, keeps_rule}

abbrev pub goes_on : ℕ → Bool
goes_on byte = is_letter byte || is_digit byte

pub all_in_label : (l : List ℕ) (b : Bool) → Decides b (All (λ byte. IsTrue (goes_on byte)) l) → b ≡ in_label l
unfolding in_label
all_in_label l b h =
    same_from_decides b (in_label l) h
    (Decides-by_and goes_on (λ byte. IsTrue (goes_on byte)) in_label (λ byte. (λ t. t, λ t. t)) refl (λ _ _. refl) l)

-- the first byte, and those after it
pub first_keeps : (l : List ℕ) → 0 < length l → keeps_rule l ≡ (is_letter (get_or l 0 0) && in_label (drop 1 l))
unfolding keeps_rule
first_keeps [] h = absurd (omega arith)
first_keeps (x ∷ l) h = refl
