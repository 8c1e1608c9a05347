-- TEXTBOOK, proved: by recursion on the pattern, each search by the law of proofs/Cuts.antt.
use Prim.Native.Nat.{ℕ}
use mathlib.Core.Path.{◌≡◌, refl, sym, ap, ◌∙◌, subst}
use mathlib.Core.Logic.{◌⊎◌, inl, inr}
use mathlib.Core.Bool.{Bool, true, not, ◌&&◌, false≢true, not-not}
use mathlib.Core.List.{List, [], ◌∷◌}
use lib.ListN.{length}
use Rattle.definitions.specs.Pattern.{Pattern, nothing, empty, one, other, ◌then◌, ◌or◌, many, within, one_byte, fits}
use Rattle.basics.proofs.Tests.{and_left, and_right, and_both}
use Rattle.patterns.specs.Textbook.{Fits, Textbook}
use Rattle.patterns.proofs.Either.{or_either, or_left, or_right}
use Rattle.patterns.proofs.Cuts.{no_byte_says, says_no_byte, cut_says, says_cut, times_says, says_times, without_empty, up_to_says, says_up_to}

one_byte_says : (f : ℕ → Bool) (u : List ℕ) → one_byte f u ≡ true → (b : ℕ) × (u ≡ b ∷ []) × (f b ≡ true)
one_byte_says f [] h = absurd (false≢true h)
one_byte_says f (b ∷ []) h = (b, refl, h)
one_byte_says f (b ∷ c ∷ u) h = absurd (false≢true h)

says_one_byte : (f : ℕ → Bool) (u : List ℕ) (b : ℕ) → u ≡ b ∷ [] → f b ≡ true → one_byte f u ≡ true
says_one_byte f u b e h = subst (λ (l : List ℕ). one_byte f l ≡ true) (sym e) h

-- WHAT THE TEST FINDS IS THERE
pub fits_says : (p : Pattern) (u : List ℕ) → fits p u ≡ true → Fits p u
unfolding fits Fits
fits_says nothing u h = absurd (false≢true h)
fits_says empty u h = no_byte_says u h
fits_says (one c) u h = one_byte_says (within c) u h
fits_says (other c) u h =
    let (b, e, x) = one_byte_says (λ (b : ℕ). not (within c b)) u h in
    (b, e, sym (not-not (within c b)) ∙ ap not x)
fits_says (p then q) u h =
    let (s, t, e, x) = cut_says (λ (s t : List ℕ). fits p s && fits q t) u h in
    (s, t, e, fits_says p s (and_left (fits p s) _ x), fits_says q t (and_right (fits p s) _ x))
fits_says (p or q) u h = go (or_either (fits p u) (fits q u) h) (fits_says p u) (fits_says q u)
  where
    go : (fits p u ≡ true) ⊎ (fits q u ≡ true) → (fits p u ≡ true → Fits p u) → (fits q u ≡ true → Fits q u) → Fits p u ⊎ Fits q u
    go (inl x) f g = inl (f x)
    go (inr x) f g = inr (g x)
fits_says (many p) u h =
    let (n, x) = up_to_says (fits p) (length u) u h in
    (n, times_says (fits p) (Fits p) (fits_says p) n u x)

-- AND WHAT IS THERE IS FOUND
pub says_fits : (p : Pattern) (u : List ℕ) → Fits p u → fits p u ≡ true
unfolding fits Fits
says_fits nothing u h = absurd h
says_fits empty u h = says_no_byte u h
says_fits (one c) u (b, e, x) = says_one_byte (within c) u b e x
says_fits (other c) u (b, e, x) = says_one_byte (λ (b : ℕ). not (within c b)) u b e (ap not x)
says_fits (p then q) u (s, t, e, x, y) =
    says_cut (λ (s t : List ℕ). fits p s && fits q t) u s t e (and_both (says_fits p s x) (says_fits q t y))
says_fits (p or q) u (inl x) = or_left (fits p u) _ (says_fits p u x)
says_fits (p or q) u (inr x) = or_right (fits p u) _ (says_fits q u x)
says_fits (many p) u (n, h) =
    let (m, k, x) = without_empty (Fits p) n u h in
    says_up_to (fits p) (length u) m u k (says_times (fits p) (Fits p) (says_fits p) m u x)

pub textbook : Textbook
textbook p u = (fits_says p u, says_fits p u)
