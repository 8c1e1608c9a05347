-- REMAINDERS, proved: what is left of a pattern after a byte fits a text just where the pattern fits the byte with the
-- text behind it. First in the textbook's meaning, by recursion on the pattern; then of the test, by TEXTBOOK.
use Prim.Native.Nat.{ℕ, zero, suc}
use mathlib.Core.Path.{◌≡◌, refl, ap, sym, ◌∙◌, subst}
use mathlib.Core.Bool.{Bool, true, false, cond, false≢true}
use mathlib.Core.Logic.{◌⊎◌, inl, inr}
use mathlib.Core.List.{List, [], ◌∷◌, ◌++◌}
use Rattle.definitions.specs.Pattern.{Pattern, nothing, empty, one, other, ◌then◌, ◌or◌, many, within, fits}
use Rattle.basics.proofs.Tests.{and_left, and_right, and_both}
use Rattle.basics.proofs.Lists.{first_same, rest_same, none_some}
use Rattle.patterns.specs.Textbook.{Times, Fits}
use Rattle.patterns.specs.Remainder.{fits_empty, and_then, or_else, after, Remainders}
use Rattle.patterns.proofs.Either.{or_either, or_left, or_right, same_test}
use Rattle.patterns.proofs.Plain.{to_then, from_then, to_or, from_or}
use Rattle.patterns.proofs.Textbook.{fits_says, says_fits}

-- ---------------------------------------------------------------- the empty text

both_none : (s t : List ℕ) → [] ≡ s ++ t → (s ≡ []) × (t ≡ [])
both_none [] t e = (refl, sym e)
both_none (x ∷ s) t e = absurd (none_some e)

pub empty_fits : (p : Pattern) → fits_empty p ≡ true → Fits p []
unfolding fits_empty Fits Times
empty_fits nothing h = absurd (false≢true h)
empty_fits empty h = refl
empty_fits (one c) h = absurd (false≢true h)
empty_fits (other c) h = absurd (false≢true h)
empty_fits (p then q) h = ([], [], refl, empty_fits p (and_left (fits_empty p) _ h), empty_fits q (and_right (fits_empty p) _ h))
empty_fits (p or q) h = pick (or_either (fits_empty p) (fits_empty q) h) (empty_fits p) (empty_fits q)
  where
    pick : (fits_empty p ≡ true) ⊎ (fits_empty q ≡ true) → (fits_empty p ≡ true → Fits p []) → (fits_empty q ≡ true → Fits q [])
        → Fits p [] ⊎ Fits q []
    pick (inl x) f g = inl (f x)
    pick (inr x) f g = inr (g x)
empty_fits (many p) h = (0, refl)

pub fits_then_empty : (p : Pattern) (u : List ℕ) → u ≡ [] → Fits p u → fits_empty p ≡ true
unfolding fits_empty Fits
fits_then_empty nothing u e h = absurd h
fits_then_empty empty u e h = refl
fits_then_empty (one c) u e (b, f, g) = absurd (none_some (sym e ∙ f))
fits_then_empty (other c) u e (b, f, g) = absurd (none_some (sym e ∙ f))
fits_then_empty (p then q) u e (s, t, f, x, y) =
    let z = both_none s t (sym e ∙ f) in
    and_both (fits_then_empty p s z.0 x) (fits_then_empty q t z.1 y)
fits_then_empty (p or q) u e (inl x) = or_left (fits_empty p) _ (fits_then_empty p u e x)
fits_then_empty (p or q) u e (inr x) = or_right (fits_empty p) _ (fits_then_empty q u e x)
fits_then_empty (many p) u e h = refl

-- ---------------------------------------------------------------- one byte

-- WHAT IS LEFT FITS: so does the pattern, with the byte in front
pub after_fits : (b : ℕ) (p : Pattern) (u : List ℕ) → Fits (after b p) u → Fits p (b ∷ u)
unfolding after Fits Times
after_fits b nothing u h = absurd h
after_fits b empty u h = absurd h
after_fits b (one c) u h = go (within c b) refl h
  where
    go : (a : Bool) → within c b ≡ a → Fits (cond a empty nothing) u → Fits (one c) (b ∷ u)
    go true e x = (b, ap (b ∷◌) x, e)
    go false e x = absurd x
after_fits b (other c) u h = go (within c b) refl h
  where
    go : (a : Bool) → within c b ≡ a → Fits (cond a nothing empty) u → Fits (other c) (b ∷ u)
    go true e x = absurd x
    go false e x = (b, ap (b ∷◌) x, e)
after_fits b (p then q) u h =
    go (to_or (and_then (after b p) q) (cond (fits_empty p) (after b q) nothing) u h) (after_fits b p) (after_fits b q)
  where
    later : (a : Bool) → fits_empty p ≡ a → Fits (cond a (after b q) nothing) u → (Fits (after b q) u → Fits q (b ∷ u)) → Fits (p then q) (b ∷ u)
    later true e x g = ([], b ∷ u, refl, empty_fits p e, g x)
    later false e x g = absurd x

    front : Fits (after b p then q) u → ((s : List ℕ) → Fits (after b p) s → Fits p (b ∷ s)) → Fits (p then q) (b ∷ u)
    front (s, t, x, y, z) f = (b ∷ s, t, ap (b ∷◌) x, f s y, z)

    go : Fits (and_then (after b p) q) u ⊎ Fits (cond (fits_empty p) (after b q) nothing) u → ((s : List ℕ) → Fits (after b p) s → Fits p (b ∷ s))
        → ((s : List ℕ) → Fits (after b q) s → Fits q (b ∷ s)) → Fits (p then q) (b ∷ u)
    go (inl x) f g = front (to_then (after b p) q u x) f
    go (inr x) f g = later (fits_empty p) refl x (g u)
after_fits b (p or q) u h = go (to_or (after b p) (after b q) u h) (after_fits b p u) (after_fits b q u)
  where
    go : Fits (after b p) u ⊎ Fits (after b q) u → (Fits (after b p) u → Fits p (b ∷ u)) → (Fits (after b q) u → Fits q (b ∷ u))
        → Fits p (b ∷ u) ⊎ Fits q (b ∷ u)
    go (inl x) f g = inl (f x)
    go (inr x) f g = inr (g x)
after_fits b (many p) u h = go (to_then (after b p) (many p) u h) (after_fits b p)
  where
    go : Fits (after b p then many p) u → ((s : List ℕ) → Fits (after b p) s → Fits p (b ∷ s)) → Fits (many p) (b ∷ u)
    go (s, t, x, y, (n, z)) f = (suc n, (b ∷ s, t, ap (b ∷◌) x, f s y, z))

-- AND BACK
pub fits_after : (b : ℕ) (p : Pattern) (v u : List ℕ) → v ≡ b ∷ u → Fits p v → Fits (after b p) u
unfolding after Fits Times
fits_after b nothing v u e h = absurd h
fits_after b empty v u e h = absurd (none_some (sym h ∙ e))
fits_after b (one c) v u e (a, f, g) =
    let x : a ≡ b = first_same (sym f ∙ e) in
    let y : [] ≡ u = rest_same (sym f ∙ e) in
    subst (λ (r : Pattern). Fits r u) (sym (ap (λ (q : Bool). cond q empty nothing) (ap (within c) (sym x) ∙ g))) (sym y)
fits_after b (other c) v u e (a, f, g) =
    let x : a ≡ b = first_same (sym f ∙ e) in
    let y : [] ≡ u = rest_same (sym f ∙ e) in
    subst (λ (r : Pattern). Fits r u) (sym (ap (λ (q : Bool). cond q nothing empty) (ap (within c) (sym x) ∙ g))) (sym y)
fits_after b (p then q) v u e (s, t, f, y, z) = go s (sym e ∙ f) y (fits_after b p s) (fits_after b q t u)
  where
    go : (s : List ℕ) → b ∷ u ≡ s ++ t → Fits p s → ((w : List ℕ) → s ≡ b ∷ w → Fits p s → Fits (after b p) w)
        → (t ≡ b ∷ u → Fits q t → Fits (after b q) u)
        → Fits (or_else (and_then (after b p) q) (cond (fits_empty p) (after b q) nothing)) u
    go [] x y f g =
        from_or (and_then (after b p) q) (cond (fits_empty p) (after b q) nothing) u
        (inr (subst (λ (a : Bool). Fits (cond a (after b q) nothing) u) (sym (fits_then_empty p [] refl y)) (g (sym x) z)))
    go (a ∷ s) x y f g =
        let d : a ≡ b = sym (first_same x) in
        from_or (and_then (after b p) q) (cond (fits_empty p) (after b q) nothing) u
        (inl (from_then (after b p) q u (s, t, rest_same x, f s (ap (λ (i : ℕ). i ∷ s) d) y, z)))
fits_after b (p or q) v u e (inl x) = from_or (after b p) (after b q) u (inl (fits_after b p v u e x))
fits_after b (p or q) v u e (inr x) = from_or (after b p) (after b q) u (inr (fits_after b q v u e x))
fits_after b (many p) v u e (n, h) = from_then (after b p) (many p) u (go n v e h (fits_after b p))
  where
    Then : Type 0
    Then = Fits (after b p then many p) u

    by : (n : ℕ) (s t : List ℕ) → b ∷ u ≡ s ++ t → Fits p s → Times n (Fits p) t → ((s w : List ℕ) → s ≡ b ∷ w → Fits p s → Fits (after b p) w)
        → (t ≡ b ∷ u → Then) → Then
    by n [] t x y z f k = k (sym x)
    by n (a ∷ s) t x y z f k = (s, t, rest_same x, f (a ∷ s) s (ap (λ (i : ℕ). i ∷ s) (sym (first_same x))) y, (n, z))

    go : (n : ℕ) (v : List ℕ) → v ≡ b ∷ u → Times n (Fits p) v → ((s w : List ℕ) → s ≡ b ∷ w → Fits p s → Fits (after b p) w) → Then
    go zero v e h f = absurd (none_some (sym h ∙ e))
    go (suc n) v e (s, t, x, y, z) f = by n s t (sym e ∙ x) y z f (λ d. go n t d z f)

-- ---------------------------------------------------------------- the test

at_byte : (p : Pattern) (b : ℕ) (u : List ℕ) → fits p (b ∷ u) ≡ fits (after b p) u
at_byte p b u =
    same_test (fits p (b ∷ u)) (fits (after b p) u)
    (λ h. says_fits (after b p) u (fits_after b p (b ∷ u) u refl (fits_says p (b ∷ u) h)))
    (λ h. says_fits p (b ∷ u) (after_fits b p u (fits_says (after b p) u h)))

at_end : (p : Pattern) → fits p [] ≡ fits_empty p
at_end p =
    same_test (fits p []) (fits_empty p)
    (λ h. fits_then_empty p [] refl (fits_says p [] h))
    (λ h. says_fits p [] (empty_fits p h))

pub remainders : Remainders
remainders = record { at_byte = at_byte; at_end = at_end }
