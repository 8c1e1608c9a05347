-- A kind's fixed spelling decides which bytes it may have.
use Rattle.std.proofs.Common.{◌≡◌, ℕ, ◌≤◌, Bool, true, false, cond, Option, None, Some, MatchOption, List, [], ◌∷◌, eqb, refl, sym, ◌∙◌, ap, arith}
use Rattle.std.specs.Bool.{Decides}
use Rattle.std.proofs.lemmas.Bool.Decides.{nat_tests, same_from_decides, Decides-eqb}
use Rattle.std.proofs.lemmas.Slice.Eq.{slice_eq-Decides}
use Rattle.std.specs.Cmp.Lexicographic.{pointwise}
use Rattle.std.specs.Borrow.{Bor}
use Rattle.basics.proofs.Texts.{same_true, same_refl}
use Rattle.definitions.specs.StaticText.{Text, static_texts, same, fits_text}
use Rattle.input.specs.Checks.{spelling}

pub free : (es : List Text) (k : ℕ) (bytes : List ℕ) → spelling es k ≡ None → fits_text es k bytes ≡ true
unfolding spelling fits_text
free [] k bytes h = refl
free (e ∷ es) k bytes h = go (eqb e.kind k) (free es k bytes) h
  where
    go : (b : Bool) → (spelling es k ≡ None → fits_text es k bytes ≡ true) → cond b (Some e.text) (spelling es k) ≡ None → cond b (same e.text bytes) (fits_text es k bytes) ≡ true
    go true f p = cc
    go false f p = f p

fixed : (es : List Text) (k : ℕ) (bytes t : List ℕ) → spelling es k ≡ Some t → fits_text es k bytes ≡ same t bytes
unfolding spelling fits_text
fixed [] k bytes t h = cc
fixed (e ∷ es) k bytes t h = go (eqb e.kind k) (fixed es k bytes t) h
  where
    go : (b : Bool) → (spelling es k ≡ Some t → fits_text es k bytes ≡ same t bytes) → cond b (Some e.text) (spelling es k) ≡ Some t → cond b (same e.text bytes) (fits_text es k bytes) ≡ same t bytes
    go true f p = let q : e.text ≡ t = cc in ap (λ l. same l bytes) q
    go false f p = f p

same-Decides : (a b : List ℕ) → Decides (same a b) (a ≡ b)
same-Decides a b = (same_true a b, λ e. ap (λ l. same a l) (sym e) ∙ same_refl a)

-- by what the code finds, r, and by whether the bytes are that
pub by_spelling : (k : ℕ) (bytes : List ℕ) (r : Option (Bor (List ℕ))) (b : Bool) → MatchOption r (spelling static_texts k ≡ None) (λ t. spelling static_texts k ≡ Some t.now)
    → MatchOption r (b ≡ true) (λ t. b ≡ pointwise eqb t.now bytes) → b ≡ fits_text static_texts k bytes
by_spelling k bytes None b h e = e ∙ sym (free static_texts k bytes h)
by_spelling k bytes (Some t) b h e =
    same_from_decides b (same t.now bytes) (slice_eq-Decides Decides-eqb t.now bytes b e) (same-Decides t.now bytes) ∙ sym (fixed static_texts k bytes t.now h)

none_above : (k : ℕ) → 256 ≤ k → spelling static_texts k ≡ None
unfolding spelling
none_above k h = grind (arith, nat_tests)

-- no number past a byte has one
pub above : (k : ℕ) (bytes : List ℕ) → 256 ≤ k → fits_text static_texts k bytes ≡ true
above k bytes h = free static_texts k bytes (none_above k h)
