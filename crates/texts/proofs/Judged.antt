-- What is wrong with a text, the lowest offset first: `lower` finds it, and there is one such thing only.
use Prim.Native.Nat.{ℕ, ◌+◌, ◌<◌, ◌≤◌}
use native.Mathlib.Omega.{arith}
use mathlib.Core.Path.{◌≡◌, refl, sym, ap, ◌∙◌, subst}
use mathlib.Core.Bool.{Bool, true, false, cond}
use mathlib.Core.List.{List, [], ◌∷◌, ◌++◌}
use lib.Dec.{leb}
use lib.ListN.{length, drop}
use borrow.Author.Tests.{leb-true, leb-false}
use Rattle.definitions.specs.Lex.{lex}
use Rattle.definitions.specs.Text.{Offset, high_byte, directive, has_high_byte, has_directive, TextVerdict, sound, unsound, lower}
use Rattle.basics.proofs.Lists.{first_same}
use Rattle.texts.specs.Plain.{HighAt, DirectiveAt, Plain}
use Rattle.texts.proofs.Offsets.{Found, none, at, high_found, directive_found}

-- not of any offset below i
abbrev pub NotBelow : ℕ → (ℕ → Type 0) → Type 0
NotBelow i P = (j : ℕ) → j < i → ¬ P j

pub data Judged (bytes : List ℕ) : TextVerdict → Type 0 where
  plain : Plain bytes → Judged bytes sound
  high : (i : ℕ) → HighAt bytes i → NotBelow i (HighAt bytes) → NotBelow i (DirectiveAt bytes) → Judged bytes (unsound (has_high_byte i))
  directs : (i : ℕ) → DirectiveAt bytes i → NotBelow i (DirectiveAt bytes) → NotBelow i (HighAt bytes) → Judged bytes (unsound (has_directive i))

-- ---------------------------------------------------------------- it is found

below : (i j : ℕ) (P : ℕ → Type 0) → i ≤ j → NotBelow j P → NotBelow i P
below i j P h n k l = n k (omega (arith, h, l))

pub judged : (bytes : List ℕ) → Judged bytes (lower (high_byte 0 bytes) (directive 0 bytes (lex bytes)))
unfolding lower
judged bytes = by (high_byte 0 bytes) (directive 0 bytes (lex bytes)) (high_found 0 bytes) (directive_found bytes 0)
  where
    by : (o p : Offset) → Found (HighAt bytes) 0 o → Found (DirectiveAt bytes) 0 p → Judged bytes (lower o p)
    by o p (none h) (none d) = plain (record { no_high_byte = h; no_directive = d })
    by o p (none h) (at j d n) =
        let e : j ≡ 0 + j = omega arith in
        subst (λ (k : ℕ). Judged bytes (unsound (has_directive k))) e (directs j d n (λ k l. h k))
    by o p (at i h m) (none d) =
        let e : i ≡ 0 + i = omega arith in
        subst (λ (k : ℕ). Judged bytes (unsound (has_high_byte k))) e (high i h m (λ k l. d k))
    by o p (at i h m) (at j d n) = two (leb (0 + i) (0 + j)) refl
      where
        two : (x : Bool) → leb (0 + i) (0 + j) ≡ x → Judged bytes (cond x (unsound (has_high_byte (0 + i))) (unsound (has_directive (0 + j))))
        two true e =
            let f : i ≡ 0 + i = omega arith in
            let g : 0 + i ≤ 0 + j = leb-true (0 + i) (0 + j) e in
            subst (λ (k : ℕ). Judged bytes (unsound (has_high_byte k))) f (high i h m (below i j (DirectiveAt bytes) (omega (arith, g)) n))
        two false e =
            let f : j ≡ 0 + j = omega arith in
            let g : 0 + j < 0 + i = leb-false (0 + i) (0 + j) e in
            subst (λ (k : ℕ). Judged bytes (unsound (has_directive k))) f (directs j d n (below j i (HighAt bytes) (omega (arith, g)) m))

-- ---------------------------------------------------------------- there is no other

behind_front : (l : List ℕ) (x : ℕ) (m : List ℕ) → drop (length l) (l ++ (x ∷ m)) ≡ x ∷ m
behind_front [] x m = refl
behind_front (y ∷ l) x m = behind_front l x m

-- `#` is no high byte
not_both : (bytes : List ℕ) (i : ℕ) → HighAt bytes i → ¬ DirectiveAt bytes i
not_both bytes i h d =
    let there : h.byte ∷ h.behind ≡ drop i bytes =
    sym (behind_front h.before h.byte h.behind)
    ∙ ap (drop (length h.before)) (sym h.stands)
    ∙ ap (λ (k : ℕ). drop k bytes) h.offset in
    let e : h.byte ≡ 35 = first_same (there ∙ d.directive.stands) in
    omega (arith, h.high, e)

-- two offsets, neither of which is below the other
same_offset : (i j : ℕ) → ¬ (i < j) → ¬ (j < i) → i ≡ j
same_offset i j h g = omega (arith, h, g)

pub only : (bytes : List ℕ) (v w : TextVerdict) → Judged bytes v → Judged bytes w → v ≡ w
only bytes v w (plain p) (plain q) = refl
only bytes v w (plain p) (high i h m n) = absurd (p.no_high_byte i h)
only bytes v w (plain p) (directs i d m n) = absurd (p.no_directive i d)
only bytes v w (high i h m n) (plain p) = absurd (p.no_high_byte i h)
only bytes v w (high i h m n) (high j g k l) =
    ap (λ (x : ℕ). unsound (has_high_byte x)) (same_offset i j (λ (x : i < j). k i x h) (λ (x : j < i). m j x g))
only bytes v w (high i h m n) (directs j d k l) =
    absurd (not_both bytes i h (subst (DirectiveAt bytes) (same_offset j i (λ (x : j < i). n j x d) (λ (x : i < j). l i x h)) d))
only bytes v w (directs i d m n) (plain p) = absurd (p.no_directive i d)
only bytes v w (directs i d m n) (high j h k l) =
    absurd (not_both bytes j h (subst (DirectiveAt bytes) (same_offset i j (λ (x : i < j). l i x d) (λ (x : j < i). n j x h)) d))
only bytes v w (directs i d m n) (directs j c k l) =
    ap (λ (x : ℕ). unsound (has_directive x)) (same_offset i j (λ (x : i < j). k i x d) (λ (x : j < i). m j x c))
