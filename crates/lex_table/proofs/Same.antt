-- Equality of lists of rules, as a test that computes. A path between two lists of remainders is not computed in any
-- time: it would compare them without sharing.
use Prim.Native.Nat.{ℕ, zero, suc}
use mathlib.Core.Path.{◌≡◌, refl, sym, ◌∙◌, ap}
use mathlib.Core.Bool.{Bool, true, false, ◌&&◌, false≢true}
use mathlib.Core.List.{List, [], ◌∷◌}
use lib.Dec.{eqb}
use borrow.Author.Tests.{eqb-true}
use Rattle.basics.proofs.Tests.{and_left, and_right}
use Rattle.definitions.specs.Pattern.{Range, Pattern, nothing, empty, one, other, ◌then◌, ◌or◌, many}
use Rattle.definitions.specs.Rules.{Callback, no_callback, lex_block_comment, lex_string, lex_char, lex_bytestring, Rule}

-- ---------------------------------------------------------------- a pattern taken apart and put together

abbrev tag : Pattern → ℕ
tag nothing = 0
tag empty = 1
tag (one c) = 2
tag (other c) = 3
tag (p then q) = 4
tag (p or q) = 5
tag (many p) = 6

abbrev class : Pattern → List Range
class nothing = []
class empty = []
class (one c) = c
class (other c) = c
class (p then q) = []
class (p or q) = []
class (many p) = []

abbrev left : Pattern → Pattern
left nothing = nothing
left empty = nothing
left (one c) = nothing
left (other c) = nothing
left (p then q) = p
left (p or q) = p
left (many p) = p

abbrev right : Pattern → Pattern
right nothing = nothing
right empty = nothing
right (one c) = nothing
right (other c) = nothing
right (p then q) = q
right (p or q) = q
right (many p) = nothing

abbrev build : ℕ → List Range → Pattern → Pattern → Pattern
build zero c p q = nothing
build (suc zero) c p q = empty
build (suc (suc zero)) c p q = one c
build (suc (suc (suc zero))) c p q = other c
build (suc (suc (suc (suc zero)))) c p q = p then q
build (suc (suc (suc (suc (suc zero))))) c p q = p or q
build (suc (suc (suc (suc (suc (suc n)))))) c p q = many p

rebuilt : (p : Pattern) → build (tag p) (class p) (left p) (right p) ≡ p
rebuilt nothing = refl
rebuilt empty = refl
rebuilt (one c) = refl
rebuilt (other c) = refl
rebuilt (p then q) = refl
rebuilt (p or q) = refl
rebuilt (many p) = refl

-- ---------------------------------------------------------------- callbacks by number

abbrev pub number : Callback → ℕ
number no_callback = 0
number lex_block_comment = 1
number lex_string = 2
number lex_char = 3
number lex_bytestring = 4

abbrev numbered : ℕ → Callback
numbered zero = no_callback
numbered (suc zero) = lex_block_comment
numbered (suc (suc zero)) = lex_string
numbered (suc (suc (suc zero))) = lex_char
numbered (suc (suc (suc (suc n)))) = lex_bytestring

renumbered : (c : Callback) → numbered (number c) ≡ c
renumbered no_callback = refl
renumbered lex_block_comment = refl
renumbered lex_string = refl
renumbered lex_char = refl
renumbered lex_bytestring = refl

pub same_number : (c d : Callback) → eqb (number c) (number d) ≡ true → c ≡ d
same_number c d h = sym (renumbered c) ∙ ap numbered (eqb-true (number c) (number d) h) ∙ renumbered d

-- ---------------------------------------------------------------- the tests

unfoldable pub same_ranges : List Range → List Range → Bool
same_ranges [] [] = true
same_ranges [] (y ∷ ys) = false
same_ranges (x ∷ xs) [] = false
same_ranges (x ∷ xs) (y ∷ ys) = (eqb x.low y.low && eqb x.high y.high) && same_ranges xs ys

unfoldable pub same_pattern : Pattern → Pattern → Bool
unfolding same_ranges
same_pattern nothing x = eqb 0 (tag x)
same_pattern empty x = eqb 1 (tag x)
same_pattern (one c) x = eqb 2 (tag x) && same_ranges c (class x)
same_pattern (other c) x = eqb 3 (tag x) && same_ranges c (class x)
same_pattern (p then q) x = eqb 4 (tag x) && (same_pattern p (left x) && same_pattern q (right x))
same_pattern (p or q) x = eqb 5 (tag x) && (same_pattern p (left x) && same_pattern q (right x))
same_pattern (many p) x = eqb 6 (tag x) && same_pattern p (left x)

unfoldable pub same_rules : List Rule → List Rule → Bool
unfolding same_pattern
same_rules [] [] = true
same_rules [] (y ∷ ys) = false
same_rules (x ∷ xs) [] = false
same_rules (x ∷ xs) (y ∷ ys) =
    (eqb x.kind y.kind && eqb (number x.callback) (number y.callback)) && (same_pattern x.pattern y.pattern && same_rules xs ys)

-- ---------------------------------------------------------------- what they say

ranges_true : (a b : List Range) → same_ranges a b ≡ true → a ≡ b
unfolding same_ranges
ranges_true [] [] h = refl
ranges_true [] (y ∷ ys) h = absurd (false≢true h)
ranges_true (x ∷ xs) [] h = absurd (false≢true h)
ranges_true (x ∷ xs) (y ∷ ys) h =
    let e = and_left (eqb x.low y.low && eqb x.high y.high) (same_ranges xs ys) h in
    let l = eqb-true x.low y.low (and_left _ (eqb x.high y.high) e) in
    let r = eqb-true x.high y.high (and_right (eqb x.low y.low) _ e) in
    let t = ranges_true xs ys (and_right (eqb x.low y.low && eqb x.high y.high) (same_ranges xs ys) h) in
    λ i. record { low = l i; high = r i } ∷ t i

rebuild : (n : ℕ) (c : List Range) (p q x : Pattern) → n ≡ tag x → c ≡ class x → p ≡ left x → q ≡ right x → build n c p q ≡ x
rebuild n c p q x e f g h = (λ i. build (e i) (f i) (g i) (h i)) ∙ rebuilt x

-- x is of the form with this number and class
of_class : (n : ℕ) (c : List Range) (x : Pattern) → (eqb n (tag x) && same_ranges c (class x)) ≡ true → build n c (left x) (right x) ≡ x
of_class n c x h =
    rebuild n c (left x) (right x) x (eqb-true n (tag x) (and_left _ (same_ranges c (class x)) h))
    (ranges_true c (class x) (and_right (eqb n (tag x)) _ h)) refl refl

-- x is of the form with this number, joined of two; what the parts' tests say is handed on
of_two : (n : ℕ) (p q x : Pattern) → (same_pattern p (left x) ≡ true → p ≡ left x) → (same_pattern q (right x) ≡ true → q ≡ right x)
    → (eqb n (tag x) && (same_pattern p (left x) && same_pattern q (right x))) ≡ true → build n (class x) p q ≡ x
of_two n p q x f g h =
    let t = and_right (eqb n (tag x)) (same_pattern p (left x) && same_pattern q (right x)) h in
    rebuild n (class x) p q x (eqb-true n (tag x) (and_left _ (same_pattern p (left x) && same_pattern q (right x)) h)) refl
    (f (and_left _ (same_pattern q (right x)) t)) (g (and_right (same_pattern p (left x)) _ t))

pattern_true : (p x : Pattern) → same_pattern p x ≡ true → p ≡ x
unfolding same_pattern
pattern_true nothing x h = rebuild 0 (class x) (left x) (right x) x (eqb-true 0 (tag x) h) refl refl refl
pattern_true empty x h = rebuild 1 (class x) (left x) (right x) x (eqb-true 1 (tag x) h) refl refl refl
pattern_true (one c) x h = of_class 2 c x h
pattern_true (other c) x h = of_class 3 c x h
pattern_true (p then q) x h = of_two 4 p q x (pattern_true p (left x)) (pattern_true q (right x)) h
pattern_true (p or q) x h = of_two 5 p q x (pattern_true p (left x)) (pattern_true q (right x)) h
pattern_true (many p) x h =
    rebuild 6 (class x) p (right x) x (eqb-true 6 (tag x) (and_left _ (same_pattern p (left x)) h)) refl
    (pattern_true p (left x) (and_right (eqb 6 (tag x)) _ h)) refl

pub rules_true : (a b : List Rule) → same_rules a b ≡ true → a ≡ b
unfolding same_rules
rules_true [] [] h = refl
rules_true [] (y ∷ ys) h = absurd (false≢true h)
rules_true (x ∷ xs) [] h = absurd (false≢true h)
rules_true (x ∷ xs) (y ∷ ys) h =
    let a = eqb x.kind y.kind in
    let b = eqb (number x.callback) (number y.callback) in
    let p = same_pattern x.pattern y.pattern in
    let t = same_rules xs ys in
    let l = and_left (a && b) (p && t) h in
    let r = and_right (a && b) (p && t) h in
    let k = eqb-true x.kind y.kind (and_left a b l) in
    let c = same_number x.callback y.callback (and_right a b l) in
    let q = pattern_true x.pattern y.pattern (and_left p t r) in
    let u = rules_true xs ys (and_right p t r) in
    λ i. record { kind = k i; pattern = q i; callback = c i } ∷ u i
