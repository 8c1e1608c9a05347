-- Computed: texts that fit and texts that do not, for each form of pattern and for patterns of the rules; then what
-- would be wrong to say of them, each refuted by a text.
use Prim.Native.Nat.{ℕ, suc}
use Prim.Native.String.{String}
use mathlib.Core.Path.{◌≡◌, refl, ap, ◌∙◌}
use mathlib.Core.Bool.{Bool, true, not, ◌&&◌, true≢false, false≢true}
use mathlib.Core.List.{List, [], ◌∷◌, ◌++◌}
use Rattle.definitions.specs.Pattern.{Pattern, nothing, empty, ◌then◌, ◌or◌, many, fits}
use Rattle.definitions.specs.Rules.{ascii, any, none, spelled, maybe, whitespace, line_comment, ident, decimal}
use Rattle.basics.proofs.Lists.{none_some}
use Rattle.patterns.specs.Textbook.{Times, Fits}
use Rattle.patterns.specs.Remainder.{and_then, or_else, after}
use Rattle.patterns.proofs.Textbook.{textbook}

-- of a pattern: every text of the first list fits, and none of the second
abbrev each_fits : Pattern → List String → Bool
each_fits p [] = true
each_fits p (s ∷ l) = fits p (ascii s) && each_fits p l

abbrev none_fits : Pattern → List String → Bool
none_fits p [] = true
none_fits p (s ∷ l) = not (fits p (ascii s)) && none_fits p l

abbrev Tells : Pattern → List String → List String → Type 0
Tells p these those = (each_fits p these && none_fits p those) ≡ true

-- ---------------------------------------------------------------- each form

pub of_nothing : Tells nothing [] ("" ∷ "a" ∷ [])
unfolding fits
of_nothing = refl

pub of_empty : Tells empty ("" ∷ []) ("a" ∷ [])
unfolding fits
of_empty = refl

pub of_one : Tells (any "ui") ("u" ∷ "i" ∷ []) ("a" ∷ "" ∷ "ui" ∷ [])
unfolding fits
of_one = refl

pub of_other : Tells (none "ui") ("a" ∷ "8" ∷ []) ("u" ∷ "i" ∷ "" ∷ "ab" ∷ [])
unfolding fits
of_other = refl

pub of_then : Tells (any "a" then any "b") ("ab" ∷ []) ("ba" ∷ "a" ∷ "b" ∷ "abb" ∷ [])
unfolding fits
of_then = refl

pub of_or : Tells (spelled (ascii "8") or spelled (ascii "16")) ("8" ∷ "16" ∷ []) ("816" ∷ "1" ∷ "" ∷ [])
unfolding fits
of_or = refl

-- also where a text of the repeated pattern may be empty
pub of_many : Tells (many (maybe (spelled (ascii "ab")))) ("" ∷ "ab" ∷ "abab" ∷ []) ("aba" ∷ "ba" ∷ [])
unfolding fits
of_many = refl

-- ---------------------------------------------------------------- the rules

-- a backslash is white space only before a line's end
pub of_whitespace : Tells whitespace (" " ∷ "\t\n" ∷ "\\\n " ∷ "\\\r\n" ∷ []) ("" ∷ "\\" ∷ "\\ " ∷ " a" ∷ [])
unfolding fits
of_whitespace = refl

pub of_line_comment : Tells line_comment ("//" ∷ "// a" ∷ []) ("/" ∷ "//\n" ∷ "//\r" ∷ [])
unfolding fits
of_line_comment = refl

-- an identifier may hold digits, and `#`, and does not start with a digit
pub of_ident : Tells ident ("a1" ∷ "#a" ∷ []) ("1a" ∷ "a-b" ∷ "" ∷ [])
unfolding fits
of_ident = refl

pub of_decimal : Tells decimal ("0" ∷ "1_0" ∷ "1u64" ∷ "1ULL" ∷ "1llu" ∷ []) ("_1" ∷ "1u7" ∷ "0x1" ∷ "1UU" ∷ [])
unfolding fits
of_decimal = refl

-- ---------------------------------------------------------------- wrong meanings of `many` and `then`

pub none_of_many : Fits (many (any "a")) []
unfolding fits
none_of_many = (textbook (many (any "a")) []).0 refl

pub once_at_least : ¬ ((p : Pattern) (u : List ℕ) → fits (many p) u ≡ true → (n : ℕ) × Times (suc n) (Fits p) u)
unfolding fits Fits Times
once_at_least h =
    let (n, (s, t, e, (b, f, x), y)) = h (any "a") [] refl in
    none_some (e ∙ ap (λ (l : List ℕ). l ++ t) f)

pub any_order : ¬ ((p q : Pattern) (u : List ℕ) → Fits (q then p) u → fits (p then q) u ≡ true)
unfolding fits
any_order h = false≢true (h (any "b") (any "a") (ascii "ab") ((textbook (any "a" then any "b") (ascii "ab")).0 refl))

-- ---------------------------------------------------------------- wrong remainders

-- of `then`, 49 is "1": what is left, where the first may be empty and where it may not
pub left_of_then : (after 49 (maybe (any "-") then any "1") ≡ empty) × (after 49 (any "-" then any "1") ≡ nothing)
unfolding after
left_of_then = (refl, refl)

pub without_second : ¬ ((p q : Pattern) (b : ℕ) (u : List ℕ) → fits (p then q) (b ∷ u) ≡ fits (and_then (after b p) q) u)
unfolding fits after
without_second h = true≢false (h (maybe (any "-")) (any "1") 49 [])

pub always_second : ¬ ((p q : Pattern) (b : ℕ) (u : List ℕ) → fits (p then q) (b ∷ u) ≡ fits (or_else (and_then (after b p) q) (after b q)) u)
unfolding fits after
always_second h = false≢true (h (any "-") (any "1") 49 [])

-- of `many`: a text more may follow
pub left_of_many : after 49 (many (any "1")) ≡ many (any "1")
unfolding after
left_of_many = refl

pub only_once : ¬ ((p : Pattern) (b : ℕ) (u : List ℕ) → fits (many p) (b ∷ u) ≡ fits (after b p) u)
unfolding fits after
only_once h = true≢false (h (any "1") 49 (ascii "1"))
