-- REMAINDERS: what is left of a pattern after a byte, by recursion on the pattern. A text is tried byte by byte with
-- them, which the code's tables do.
use Rattle.std.specs.Prelude.{ℕ, ◌≡◌, Bool, true, false, cond, ◌&&◌, ◌||◌, List, [], ◌∷◌}
use Rattle.definitions.specs.Pattern.{Pattern, nothing, empty, one, other, ◌then◌, ◌or◌, many, within, fits}

-- whether the empty text fits
unfoldable pub fits_empty : Pattern → Bool
fits_empty nothing = false
fits_empty empty = true
fits_empty (one c) = false
fits_empty (other c) = false
fits_empty (p then q) = fits_empty p && fits_empty q
fits_empty (p or q) = fits_empty p || fits_empty q
fits_empty (many p) = true

abbrev pub is_nothing : Pattern → Bool
is_nothing nothing = true
is_nothing empty = false
is_nothing (one c) = false
is_nothing (other c) = false
is_nothing (p then q) = false
is_nothing (p or q) = false
is_nothing (many p) = false

abbrev pub is_empty : Pattern → Bool
is_empty nothing = false
is_empty empty = true
is_empty (one c) = false
is_empty (other c) = false
is_empty (p then q) = false
is_empty (p or q) = false
is_empty (many p) = false

-- `then` and `or`, with what is plain left out, so that a pattern has few remainders
abbrev pub and_then : Pattern → Pattern → Pattern
and_then p q = cond (is_nothing p) nothing (cond (is_empty p) q (p then q))

abbrev pub or_else : Pattern → Pattern → Pattern
or_else p q = cond (is_nothing p) q (cond (is_nothing q) p (p or q))

-- what is left of a pattern after a byte
unfoldable pub after : ℕ → Pattern → Pattern
unfolding within fits_empty
after b nothing = nothing
after b empty = nothing
after b (one c) = cond (within c b) empty nothing
after b (other c) = cond (within c b) nothing empty
after b (p then q) =
    let r = after b q in
    or_else (and_then (after b p) q) (cond (fits_empty p) r nothing)
after b (p or q) = or_else (after b p) (after b q)
after b (many p) = and_then (after b p) (many p)

-- it fits a text just where the pattern fits the byte with the text behind it
pub record Remainders : Type 0 where
  pub at_byte : (p : Pattern) (b : ℕ) (u : List ℕ) → fits p (b ∷ u) ≡ fits (after b p) u
  pub at_end : (p : Pattern) → fits p [] ≡ fits_empty p
