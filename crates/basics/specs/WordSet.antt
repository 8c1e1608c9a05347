-- A set of numbers below 64 as a word of 64 bits: n is in it where digit n is 1.
use Rattle.std.specs.Prelude.{ℕ, ◌/◌, ◌%◌, ◌^◌, Bool, eqb}
use Rattle.std.specs.Int.Bits.{bit_or}

abbrev pub WORD_BITS : ℕ
WORD_BITS = 64

-- the word with digit n alone; a shift is by less than 64
abbrev pub digit_of : ℕ → ℕ
digit_of n = 2 ^ (n % WORD_BITS)

unfoldable pub in_word : ℕ → ℕ → Bool
in_word n x = eqb (x / digit_of n % 2) 1

unfoldable pub put_in_word : ℕ → ℕ → ℕ
put_in_word n x = bit_or x (digit_of n)
