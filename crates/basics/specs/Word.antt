-- Numbers of 32 bits.
use Rattle.std.specs.Prelude.{ℕ, ◌%◌}
use Rattle.definitions.specs.Layout.{TWO_TO_32}

-- the low 32 bits: sums wrap, and so do the numbers of a row; within cause 2's limits nothing wraps
abbrev pub low : ℕ → ℕ
low x = x % TWO_TO_32
