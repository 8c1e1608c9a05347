-- ROWS PASS: the rows of a text's tokens pass every check of a call's input but the sizes, so a text is never refused
-- with 3, 4 or 11 to 13.
use Rattle.std.specs.Prelude.{ℕ, ◌≤◌, ◌≡◌, List, length}
use Rattle.definitions.specs.Refusal.{accepted}
use Rattle.definitions.specs.RowCauses.{check_input}
use Rattle.definitions.specs.Lex.{lex}
use Rattle.definitions.specs.Text.{numbers_of}

-- with document 01's limits, written out
abbrev pub RowsPass : Type 0
RowsPass =
    (s : List ℕ) → length s ≤ 1048576 → length (numbers_of (lex s)) ≤ 131072
    → check_input s (numbers_of (lex s)) ≡ accepted
