-- The table that src/table.rt holds, and what the functions of src/ give.
use Rattle.std.specs.Prelude.{ℕ, ◌+◌, ◌*◌, ◌/◌, cond, List, ◌++◌, map, ltb, get_or}
use Rattle.lex_table.specs.States.{long_rows, classes, short_rows, kinds}

-- a state is held as its number times 256
unfoldable pub rows_of : List ℕ → List ℕ
rows_of l = map (λ (i : ℕ). i * 256) l

unfoldable pub table : List ℕ
unfolding rows_of
table = rows_of long_rows ++ (classes ++ (rows_of short_rows ++ kinds))

-- the next state's row, after a byte
unfoldable pub row_after : ℕ → ℕ → ℕ
unfolding table
row_after row b =
    cond (ltb row 5376) (get_or table (row + b) 0) (get_or table (row / 256 * 31 + get_or table (b + 5376) 0 + 4981) 0)

unfoldable pub kind_of_row : ℕ → ℕ
kind_of_row row = get_or kinds (row / 256) 0
