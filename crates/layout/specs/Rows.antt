-- Rows of n numbers, one after another in a lent buffer.
use Rattle.std.specs.Prelude.{ℕ, ◌+◌, ◌-◌, ◌*◌, ◌/◌, ◌<◌, ◌≡◌, Bool, cond, ◌&&◌, List, leb, ltb, length, get_or}
use Rattle.std.proofs.lemmas.List.Edits.{sets}

-- whether n more numbers fit a buffer of so many after the first `count`
abbrev pub fits : ℕ → ℕ → ℕ → Bool
fits len count n = leb count len && leb n (len - count)

-- a row's numbers from an index on; nothing where they do not fit
unfoldable pub put_row : ℕ → ℕ → List ℕ → List ℕ → List ℕ
put_row n index row buffer = cond (fits (length buffer) index n) (sets buffer index row) buffer

-- a number of a row; 0 past the last row
unfoldable pub field : ℕ → List ℕ → ℕ → ℕ → ℕ
field n buffer row column = cond (ltb row (length buffer / n)) (get_or buffer (row * n + column) 0) 0

-- whether r is row i
pub record IsRow (n : ℕ) (buffer : List ℕ) (i : ℕ) (r : List ℕ) : Type 0 where
  pub inside : i < length buffer / n
  pub numbers : (k : ℕ) → k < n → get_or r k 0 ≡ get_or buffer (i * n + k) 0
