-- What the walks over tree rows do. No part of the exported promise.
use Rattle.std.specs.Prelude.{ℕ, zero, suc, ◌+◌, ◌-◌, ◌*◌, ◌≤◌, ◌<◌, ◌≡◌, cond, List, [], ◌∷◌, ltb, length, drop}
use Rattle.definitions.specs.Layout.{TREE_ROW, TWO_TO_32}
use Rattle.rows.specs.ResultRows.{Row, width}
use Rattle.rows.specs.OnePass.{own, tree_rows_of, Classes, AddsUp}
use Rattle.caret.specs.declared.chain.Spot.{Spot}

-- numbers laid over the front of a buffer, as many as there is room for
unfoldable pub laid : List ℕ → List ℕ → List ℕ
laid [] b = b
laid (x ∷ l) [] = []
laid (x ∷ l) (y ∷ b) = x ∷ laid l b

-- what a walk answers, and what it leaves of a list: the numbers of these rows are laid over its front
pub record Lists (rows : List ℕ) (count : ℕ) (before after : List ℕ) : Type 0 where
  pub many : count ≡ length rows
  pub listed : after ≡ laid rows before

-- the first row that has the byte `left` bytes after the start of the first; the index of the first's first number is
-- given
unfoldable pub seek_from : ℕ → ℕ → List Row → Spot
seek_from index left [] = record { index = index; left = left }
seek_from index left (r ∷ l) =
    let later = seek_from (index + TREE_ROW) (left - own r) l in
    cond (ltb left (width r)) (record { index = index; left = left }) later

-- how many rows are passed until their leaves add up to so many bytes
unfoldable pub passed : ℕ → List Row → ℕ
passed n [] = 0
passed zero (r ∷ l) = 0
passed (suc n) (r ∷ l) = suc (passed (suc n - own r) l)

-- where the walk along the parts may start: at a part
pub record Starts (trees : List ℕ) (index start : ℕ) : Type 0 where
  pub row : ℕ
  pub at : index ≡ TREE_ROW * row
  pub inside : index ≤ length trees + TREE_ROW
  pub classes : Classes (tree_rows_of (drop index trees))
  pub room : ℕ
  pub small : start + room < TWO_TO_32
  pub adds : AddsUp 0 room (tree_rows_of (drop index trees))
