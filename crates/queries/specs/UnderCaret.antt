-- WHAT IS UNDER THE CARET, said of the rows that the query leaves in its buffers and not of a tree inside the
-- definitions. It excludes a chain that skips a row or leaves the tree, a leaf that ends at the offset, another row
-- than the last leaf at the file's end, and a second answer.
use Rattle.std.specs.Prelude.{ℕ, ◌≤◌, ◌<◌, ◌≡◌, List, [], ◌∷◌, length, take}
use Rattle.definitions.specs.Call.{Buffers}
use Rattle.definitions.specs.Caret.{caret, ListResult, query_call}
use Rattle.rows.specs.ResultRows.{Row, tree_rows}
use Rattle.rows.specs.RowTree.{Chain, end_byte, HasByte, IsLeaf}

-- the tree rows that a query left, and the numbers on its list
abbrev pub rows_left : ListResult → List Row
rows_left x = tree_rows (record { answer = x.answer; buffers = x.buffers })

abbrev pub on_list : ListResult → List ℕ
on_list x = take x.list_count x.list

-- in a file that is not empty, at an offset that is not past it: "the chain of tree rows, by number, from the root to
-- the leaf there"
pub record ToLeaf (l : List Row) (size offset : ℕ) (rows : List ℕ) : Type 0 where
  pub below : List ℕ
  pub from_root : rows ≡ 0 ∷ below
  pub leaf : ℕ
  pub is_leaf : IsLeaf l leaf
  -- each row is a child of the one before, and the last is the leaf; no other chain leads to it
  pub chain : Chain l 0 below leaf
  pub only_one : (other : List ℕ) → Chain l 0 other leaf → other ≡ below
  -- "A leaf owns its first byte and not its end": this one owns the offset, and no other
  pub owns : offset < size → HasByte l leaf offset
  pub alone : offset < size → (i : ℕ) → IsLeaf l i → HasByte l i offset → i ≡ leaf
  -- "An offset equal to the file's length belongs to the last leaf", which ends there
  pub last : offset ≡ size → (i : ℕ) → IsLeaf l i → i ≤ leaf
  pub ends : offset ≡ size → end_byte l leaf ≡ size

pub record UnderCaret (l : List Row) (size offset : ℕ) (rows : List ℕ) : Type 0 where
  pub there : 0 < size → offset ≤ size → ToLeaf l size offset rows
  -- "in an empty file it gives the root only"
  pub empty : size ≡ 0 → offset ≡ 0 → rows ≡ 0 ∷ []
  -- "an offset past the length gives no row"
  pub past : size < offset → rows ≡ []

-- for every accepted query
abbrev pub CaretAnswered : Type 0
CaretAnswered =
    (offset setting : ℕ) (bytes tokens : List ℕ) (b : Buffers) (list : List ℕ)
    → (query_call (caret offset) setting bytes tokens b list).answer.number ≡ 0
    → UnderCaret (rows_left (query_call (caret offset) setting bytes tokens b list)) (length bytes) offset
    (on_list (query_call (caret offset) setting bytes tokens b list))
