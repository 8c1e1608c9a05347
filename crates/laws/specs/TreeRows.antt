-- Tree rows as a reader of the buffer finds them: numbers in fives, in preorder, and the tree that they are read as.
use Rattle.std.specs.Prelude.{ℕ, zero, suc, ◌+◌, ◌≡◌, Bool, cond, List, [], ◌∷◌, ◌++◌, eqb}
use Rattle.definitions.specs.Layout.{NODE, LEAF}

-- rows side by side, each with what follows it. A leaf has kind, width and count; a node has them too, and its
-- children.
pub data Rows : Type 0 where
  end : Rows
  leaf : ℕ → ℕ → ℕ → Rows → Rows
  node : ℕ → ℕ → ℕ → Rows → Rows → Rows

-- how many there are, those under a node counted
unfoldable pub row_total : Rows → ℕ
row_total end = 0
row_total (leaf k w n f) = suc (row_total f)
row_total (node k w n c f) = suc (row_total c + row_total f)

-- the numbers of rows in preorder: class, kind, width, count, the parent's row. parent: the row whose children these
-- are; row: the number of the first of them
unfoldable pub preorder_under : ℕ → ℕ → Rows → List ℕ
unfolding row_total
preorder_under parent row end = []
preorder_under parent row (leaf k w n f) = LEAF ∷ k ∷ w ∷ n ∷ parent ∷ preorder_under parent (suc row) f
preorder_under parent row (node k w n c f) =
    NODE ∷ k ∷ w ∷ n ∷ parent ∷ (preorder_under row (suc row) c ++ preorder_under parent (suc row + row_total c) f)

-- of a whole tree: the root is row 0 and its own parent
abbrev pub preorder : Rows → List ℕ
preorder r = preorder_under 0 0 r

-- how many rows stand side by side, those under a node not counted
unfoldable pub siblings : Rows → ℕ
siblings end = 0
siblings (leaf k w n f) = suc (siblings f)
siblings (node k w n c f) = suc (siblings f)

-- the sum of their widths
unfoldable pub widths : Rows → ℕ
widths end = 0
widths (leaf k w n f) = w + widths f
widths (node k w n c f) = w + widths f

-- each node's count is the number of its children
unfoldable pub Counts : Rows → Type 0
unfolding siblings
Counts end = Unit {0}
Counts (leaf k w n f) = Counts f
Counts (node k w n c f) = (n ≡ siblings c) × Counts c × Counts f

-- each node's width is the sum of its children's
unfoldable pub Widths : Rows → Type 0
unfolding widths
Widths end = Unit {0}
Widths (leaf k w n f) = Widths f
Widths (node k w n c f) = (w ≡ widths c) × Widths c × Widths f

-- ---------------------------------------------------------------- reading

-- the first n of rows side by side, and those after them
unfoldable pub first_rows : ℕ → Rows → Rows
first_rows zero f = end
first_rows (suc m) end = end
first_rows (suc m) (leaf k w n f) = leaf k w n (first_rows m f)
first_rows (suc m) (node k w n c f) = node k w n c (first_rows m f)

unfoldable pub later_rows : ℕ → Rows → Rows
later_rows zero f = f
later_rows (suc m) end = end
later_rows (suc m) (leaf k w n f) = later_rows m f
later_rows (suc m) (node k w n c f) = later_rows m f

-- A row and the rows read from what follows it: a node takes as many of them for its children as its count says.
unfoldable pub read_row : Bool → ℕ → ℕ → ℕ → Rows → Rows
unfolding first_rows later_rows
read_row is-node k w n f = cond is-node (node k w n (first_rows n f) (later_rows n f)) (leaf k w n f)

-- Numbers read as rows in preorder, by classes and counts; the parents are not looked at. Fewer than five at the end
-- are not a row.
unfoldable pub read : List ℕ → Rows
unfolding read_row
read [] = end
read (c ∷ []) = end
read (c ∷ k ∷ []) = end
read (c ∷ k ∷ w ∷ []) = end
read (c ∷ k ∷ w ∷ n ∷ []) = end
read (c ∷ k ∷ w ∷ n ∷ p ∷ l) = read_row (eqb c NODE) k w n (read l)
