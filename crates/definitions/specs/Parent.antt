-- The tree rows. Document 02, 7/14: "A tree row becomes five numbers, the fifth being the parent's row, and the root
-- names itself." Rows stand in preorder, and a row's number is its place among them, from the root's 0.
use Rattle.std.specs.Prelude.{ℕ, suc, ◌+◌, List, [], ◌∷◌, ◌++◌, length}
use Rattle.definitions.specs.Layout.{NODE, LEAF}
use Rattle.definitions.specs.Token.{byte_count}
use Rattle.definitions.specs.Place.{Tree, nil, leaf, subtree, width, count, row_count}

-- a tree row before others: class, kind, width, count (children of a node, raw tokens of a leaf), "the parent's row"
abbrev pub tree_row : ℕ → ℕ → ℕ → ℕ → ℕ → List ℕ → List ℕ
tree_row c k w n parent l = c ∷ k ∷ w ∷ n ∷ parent ∷ l

-- The rows of parts side by side. parent: the row whose children these are; row: the number of the first of them. A
-- node's row is followed by those of its children, whose parent it is.
unfoldable pub rows_under : ℕ → ℕ → Tree → List ℕ
unfolding byte_count width count row_count
rows_under parent row nil = []
rows_under parent row (leaf k ts f) = tree_row LEAF k (byte_count ts) (length ts) parent (rows_under parent (suc row) f)
rows_under parent row (subtree k c f) =
    tree_row NODE k (width c) (count c) parent (rows_under row (suc row) c ++ rows_under parent (suc row + row_count c) f)

-- those of a whole tree: the root is row 0 and "names itself"
abbrev pub rows : Tree → List ℕ
rows t = rows_under 0 0 t
