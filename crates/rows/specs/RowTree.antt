-- The tree that tree rows are, by row numbers alone: where a subtree ends, which rows are children of which, and the
-- bytes of a row. Rows are numbered in preorder from the root's 0.
use Rattle.std.specs.Prelude.{ℕ, zero, suc, ◌+◌, ◌≤◌, ◌<◌, ◌≡◌, cond, List, [], ◌∷◌, eqb, length, take, drop, get_or}
use Rattle.definitions.specs.Layout.{NODE, LEAF}
use Rattle.rows.specs.ResultRows.{Row, class, width, count, raw_bytes}

-- row i; no numbers past the last row
abbrev pub row : List Row → ℕ → Row
row l i = get_or l i []

-- how many children a row says that it has
abbrev pub children : Row → ℕ
children r = cond (eqb (class r) NODE) (count r) 0

-- ---------------------------------------------------------------- subtrees

-- how many rows so many subtrees side by side have: each row owes its children's subtrees
unfoldable pub span : ℕ → List Row → ℕ
span n [] = 0
span zero (r ∷ l) = 0
span (suc n) (r ∷ l) = suc (span (children r + n) l)

-- the number of the row after a row's subtree
abbrev pub subtree_end : List Row → ℕ → ℕ
subtree_end l i = i + span 1 (drop i l)

-- row c is a child of row p: between the two stand whole subtrees, fewer than p has children
pub record Child (l : List Row) (p c : ℕ) : Type 0 where
  pub exists : c < length l
  pub before : ℕ
  pub among : before < children (row l p)
  pub is : c ≡ suc p + span before (drop (suc p) l)

-- rows below row p, each a child of the one before, that lead to row i
unfoldable pub Chain : List Row → ℕ → List ℕ → ℕ → Type 0
Chain l p [] i = p ≡ i
Chain l p (c ∷ rest) i = Child l p c × Chain l c rest i

-- ---------------------------------------------------------------- bytes

-- a row's first byte: the leaves before it are so wide
abbrev pub first_byte : List Row → ℕ → ℕ
first_byte l i = raw_bytes (take i l)

-- the byte after its last
abbrev pub end_byte : List Row → ℕ → ℕ
end_byte l i = first_byte l i + width (row l i)

-- a byte is one of a row's: its first byte is, and its end is not
abbrev pub HasByte : List Row → ℕ → ℕ → Type 0
HasByte l i byte = (first_byte l i ≤ byte) × (byte < end_byte l i)

-- a leaf of the rows
abbrev pub IsLeaf : List Row → ℕ → Type 0
IsLeaf l i = (i < length l) × (class (row l i) ≡ LEAF)
