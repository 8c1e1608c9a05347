-- THE WAY UP. What a reader who walks upwards relies on, of the tree rows that an accepted call leaves in its buffer,
-- for each of the four entries in either setting. Document 02, 7/14: "A tree row becomes five numbers, the fifth being
-- the parent's row, and the root names itself." `Child`, `Chain` and `subtree_end` (crates/rows) know classes and child
-- counts alone, so that the two ways to say a tree are held against each other. It excludes the row before in the place
-- of the parent, a distance, where the parent's numbers start in the buffer, and a parent that is only an ancestor.
use Rattle.std.specs.Prelude.{ℕ, zero, suc, ◌+◌, ◌≤◌, ◌<◌, ◌≡◌, cond, List, [], ◌∷◌, ltb, eqb, length, drop}
use Rattle.definitions.specs.Call.{Buffers, call}
use Rattle.rows.specs.ResultRows.{Row, tree_rows, parent}
use Rattle.rows.specs.RowTree.{row, children, subtree_end, Child, Chain}

-- a row's parent, by their numbers
abbrev pub parent_of : List Row → ℕ → ℕ
parent_of l i = parent (row l i)

-- the row so many steps up from a row
unfoldable pub up : List Row → ℕ → ℕ → ℕ
up l zero i = i
up l (suc n) i = up l n (parent_of l i)

-- rows below row p, each of which names the one before
unfoldable pub NamesUp : List Row → ℕ → List ℕ → Type 0
NamesUp l p [] = Unit {0}
NamesUp l p (c ∷ rest) = (parent_of l c ≡ p) × NamesUp l c rest

-- ---------------------------------------------------------------- either gives the other back

-- from parents alone: how many of some rows name row p
unfoldable pub naming : ℕ → List Row → ℕ
naming p [] = 0
naming p (r ∷ l) = cond (eqb (parent r) p) 1 0 + naming p l

-- from child counts alone: the last of the first n rows whose subtree holds row c; 0 if none does
unfoldable pub holder : List Row → ℕ → ℕ → ℕ
holder l c zero = 0
holder l c (suc n) =
    let before = holder l c n in
    cond (ltb c (subtree_end l n)) n before

-- ---------------------------------------------------------------- the claim

pub record Upwards (l : List Row) : Type 0 where
  -- "the root names itself"
  pub root : (0 < length l) × (parent_of l 0 ≡ 0)
  -- each other row names an earlier one, whose subtree holds the row and all that is under it
  pub earlier : (c : ℕ) → 0 < c → c < length l → parent_of l c < c
  pub inside : (c : ℕ) → 0 < c → c < length l
      → (c < subtree_end l (parent_of l c)) × (subtree_end l c ≤ subtree_end l (parent_of l c))
  -- from any row the way up ends at the root
  pub to_root : (c : ℕ) → c < length l → (n : ℕ) × (n ≤ c) × (up l n c ≡ 0)
  -- a row names the one row whose child it is by the counts
  pub child_names : (p c : ℕ) → Child l p c → parent_of l c ≡ p
  pub names_child : (c : ℕ) → 0 < c → c < length l → Child l (parent_of l c) c
  -- so a chain of rows to a row, as 5/14 lists it, is the way up from there
  pub chains : (p i : ℕ) (rest : List ℕ) → Chain l p rest i → NamesUp l p rest
  -- child counts from parents: a row has as many children as name it, the root's own name aside
  pub counts : (p : ℕ) → children (row l p) ≡ naming p (drop 1 l)
  -- parents from child counts: the parent is the last row before it whose subtree holds it
  pub parents : (c : ℕ) → c < length l → parent_of l c ≡ holder l c c

-- for every accepted call
abbrev pub Parents : Type 0
Parents =
    (n setting : ℕ) (bytes tokens : List ℕ) (b : Buffers) → (call n setting bytes tokens b).answer.number ≡ 0
    → Upwards (tree_rows (call n setting bytes tokens b))
