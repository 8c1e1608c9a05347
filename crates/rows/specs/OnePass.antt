-- The rows that a query lists, found in one pass over rows in preorder, without a stack: the bytes of the leaves that
-- were passed tell where a row starts. No part of any promise: proofs/ has that these are the lists of the definitions.
use Rattle.std.specs.Prelude.{ℕ, zero, suc, ◌+◌, ◌-◌, ◌≤◌, ◌<◌, ◌≡◌, cond, List, [], ◌∷◌, ltb, eqb, length, drop}
use Rattle.definitions.specs.Layout.{LEAF, TWO_TO_32}
use Rattle.definitions.specs.Caret.{Query, caret, range, share}
use Rattle.rows.specs.ResultRows.{Row, class, width, raw_bytes}

-- the bytes of a row that are its own: a leaf's
abbrev pub own : Row → ℕ
own r = cond (eqb (class r) LEAF) (width r) 0

-- the rows, of which the first has number i, that have the byte `left` bytes after their start; none after a leaf
unfoldable pub holding : ℕ → ℕ → List Row → List ℕ
holding i left [] = []
holding i left (r ∷ l) =
    let deeper = holding (suc i) left l in
    let later = holding (suc i) (left - own r) l in
    cond (ltb left (width r)) (i ∷ cond (eqb (class r) LEAF) [] deeper) later

-- the rows that start a part which shares a byte with a range. inside: how many bytes of the part that was started last
-- are still to pass; where none are, the next row starts a part at byte start. (A row of width 0 then starts none, and
-- shares no byte either.)
unfoldable pub starting : ℕ → ℕ → ℕ → ℕ → ℕ → List Row → List ℕ
starting from to i inside start [] = []
starting from to i zero start (r ∷ l) =
    let end = start + width r in
    let more = starting from to (suc i) (width r - own r) end l in
    cond (share from to start end) (i ∷ more) more
starting from to i (suc n) start (r ∷ l) = starting from to (suc i) (suc n - own r) start l

-- those of a query, of the rows of a file of so many bytes: at its length the byte before the end is the last leaf's
unfoldable pub found : Query → ℕ → List Row → List ℕ
unfolding holding starting
found (caret offset) size l =
    let there = holding 0 offset l in
    let last = holding 0 (size - 1) l in
    cond (ltb offset size) there (cond (eqb offset size) (cond (eqb size 0) (0 ∷ []) last) [])
found (range from to) size [] = []
found (range from to) size (r ∷ l) = starting from to 1 0 0 l

-- the rows of tree numbers, those that are whole
unfoldable pub tree_rows_of : List ℕ → List Row
tree_rows_of [] = []
tree_rows_of (c ∷ []) = []
tree_rows_of (c ∷ k ∷ []) = []
tree_rows_of (c ∷ k ∷ w ∷ []) = []
tree_rows_of (c ∷ k ∷ w ∷ n ∷ []) = []
tree_rows_of (c ∷ k ∷ w ∷ n ∷ p ∷ l) = (c ∷ k ∷ w ∷ n ∷ p ∷ []) ∷ tree_rows_of l

-- ---------------------------------------------------------------- what makes one pass sound

-- each row is a node's or a leaf's
unfoldable pub Classes : List Row → Type 0
Classes [] = Unit {0}
Classes (r ∷ l) = (class r ≤ LEAF) × Classes l

-- Parts add up: where bytes of a part are still to pass there is a row, none is wider than what is to pass, and no part
-- is wider than the room that is left.
unfoldable pub AddsUp : ℕ → ℕ → List Row → Type 0
AddsUp inside room [] = inside ≡ 0
AddsUp zero room (r ∷ l) = (width r ≤ room) × AddsUp (width r - own r) (room - width r) l
AddsUp (suc n) room (r ∷ l) = (width r ≤ suc n) × AddsUp (suc n - own r) room l

-- the rows of a file of so many bytes
pub record Sound (size : ℕ) (l : List Row) : Type 0 where
  pub classes : Classes l
  pub covered : size ≤ raw_bytes l
  pub under_root : size ≤ raw_bytes (drop 1 l)
  pub parts : AddsUp 0 size (drop 1 l)
  pub small : size < TWO_TO_32
  pub few : length l < TWO_TO_32
