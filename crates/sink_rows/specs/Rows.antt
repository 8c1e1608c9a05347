-- What the code does over the numbers of event rows and tree rows, whatever they are. Each definition is the model of
-- the function whose contract cites it.
use Rattle.std.specs.Prelude.{ℕ, zero, suc, ◌+◌, ◌*◌, ◌/◌, cond, List, [], length, get_or, ltb, eqb}
use Rattle.basics.specs.Word.{low}
use Rattle.definitions.specs.Layout.{TREE_ROW, TREE_WIDTH, TREE_COUNT, NODE, EVENT_ROW, EVENT_TAG, EVENT_ARGUMENT, EVENT_DISTANCE, LINKED_START_NODE}
use Rattle.layout.specs.Rows as Layout
use Rattle.definitions.specs.Parent.{tree_row}

-- ---------------------------------------------------------------- tree rows

-- a row's numbers in their place; nothing where they do not fit
abbrev pub put : ℕ → List ℕ → List ℕ → List ℕ
put row r trees = Layout.put_row TREE_ROW (row * TREE_ROW) r trees

-- a number of a row; 0 where the row does not fit
abbrev pub tree_field : ℕ → ℕ → List ℕ → ℕ
tree_field row j trees = Layout.field TREE_ROW trees row j

-- the numbers of an open row that those of the finished row replace: its first byte, and how many children its parent
-- had before it
abbrev pub FIRST_BYTE : ℕ
FIRST_BYTE = TREE_WIDTH

abbrev pub CHILDREN_BEFORE : ℕ
CHILDREN_BEFORE = TREE_COUNT

-- ---------------------------------------------------------------- event rows

abbrev pub field : List ℕ → ℕ → ℕ → ℕ
field events j k = Layout.field EVENT_ROW events j k

unfoldable pub link : List ℕ → ℕ → ℕ
link events j =
    let d = get_or events (j * EVENT_ROW + EVENT_DISTANCE) 0 in
    cond (ltb j (length events / EVENT_ROW)) (cond (eqb (field events (j + d) EVENT_TAG) LINKED_START_NODE) d 0) 0

-- at most n links
unfoldable pub linksN : ℕ → List ℕ → ℕ → ℕ
unfolding link
linksN zero events j = 0
linksN (suc n) events j = let r = linksN n events (j + link events j) + 1 in cond (ltb 0 (link events j)) r 0

unfoldable pub links : List ℕ → ℕ → ℕ
unfolding linksN
links events j = linksN (length events / EVENT_ROW) events j

-- the open rows of a chain of n links, the innermost written first
unfoldable pub open_rows : ℕ → List ℕ → ℕ → ℕ → ℕ → ℕ → ℕ → List ℕ → List ℕ
unfolding link
open_rows zero events j first byte parent children trees =
    put first (tree_row NODE (field events j EVENT_ARGUMENT) byte children parent []) trees
open_rows (suc n) events j first byte parent children trees =
    let up = low (first + n) in
    open_rows n events (j + link events j) first byte parent children
    (put (low (up + 1)) (tree_row NODE (field events j EVENT_ARGUMENT) byte 0 up []) trees)
