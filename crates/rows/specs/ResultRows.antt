-- What an accepted call wrote, row by row, and how the parts of a tree are found in its rows.
use Rattle.std.specs.Prelude.{◌≡◌, ℕ, zero, suc, ◌+◌, cond, List, [], ◌∷◌, ◌++◌, eqb, take, drop, get_or}
use Rattle.definitions.specs.Layout.{TREE_ROW, TREE_KIND, TREE_WIDTH, TREE_COUNT, TREE_PARENT, NODE, LEAF, ERROR_ROW}
use Rattle.definitions.specs.Layout.{REPORT_ROW, REPORT_START, REPORT_END, REPORT_MARK, REPORT_POOL_FIRST, REPORT_POOL_COUNT, REPORT_HINT}
use Rattle.definitions.specs.Layout.{REPORT_LABEL_START, REPORT_LABEL_END}
use Rattle.definitions.specs.Call.{Result}

-- a row, as a list of its numbers
abbrev pub Row : Type 0
Row = List ℕ

-- so many rows of w numbers each, from the front of a buffer
unfoldable pub cut_rows : ℕ → ℕ → List ℕ → List Row
cut_rows zero w l = []
cut_rows (suc n) w l = take w l ∷ cut_rows n w (drop w l)

-- ---------------------------------------------------------------- what a call wrote, by the counts in its answer

unfoldable pub tree_rows : Result → List Row
unfolding cut_rows
tree_rows r = cut_rows r.answer.tree_count TREE_ROW r.buffers.trees

unfoldable pub error_rows : Result → List Row
unfolding cut_rows
error_rows r = cut_rows r.answer.error_count ERROR_ROW r.buffers.errors

unfoldable pub report_rows : Result → List Row
unfolding cut_rows
report_rows r = cut_rows r.answer.report_count REPORT_ROW r.buffers.reports

unfoldable pub expectations : Result → List ℕ
expectations r = take r.answer.expectation_count r.buffers.pool

-- ---------------------------------------------------------------- the numbers of a row, by name

-- a tree row: class, kind, width, count (children of a node, raw tokens of a leaf), the parent's row
abbrev pub class : Row → ℕ
class r = get_or r 0 0

abbrev pub kind : Row → ℕ
kind r = get_or r TREE_KIND 0

abbrev pub width : Row → ℕ
width r = get_or r TREE_WIDTH 0

abbrev pub count : Row → ℕ
count r = get_or r TREE_COUNT 0

abbrev pub parent : Row → ℕ
parent r = get_or r TREE_PARENT 0

-- a lexical error: number, start, end
abbrev pub number : Row → ℕ
number r = get_or r 0 0

-- start and end stand in the same columns of an error row and of a report row (ERROR-START, ERROR-END)
abbrev pub start : Row → ℕ
start r = get_or r REPORT_START 0

abbrev pub end : Row → ℕ
end r = get_or r REPORT_END 0

-- a report: message, start, end, mark, first pool place, pool count, hint, label start, label end
abbrev pub message : Row → ℕ
message r = get_or r 0 0

abbrev pub mark : Row → ℕ
mark r = get_or r REPORT_MARK 0

abbrev pub first_place : Row → ℕ
first_place r = get_or r REPORT_POOL_FIRST 0

abbrev pub pool_count : Row → ℕ
pool_count r = get_or r REPORT_POOL_COUNT 0

abbrev pub hint : Row → ℕ
hint r = get_or r REPORT_HINT 0

abbrev pub label_start : Row → ℕ
label_start r = get_or r REPORT_LABEL_START 0

abbrev pub label_end : Row → ℕ
label_end r = get_or r REPORT_LABEL_END 0

-- ---------------------------------------------------------------- parts in tree rows

-- so many parts side by side, in preorder: a leaf is a row, a node its row and then the rows of its children
pub data Subtrees : ℕ → List Row → Type 0 where
  none : Subtrees 0 []
  leaf : {n : ℕ} {r : Row} {l : List Row} → class r ≡ LEAF → Subtrees n l → Subtrees (suc n) (r ∷ l)
  node : {n : ℕ} {r : Row} {c l : List Row} → class r ≡ NODE → Subtrees (count r) c → Subtrees n l → Subtrees (suc n) (r ∷ (c ++ l))

-- what the leaves among some rows add up to
unfoldable pub over_leaves : (Row → ℕ) → List Row → ℕ
over_leaves f [] = 0
over_leaves f (r ∷ l) = cond (eqb (class r) LEAF) (f r) 0 + over_leaves f l

-- the raw tokens of some rows, and their bytes
abbrev pub raw_tokens : List Row → ℕ
unfolding over_leaves
raw_tokens = over_leaves count

abbrev pub raw_bytes : List Row → ℕ
unfolding over_leaves
raw_bytes = over_leaves width
