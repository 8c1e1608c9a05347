-- The third promise: recovery stays local. Two accepted source files that are alike after a semicolon, where it ends a
-- top-level property, node or directive in both, have the same parts, lexical errors and reports after it; only places
-- are moved. Document 02, 1/14: "Demand 3 compares two calls in the same setting; in strict setting two files with the
-- same tail also share these reports, shifted." 7/14: "Rows after a shared semicolon now agree once row numbers are
-- moved too, except that a parent which is the root stays 0."
use Rattle.std.specs.Prelude.{◌≡◌, ℕ, suc, ◌+◌, Bool, true, cond, not, List, [], ◌∷◌, ◌++◌, ltb, eqb, length, take, drop}
use Rattle.definitions.specs.Layout.{NODE, LEAF, OLD_SETTING}
use Rattle.definitions.specs.TokenKind as K
use Rattle.definitions.specs.NodeKind as N
use Rattle.definitions.specs.Token.{tokens_of, one_of}
use Rattle.definitions.specs.Call.{Buffers, Result, call}
use Rattle.rows.specs.ResultRows.{Row, tree_rows, error_rows, report_rows, expectations, class, kind, width, count, parent, number, start, end, message, mark, first_place, pool_count, hint, label_start, label_end, Subtrees, raw_tokens, raw_bytes}

-- ---------------------------------------------------------------- two files

-- what a call of entry 1 is given: setting, input bytes, token numbers, lent buffers
pub record File : Type 0 where
  pub setting : ℕ
  pub bytes : List ℕ
  pub tokens : List ℕ
  pub buffers : Buffers

abbrev pub result : File → Result
result f = call 1 f.setting f.bytes f.tokens f.buffers

-- document 01: an accepted source file is a call of entry 1 that returns number 0
abbrev pub Accepted : File → Type 0
Accepted f = (result f).answer.number ≡ 0

-- document 02: 0 is the old setting, and any other number the strict one, so that two of those are the same setting
abbrev pub SameSetting : File → File → Type 0
SameSetting f g = eqb f.setting OLD_SETTING ≡ eqb g.setting OLD_SETTING

-- ---------------------------------------------------------------- the semicolon

-- the kinds of part that the promise speaks of
unfoldable pub is_statement : ℕ → Bool
unfolding one_of
is_statement = one_of (N.DtProperty ∷ N.DtNode ∷ N.DtsDirective ∷ [])

-- A semicolon in tree rows that is the own last leaf of a top-level property, node or directive.
-- document 01: a top-level part is a child of the root; a part's own last leaf is a direct child of it and its last.
-- before: the rows of the root's children before the part. inside: those of the part's children before the semicolon.
-- later: document 01's later parts, the root's children after the part, with every tree row under them. All rows that
-- follow are theirs.
pub record Semicolon (l : List Row) : Type 0 where
  pub root : Row
  pub before : List Row
  pub part : Row
  pub inside : List Row
  pub leaf : Row
  pub later : List Row
  pub is : l ≡ root ∷ (before ++ (part ∷ (inside ++ (leaf ∷ later))))
  pub parts_before : ℕ
  pub before_whole : Subtrees parts_before before
  pub part_node : class part ≡ NODE
  pub part_kind : is_statement (kind part) ≡ true
  pub children_inside : ℕ
  pub inside_whole : Subtrees children_inside inside
  pub leaf_last : count part ≡ suc children_inside
  pub leaf_leaf : class leaf ≡ LEAF
  pub leaf_kind : kind leaf ≡ K.Semicolon

-- its token index: as many raw tokens stand before it
unfoldable pub token_index : {l : List Row} → Semicolon l → ℕ
token_index s = raw_tokens s.before + raw_tokens s.inside

-- the byte that it starts at
unfoldable pub start_byte : {l : List Row} → Semicolon l → ℕ
start_byte s = raw_bytes s.before + raw_bytes s.inside

-- its row number: as many rows stand before it, the root's and the part's among them
unfoldable pub row_number : {l : List Row} → Semicolon l → ℕ
row_number s = suc (length s.before) + suc (length s.inside)

-- document 01: tokens and bytes after two semicolons are alike (a semicolon is one byte long)
pub record Alike (f g : File) (a : Semicolon (tree_rows (result f))) (b : Semicolon (tree_rows (result g))) : Type 0 where
  pub same_tokens : drop (suc (token_index a)) (tokens_of f.tokens) ≡ drop (suc (token_index b)) (tokens_of g.tokens)
  pub same_bytes : drop (suc (start_byte a)) f.bytes ≡ drop (suc (start_byte b)) g.bytes

-- ---------------------------------------------------------------- what is later

unfoldable pub those : (Row → Bool) → List Row → List Row
those f [] = []
those f (r ∷ l) = let m = those f l in cond (f r) (r ∷ m) m

-- document 01: the later lexical errors are those of the tokens after the semicolon, so those that start after it
unfoldable pub later_error : ℕ → Row → Bool
later_error p r = ltb p (start r)

-- document 01: the later reports are those whose mark is greater than the semicolon's token index. In the strict
-- setting they need not stand together: those on Names follow all others, so marks may fall once.
unfoldable pub later_report : ℕ → Row → Bool
later_report i r = ltb i (mark r)

unfoldable pub pool_counts : List Row → ℕ
pool_counts [] = 0
pool_counts (r ∷ l) = pool_count r + pool_counts l

-- the sum of pool counts over the reports that are not later
unfoldable pub pool_before : ℕ → List Row → ℕ
unfolding those later_report pool_counts
pool_before i l = pool_counts (those (λ r. not (later_report i r)) l)

-- ---------------------------------------------------------------- what is moved

-- y is x, moved by the difference of b less a
abbrev pub Moved : ℕ → ℕ → ℕ → ℕ → Type 0
Moved a b x y = x + b ≡ y + a

-- as many, in the same order, and each to each
pub data Pairwise (R : Row → Row → Type 0) : List Row → List Row → Type 0 where
  none : Pairwise R [] []
  more : {x y : Row} {l m : List Row} → R x y → Pairwise R l m → Pairwise R (x ∷ l) (y ∷ m)

-- "once row numbers are moved too, except that a parent which is the root stays 0"
pub data ParentMoved (a b : ℕ) (x y : Row) : Type 0 where
  root : parent x ≡ 0 → parent y ≡ 0 → ParentMoved a b x y
  row : (parent x ≡ 0 → ⊥) → (parent y ≡ 0 → ⊥) → Moved a b (parent x) (parent y) → ParentMoved a b x y

-- a tree row, with row numbers moved by b less a
pub record TreeMoved (a b : ℕ) (x y : Row) : Type 0 where
  pub same_class : class x ≡ class y
  pub same_kind : kind x ≡ kind y
  pub same_width : width x ≡ width y
  pub same_count : count x ≡ count y
  pub parent_moves : ParentMoved a b x y

-- a lexical error at bytes moved by b less a
pub record ErrorMoved (a b : ℕ) (x y : Row) : Type 0 where
  pub same_number : number x ≡ number y
  pub start_moves : Moved a b (start x) (start y)
  pub end_moves : Moved a b (end x) (end y)

-- a label moves unless it is 0, 0
pub data LabelMoved (a b : ℕ) (x y : Row) : Type 0 where
  no_label : label_start x ≡ 0 → label_end x ≡ 0 → label_start y ≡ 0 → label_end y ≡ 0 → LabelMoved a b x y
  label : (label_start x ≡ 0 → label_end x ≡ 0 → ⊥) → Moved a b (label_start x) (label_start y)
      → Moved a b (label_end x) (label_end y) → LabelMoved a b x y

-- Places in one file: a byte offset, a token index, a first pool place.
pub record Places : Type 0 where
  pub byte : ℕ
  pub index : ℕ
  pub pool_place : ℕ

-- the expectations of a report, in a pool
abbrev pub expectations_of : List ℕ → Row → List ℕ
expectations_of pool r = take (pool_count r) (drop (first_place r) pool)

-- p, q: the pools of the two files
pub record ReportMoved (a b : Places) (p q : List ℕ) (x y : Row) : Type 0 where
  pub same_message : message x ≡ message y
  pub start_moves : Moved a.byte b.byte (start x) (start y)
  pub end_moves : Moved a.byte b.byte (end x) (end y)
  pub mark_moves : Moved a.index b.index (mark x) (mark y)
  pub first_place_moves : Moved a.pool_place b.pool_place (first_place x) (first_place y)
  pub same_pool_count : pool_count x ≡ pool_count y
  pub same_hint : hint x ≡ hint y
  pub label_moves : LabelMoved a.byte b.byte x y
  pub same_expected : expectations_of p x ≡ expectations_of q y

-- ---------------------------------------------------------------- the promise

abbrev pub later_errors : (f : File) → Semicolon (tree_rows (result f)) → List Row
later_errors f s = those (later_error (start_byte s)) (error_rows (result f))

abbrev pub later_reports : (f : File) → Semicolon (tree_rows (result f)) → List Row
later_reports f s = those (later_report (token_index s)) (report_rows (result f))

-- the places that a difference is taken of: bytes, marks and first pool places move, each by the second file's place
-- less the first's
abbrev pub places : (f : File) → Semicolon (tree_rows (result f)) → Places
places f s = record { byte = start_byte s; index = token_index s; pool_place = pool_before (token_index s) (report_rows (result f)) }

-- later parts, later lexical errors and later reports
pub record Shared (f g : File) (a : Semicolon (tree_rows (result f))) (b : Semicolon (tree_rows (result g))) : Type 0 where
  pub parts : Pairwise (TreeMoved (row_number a) (row_number b)) a.later b.later
  pub errors : Pairwise (ErrorMoved (start_byte a) (start_byte b)) (later_errors f a) (later_errors g b)
  pub reports : Pairwise (ReportMoved (places f a) (places g b) (expectations (result f)) (expectations (result g)))
      (later_reports f a) (later_reports g b)

-- RECOVERY STAYS LOCAL, for all files in either setting, whatever buffers were lent
abbrev pub StaysLocal : Type 0
StaysLocal =
    (f g : File) → SameSetting f g → Accepted f → Accepted g
    → (a : Semicolon (tree_rows (result f))) (b : Semicolon (tree_rows (result g))) → Alike f g a b → Shared f g a b
