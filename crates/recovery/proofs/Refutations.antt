-- Wrong answers are refused by `StaysLocal`: for each thing that two files share a pair of rows that do not share it.
-- A promise that lets one of them pass under the same name is refused by this file.
use mathlib.Core.Path.{◌≡◌, refl, ap}
use Prim.Native.Nat.{ℕ, zero, suc}
use native.Mathlib.Omega.{arith}
use mathlib.Core.Bool.{Bool}
use mathlib.Core.List.{List, [], ◌∷◌}
use mathlib.Core.Logic.{◌⊎◌, inl, inr}
use lib.ListN.{length, get_or}
use Rattle.definitions.specs.Token.{one_of}
use Rattle.definitions.specs.Call.{call}
use Rattle.rows.specs.ResultRows.{Row, tree_rows, error_rows, report_rows, leaf, none as none_inside, over_leaves, label_start, label_end, parent}
use Rattle.recovery.specs.Recovery.{File, result, is_statement, Semicolon, token_index, start_byte, those, later_error, later_report, Shared, Moved, Pairwise, none, more, ParentMoved, root, row, TreeMoved, ErrorMoved, LabelMoved, no_label, label, ReportMoved}
use Rattle.recovery.proofs.Witnesses.{lent, first}

-- ---------------------------------------------------------------- which statements

count_to : (ℕ → Bool) → ℕ → List Bool → List Bool
count_to f zero l = l
count_to f (suc n) l = count_to f n (f n ∷ l)

-- of the node kinds 0 to 24 these three: DtsDirective, DtNode, DtProperty
three_kinds : count_to is_statement 25 [] ≡ count_to (one_of (11 ∷ 15 ∷ 16 ∷ [])) 25 []
unfolding is_statement one_of count_to
three_kinds = refl

-- ---------------------------------------------------------------- lists

-- as many on both sides: a report lost, and one too many
as_many : {R : Row → Row → Type 0} {l m : List Row} → Pairwise R l m → length l ≡ length m
as_many none = refl
as_many (more r e) = ap suc (as_many e)

lost : {R : Row → Row → Type 0} {x : Row} {l : List Row} → Pairwise R (x ∷ l) [] → ⊥
lost e = let n = as_many e in omega arith

invented : {R : Row → Row → Type 0} {y : Row} {m : List Row} → Pairwise R [] (y ∷ m) → ⊥
invented e = let n = as_many e in omega arith

-- and each to each
first_of : {R : Row → Row → Type 0} {x y : Row} {l m : List Row} → Pairwise R (x ∷ l) (y ∷ m) → R x y
first_of (more r e) = r

rest_of : {R : Row → Row → Type 0} {x y : Row} {l m : List Row} → Pairwise R (x ∷ l) (y ∷ m) → Pairwise R l m
rest_of (more r e) = e

-- ---------------------------------------------------------------- tree rows

-- all that can be said of two parents: both the root, or neither, and moved
abbrev TwoParents : ℕ → ℕ → ℕ → ℕ → Type 0
TwoParents a b p q = ((p ≡ 0) × (q ≡ 0)) ⊎ ((p ≡ 0 → ⊥) × (q ≡ 0 → ⊥) × Moved a b p q)

two_parents : {a b : ℕ} {x y : Row} → ParentMoved a b x y → TwoParents a b (parent x) (parent y)
two_parents (root p q) = inl (p, q)
two_parents (row p q m) = inr (p, q, m)

-- a leaf under a row
abbrev under : ℕ → Row
under p = 1 ∷ 38 ∷ 1 ∷ 1 ∷ p ∷ []

-- under row 8, where the semicolon of one file is row 6 and that of the other row 9
abbrev RowIs : Row → Type 0
RowIs = TreeMoved 6 9 (under 8)

right_row : RowIs (under 11)
right_row = record { same_class = refl; same_kind = refl; same_width = refl; same_count = refl; parent_moves = row (λ e. omega (arith, e)) (λ e. omega (arith, e)) refl }

another_class : RowIs (0 ∷ 38 ∷ 1 ∷ 1 ∷ 11 ∷ []) → ⊥
another_class r = omega (arith, r.same_class)

another_kind : RowIs (1 ∷ 37 ∷ 1 ∷ 1 ∷ 11 ∷ []) → ⊥
another_kind r = omega (arith, r.same_kind)

another_width : RowIs (1 ∷ 38 ∷ 2 ∷ 1 ∷ 11 ∷ []) → ⊥
another_width r = omega (arith, r.same_width)

another_count : RowIs (1 ∷ 38 ∷ 1 ∷ 2 ∷ 11 ∷ []) → ⊥
another_count r = omega (arith, r.same_count)

-- not where it was, not moved the other way, and not the root
parent_stays : RowIs (under 8) → ⊥
parent_stays r = go (two_parents r.parent_moves) where
  go : TwoParents 6 9 8 8 → ⊥
  go (inl z) = omega arith
  go (inr m) = omega arith

parent_backwards : RowIs (under 5) → ⊥
parent_backwards r = go (two_parents r.parent_moves) where
  go : TwoParents 6 9 8 5 → ⊥
  go (inl z) = omega arith
  go (inr m) = omega arith

parent_lost : RowIs (under 0) → ⊥
parent_lost r = go (two_parents r.parent_moves) where
  go : TwoParents 6 9 8 0 → ⊥
  go (inl z) = omega arith
  go (inr m) = m.1 refl

-- "a parent which is the root stays 0"
root_moved : TreeMoved 6 9 (under 0) (under 3) → ⊥
root_moved r = go (two_parents r.parent_moves) where
  go : TwoParents 6 9 0 3 → ⊥
  go (inl z) = omega arith
  go (inr m) = m.0 refl

-- ---------------------------------------------------------------- lexical errors

-- 74 at 16..17, where the semicolon of one file stands at byte 14 and that of the other at 9
abbrev ErrorIs : Row → Type 0
ErrorIs = ErrorMoved 14 9 (74 ∷ 16 ∷ 17 ∷ [])

right_error : ErrorIs (74 ∷ 11 ∷ 12 ∷ [])
right_error = record { same_number = refl; start_moves = refl; end_moves = refl }

another_number : ErrorIs (73 ∷ 11 ∷ 12 ∷ []) → ⊥
another_number e = omega (arith, e.same_number)

start_stays : ErrorIs (74 ∷ 16 ∷ 12 ∷ []) → ⊥
start_stays e = omega (arith, e.start_moves)

end_stays : ErrorIs (74 ∷ 11 ∷ 17 ∷ []) → ⊥
end_stays e = omega (arith, e.end_moves)

-- ---------------------------------------------------------------- labels

-- all that can be said of two labels: both absent, or the first is there and both its ends are moved
abbrev TwoLabels : ℕ → ℕ → Row → Row → Type 0
TwoLabels a b x y =
    ((label_start x ≡ 0) × (label_end x ≡ 0) × (label_start y ≡ 0) × (label_end y ≡ 0))
    ⊎ ((label_start x ≡ 0 → label_end x ≡ 0 → ⊥) × Moved a b (label_start x) (label_start y) × Moved a b (label_end x) (label_end y))

two_labels : {a b : ℕ} {x y : Row} → LabelMoved a b x y → TwoLabels a b x y
two_labels (no_label p q r s) = inl (p, q, r, s)
two_labels (label h p q) = inr (h, p, q)

-- a report with a label from s to e
abbrev labelled : ℕ → ℕ → Row
labelled s e = 7 ∷ 0 ∷ 0 ∷ 0 ∷ 0 ∷ 0 ∷ 0 ∷ s ∷ e ∷ []

-- 18..19 is 13..14 in the other file: not itself, not what the difference gives the wrong way round, not an end alone,
-- not absent
label_stays : LabelMoved 14 9 (labelled 18 19) (labelled 18 19) → ⊥
label_stays l = go (two_labels l) where
  go : TwoLabels 14 9 (labelled 18 19) (labelled 18 19) → ⊥
  go (inl z) = omega arith
  go (inr m) = omega arith

label_backwards : LabelMoved 14 9 (labelled 18 19) (labelled 23 24) → ⊥
label_backwards l = go (two_labels l) where
  go : TwoLabels 14 9 (labelled 18 19) (labelled 23 24) → ⊥
  go (inl z) = omega arith
  go (inr m) = omega arith

label_end_stays : LabelMoved 14 9 (labelled 18 19) (labelled 13 19) → ⊥
label_end_stays l = go (two_labels l) where
  go : TwoLabels 14 9 (labelled 18 19) (labelled 13 19) → ⊥
  go (inl z) = omega arith
  go (inr m) = omega arith

label_lost : LabelMoved 14 9 (labelled 18 19) (labelled 0 0) → ⊥
label_lost l = go (two_labels l) where
  go : TwoLabels 14 9 (labelled 18 19) (labelled 0 0) → ⊥
  go (inl z) = omega arith
  go (inr m) = omega arith

-- an absent label does not move
label_invented : LabelMoved 9 14 (labelled 0 0) (labelled 5 5) → ⊥
label_invented l = go (two_labels l) where
  go : TwoLabels 9 14 (labelled 0 0) (labelled 5 5) → ⊥
  go (inl z) = omega arith
  go (inr m) = m.0 refl refl

-- ---------------------------------------------------------------- reports

-- a report of one expectation, as it must be in another file; each other row differs from the right one in one number
abbrev ReportIs : Row → Type 0
ReportIs =
    ReportMoved (record { byte = 14; index = 3; pool_place = 1 }) (record { byte = 9; index = 5; pool_place = 2 }) (35 ∷ 29 ∷ []) (2 ∷ 29 ∷ 29 ∷ 30 ∷ [])
    (1 ∷ 21 ∷ 22 ∷ 11 ∷ 1 ∷ 1 ∷ 0 ∷ 0 ∷ 0 ∷ [])

right_report : ReportIs (1 ∷ 16 ∷ 17 ∷ 13 ∷ 2 ∷ 1 ∷ 0 ∷ 0 ∷ 0 ∷ [])
right_report =
    record { same_message = refl; start_moves = refl; end_moves = refl; mark_moves = refl; first_place_moves = refl; same_pool_count = refl; same_hint = refl; label_moves = no_label refl refl refl refl; same_expected = refl }

another_message : ReportIs (2 ∷ 16 ∷ 17 ∷ 13 ∷ 2 ∷ 1 ∷ 0 ∷ 0 ∷ 0 ∷ []) → ⊥
another_message r = omega (arith, r.same_message)

report_start_stays : ReportIs (1 ∷ 21 ∷ 17 ∷ 13 ∷ 2 ∷ 1 ∷ 0 ∷ 0 ∷ 0 ∷ []) → ⊥
report_start_stays r = omega (arith, r.start_moves)

report_end_stays : ReportIs (1 ∷ 16 ∷ 22 ∷ 13 ∷ 2 ∷ 1 ∷ 0 ∷ 0 ∷ 0 ∷ []) → ⊥
report_end_stays r = omega (arith, r.end_moves)

mark_stays : ReportIs (1 ∷ 16 ∷ 17 ∷ 11 ∷ 2 ∷ 1 ∷ 0 ∷ 0 ∷ 0 ∷ []) → ⊥
mark_stays r = omega (arith, r.mark_moves)

-- (the pool has the same expectation there)
first_place_stays : ReportIs (1 ∷ 16 ∷ 17 ∷ 13 ∷ 1 ∷ 1 ∷ 0 ∷ 0 ∷ 0 ∷ []) → ⊥
first_place_stays r = omega (arith, r.first_place_moves)

another_pool_count : ReportIs (1 ∷ 16 ∷ 17 ∷ 13 ∷ 2 ∷ 2 ∷ 0 ∷ 0 ∷ 0 ∷ []) → ⊥
another_pool_count r = omega (arith, r.same_pool_count)

another_hint : ReportIs (1 ∷ 16 ∷ 17 ∷ 13 ∷ 2 ∷ 1 ∷ 1 ∷ 0 ∷ 0 ∷ []) → ⊥
another_hint r = omega (arith, r.same_hint)

another_label : ReportIs (1 ∷ 16 ∷ 17 ∷ 13 ∷ 2 ∷ 1 ∷ 0 ∷ 16 ∷ 17 ∷ []) → ⊥
another_label r = go (two_labels r.label_moves) where
  go : TwoLabels 14 9 (labelled 0 0) (labelled 16 17) → ⊥
  go (inl z) = omega arith
  go (inr m) = m.0 refl refl

-- the right row, where the pool has another expectation at its place
another_expectation : ReportMoved (record { byte = 14; index = 3; pool_place = 1 }) (record { byte = 9; index = 5; pool_place = 2 }) (35 ∷ 29 ∷ []) (2 ∷ 29 ∷ 30 ∷ []) (1 ∷ 21 ∷ 22 ∷ 11 ∷ 1 ∷ 1 ∷ 0 ∷ 0 ∷ 0 ∷ []) (1 ∷ 16 ∷ 17 ∷ 13 ∷ 2 ∷ 1 ∷ 0 ∷ 0 ∷ 0 ∷ []) → ⊥
another_expectation r = let n : ◌≡◌ {A = ℕ} 29 30 = ap (λ (l : List ℕ). get_or l 0 0) r.same_expected in omega arith

-- ---------------------------------------------------------------- reports of the strict setting

-- message 8 at 4..6, as it must be in another file
abbrev NameIs : Row → Type 0
NameIs =
    ReportMoved (record { byte = 3; index = 3; pool_place = 0 }) (record { byte = 11; index = 7; pool_place = 2 }) (2 ∷ 29 ∷ []) (2 ∷ 29 ∷ 2 ∷ 29 ∷ [])
    (8 ∷ 4 ∷ 6 ∷ 4 ∷ 2 ∷ 0 ∷ 0 ∷ 0 ∷ 0 ∷ [])

right_name : NameIs (8 ∷ 12 ∷ 14 ∷ 8 ∷ 4 ∷ 0 ∷ 0 ∷ 0 ∷ 0 ∷ [])
right_name =
    record { same_message = refl; start_moves = refl; end_moves = refl; mark_moves = refl; first_place_moves = refl; same_pool_count = refl; same_hint = refl; label_moves = no_label refl refl refl refl; same_expected = refl }

name_stays : NameIs (8 ∷ 4 ∷ 6 ∷ 4 ∷ 4 ∷ 0 ∷ 0 ∷ 0 ∷ 0 ∷ []) → ⊥
name_stays r = omega (arith, r.start_moves)

-- not the end of the Name, where the parser's own marks would be
mark_past_the_name : NameIs (8 ∷ 12 ∷ 14 ∷ 9 ∷ 4 ∷ 0 ∷ 0 ∷ 0 ∷ 0 ∷ []) → ⊥
mark_past_the_name r = omega (arith, r.mark_moves)

-- not the expectations before its place in the file, but all of them
expectations_up_to_it : NameIs (8 ∷ 12 ∷ 14 ∷ 8 ∷ 2 ∷ 0 ∷ 0 ∷ 0 ∷ 0 ∷ []) → ⊥
expectations_up_to_it r = omega (arith, r.first_place_moves)

-- by position, from the end of the list, the second file's report on a Name before the semicolon is compared too
-- (Examples, `not_at_the_end`)
by_position :
    Pairwise (ReportMoved (record { byte = 3; index = 3; pool_place = 0 }) (record { byte = 11; index = 7; pool_place = 2 }) (2 ∷ 29 ∷ []) (2 ∷ 29 ∷ 2 ∷ 29 ∷ []))
    ((1 ∷ 14 ∷ 15 ∷ 12 ∷ 0 ∷ 2 ∷ 0 ∷ 0 ∷ 0 ∷ []) ∷ (8 ∷ 4 ∷ 6 ∷ 4 ∷ 2 ∷ 0 ∷ 0 ∷ 0 ∷ 0 ∷ []) ∷ [])
    ((8 ∷ 0 ∷ 2 ∷ 0 ∷ 4 ∷ 0 ∷ 0 ∷ 0 ∷ 0 ∷ []) ∷ (8 ∷ 12 ∷ 14 ∷ 8 ∷ 4 ∷ 0 ∷ 0 ∷ 0 ∷ 0 ∷ []) ∷ [])
    → ⊥
by_position e = omega (arith, (first_of e).same_message)

-- ---------------------------------------------------------------- whole files

-- `a;` with some token of one byte after it; each pair of files here differs in that token alone
abbrev with_last : ℕ → ℕ → File
with_last b k = record { setting = 0; bytes = 97 ∷ 59 ∷ b ∷ []; tokens = 27 ∷ 1 ∷ 29 ∷ 1 ∷ k ∷ 1 ∷ []; buffers = lent 60 }

abbrev its_semicolon : (f : File) (later : List Row) → tree_rows (result f) ≡ (0 ∷ 0 ∷ 3 ∷ 2 ∷ 0 ∷ []) ∷ (0 ∷ 16 ∷ 2 ∷ 2 ∷ 0 ∷ []) ∷ (1 ∷ 26 ∷ 1 ∷ 1 ∷ 1 ∷ []) ∷ (1 ∷ 29 ∷ 1 ∷ 1 ∷ 1 ∷ []) ∷ later → Semicolon (tree_rows (result f))
unfolding is_statement
its_semicolon f later e = first (0 ∷ 0 ∷ 3 ∷ 2 ∷ 0 ∷ []) (0 ∷ 16 ∷ 2 ∷ 2 ∷ 0 ∷ []) ((1 ∷ 26 ∷ 1 ∷ 1 ∷ 1 ∷ []) ∷ []) later 1 e refl refl (leaf refl none_inside) refl

abbrev in_error : List Row → List Row
in_error l = (0 ∷ 10 ∷ 1 ∷ 1 ∷ 0 ∷ []) ∷ l

brace : Semicolon (tree_rows (result (with_last 125 38)))
unfolding tree_rows call
brace = its_semicolon (with_last 125 38) (in_error ((1 ∷ 38 ∷ 1 ∷ 1 ∷ 4 ∷ []) ∷ [])) refl

bracket : Semicolon (tree_rows (result (with_last 41 42)))
unfolding tree_rows call
bracket = its_semicolon (with_last 41 42) (in_error ((1 ∷ 42 ∷ 1 ∷ 1 ∷ 4 ∷ []) ∷ [])) refl

blank : Semicolon (tree_rows (result (with_last 32 0)))
unfolding tree_rows call
blank = its_semicolon (with_last 32 0) ((1 ∷ 0 ∷ 1 ∷ 1 ∷ 0 ∷ []) ∷ []) refl

error_74 : Semicolon (tree_rows (result (with_last 96 74)))
unfolding tree_rows call
error_74 = its_semicolon (with_last 96 74) (in_error ((1 ∷ 25 ∷ 1 ∷ 1 ∷ 4 ∷ []) ∷ [])) refl

error_73 : Semicolon (tree_rows (result (with_last 96 73)))
unfolding tree_rows call
error_73 = its_semicolon (with_last 96 73) (in_error ((1 ∷ 25 ∷ 1 ∷ 1 ∷ 4 ∷ []) ∷ [])) refl

-- `}` and `)` are other parts
other_parts : Shared (with_last 125 38) (with_last 41 42) brace bracket → ⊥
unfolding its_semicolon brace bracket
other_parts s = omega (arith, (first_of (rest_of s.parts)).same_kind)

-- two errors of the lexer are two lexical errors, though the parts are the same
other_errors : Shared (with_last 96 74) (with_last 96 73) error_74 error_73 → ⊥
unfolding its_semicolon error_74 error_73 those later_error start_byte over_leaves error_rows call
other_errors s = omega (arith, (first_of s.errors).same_number)

-- the brace is reported, and a blank is not
other_reports : Shared (with_last 125 38) (with_last 32 0) brace blank → ⊥
unfolding its_semicolon brace blank those later_report token_index over_leaves report_rows call
other_reports s = lost s.reports

-- `a;` and a labelled node, `?a:b{};` with some byte as the label's first
abbrev with_label : ℕ → ℕ → File
with_label s b =
    record { setting = s; bytes = 97 ∷ 59 ∷ b ∷ 97 ∷ 58 ∷ 98 ∷ 123 ∷ 125 ∷ 59 ∷ []; tokens = 27 ∷ 1 ∷ 29 ∷ 1 ∷ 27 ∷ 2 ∷ 31 ∷ 1 ∷ 27 ∷ 1 ∷ 37 ∷ 1 ∷ 38 ∷ 1 ∷ 29 ∷ 1 ∷ []; buffers = lent 80 }

abbrev its_node : List Row
its_node = (0 ∷ 15 ∷ 7 ∷ 5 ∷ 0 ∷ []) ∷ (0 ∷ 19 ∷ 3 ∷ 2 ∷ 4 ∷ []) ∷ (1 ∷ 26 ∷ 2 ∷ 1 ∷ 5 ∷ []) ∷ (1 ∷ 31 ∷ 1 ∷ 1 ∷ 5 ∷ []) ∷ (1 ∷ 26 ∷ 1 ∷ 1 ∷ 4 ∷ []) ∷ (1 ∷ 37 ∷ 1 ∷ 1 ∷ 4 ∷ []) ∷ (1 ∷ 38 ∷ 1 ∷ 1 ∷ 4 ∷ []) ∷ (1 ∷ 29 ∷ 1 ∷ 1 ∷ 4 ∷ []) ∷ []

abbrev before_label : (f : File) → tree_rows (result f) ≡ (0 ∷ 0 ∷ 9 ∷ 2 ∷ 0 ∷ []) ∷ (0 ∷ 16 ∷ 2 ∷ 2 ∷ 0 ∷ []) ∷ (1 ∷ 26 ∷ 1 ∷ 1 ∷ 1 ∷ []) ∷ (1 ∷ 29 ∷ 1 ∷ 1 ∷ 1 ∷ []) ∷ its_node → Semicolon (tree_rows (result f))
unfolding is_statement
before_label f e = first (0 ∷ 0 ∷ 9 ∷ 2 ∷ 0 ∷ []) (0 ∷ 16 ∷ 2 ∷ 2 ∷ 0 ∷ []) ((1 ∷ 26 ∷ 1 ∷ 1 ∷ 1 ∷ []) ∷ []) its_node 1 e refl refl (leaf refl none_inside) refl

strict_1a : Semicolon (tree_rows (result (with_label 1 49)))
unfolding tree_rows call
strict_1a = before_label (with_label 1 49) refl

strict_aa : Semicolon (tree_rows (result (with_label 1 97)))
unfolding tree_rows call
strict_aa = before_label (with_label 1 97) refl

old_1a : Semicolon (tree_rows (result (with_label 0 49)))
unfolding tree_rows call
old_1a = before_label (with_label 0 49) refl

-- `1a` is reported and `aa` is not, though tokens and parts are the same
other_bytes : Shared (with_label 1 49) (with_label 1 97) strict_1a strict_aa → ⊥
unfolding before_label strict_1a strict_aa those later_report token_index over_leaves report_rows call
other_bytes s = lost s.reports

-- nor do a strict call and an old one share their reports
other_setting : (Shared (with_label 1 49) (with_label 0 49) strict_1a old_1a → ⊥) × (Shared (with_label 0 49) (with_label 1 49) old_1a strict_1a → ⊥)
unfolding before_label strict_1a old_1a those later_report token_index over_leaves report_rows call
other_setting = (λ s. lost s.reports, λ s. invented s.reports)
