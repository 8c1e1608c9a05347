-- The statement's definitions, computed: on document 01's reading of `a;}` and `b,c;}`, on a richer pair of files, and
-- on a pair in the strict setting.
use mathlib.Core.Path.{◌≡◌, refl}
use Prim.Native.Nat.{ℕ, suc, ◌+◌}
use native.Mathlib.Omega.{arith}
use mathlib.Core.List.{List, [], ◌∷◌}
use lib.Dec.{leb}
use lib.ListN.{length, replicate}
use Rattle.definitions.specs.Token.{tokens_of}
use Rattle.definitions.specs.Call.{Buffers, call}
use Rattle.rows.specs.ResultRows.{Row, mark, tree_rows, error_rows, report_rows, expectations, none, leaf, node, over_leaves}
use Rattle.recovery.specs.Recovery.{File, result, is_statement, Semicolon, token_index, start_byte, row_number, Alike, those, later_error, later_report, pool_before, later_errors, later_reports, Pairwise, none as no_more, more, no_label, label, root, row, TreeMoved, ErrorMoved, ReportMoved, places, Shared}
use Rattle.recovery.proofs.Local.{stays_local}
use Rattle.recovery.proofs.Witnesses.{first}

-- buffers of n numbers each, full of sevens
abbrev lent : ℕ → Buffers
lent n = let l : List ℕ = replicate n 7 in record { events = l; trees = l; errors = l; reports = l; pool = l }

-- ---------------------------------------------------------------- the reading

-- `a;}`
abbrev short : File
short = record { setting = 0; bytes = 97 ∷ 59 ∷ 125 ∷ []; tokens = 27 ∷ 1 ∷ 29 ∷ 1 ∷ 38 ∷ 1 ∷ []; buffers = lent 60 }

-- `b,c;}`
abbrev long : File
long = record { setting = 0; bytes = 98 ∷ 44 ∷ 99 ∷ 59 ∷ 125 ∷ []; tokens = 27 ∷ 1 ∷ 2 ∷ 1 ∷ 27 ∷ 1 ∷ 29 ∷ 1 ∷ 38 ∷ 1 ∷ []; buffers = lent 80 }

abbrev stray : ℕ → List Row
stray n = (0 ∷ 10 ∷ 1 ∷ 1 ∷ 0 ∷ []) ∷ (1 ∷ 38 ∷ 1 ∷ 1 ∷ n ∷ []) ∷ []

unfoldable in_short : Semicolon (tree_rows (result short))
unfolding tree_rows call is_statement
in_short =
    record {
      root = (0 ∷ 0 ∷ 3 ∷ 2 ∷ 0 ∷ []);
      before = [];
      part = (0 ∷ 16 ∷ 2 ∷ 2 ∷ 0 ∷ []);
      inside = (1 ∷ 26 ∷ 1 ∷ 1 ∷ 1 ∷ []) ∷ [];
      leaf = (1 ∷ 29 ∷ 1 ∷ 1 ∷ 1 ∷ []);
      later = stray 4;
      is = refl;
      parts_before = 0;
      before_whole = none;
      part_node = refl;
      part_kind = refl;
      children_inside = 1;
      inside_whole = leaf refl none;
      leaf_last = refl;
      leaf_leaf = refl;
      leaf_kind = refl;
    }

unfoldable in_long : Semicolon (tree_rows (result long))
unfolding tree_rows call is_statement
in_long =
    record {
      root = (0 ∷ 0 ∷ 5 ∷ 2 ∷ 0 ∷ []);
      before = [];
      part = (0 ∷ 16 ∷ 4 ∷ 2 ∷ 0 ∷ []);
      inside = (1 ∷ 26 ∷ 3 ∷ 3 ∷ 1 ∷ []) ∷ [];
      leaf = (1 ∷ 29 ∷ 1 ∷ 1 ∷ 1 ∷ []);
      later = stray 4;
      is = refl;
      parts_before = 0;
      before_whole = none;
      part_node = refl;
      part_kind = refl;
      children_inside = 1;
      inside_whole = leaf refl none;
      leaf_last = refl;
      leaf_leaf = refl;
      leaf_kind = refl;
    }

-- message 2, at 2..3 and 4..5
reading_reports_short : later_reports short in_short ≡ (2 ∷ 2 ∷ 3 ∷ 2 ∷ 0 ∷ 0 ∷ 0 ∷ 0 ∷ 0 ∷ []) ∷ []
unfolding those later_report token_index over_leaves report_rows call in_short
reading_reports_short = refl

reading_reports_long : later_reports long in_long ≡ (2 ∷ 4 ∷ 5 ∷ 4 ∷ 0 ∷ 0 ∷ 0 ∷ 0 ∷ 0 ∷ []) ∷ []
unfolding those later_report token_index over_leaves report_rows call in_long
reading_reports_long = refl

reading_alike : Alike short long in_short in_long
unfolding token_index start_byte over_leaves tokens_of in_short in_long
reading_alike = record { same_tokens = refl; same_bytes = refl }

-- ---------------------------------------------------------------- a richer pair

-- what both end with: " `/{y=;", with a lexical error, an open node and expectations
abbrev tail_bytes : List ℕ
tail_bytes = 32 ∷ 96 ∷ 47 ∷ 123 ∷ 121 ∷ 61 ∷ 59 ∷ []

abbrev tail_rows : List ℕ
tail_rows = 0 ∷ 1 ∷ 74 ∷ 1 ∷ 46 ∷ 1 ∷ 37 ∷ 1 ∷ 27 ∷ 1 ∷ 28 ∷ 1 ∷ 29 ∷ 1 ∷ []

-- "/memreserve/ 1;": a report at the mark of the semicolon itself
abbrev one : File
one =
    record {
      setting = 0;
      bytes = 47 ∷ 109 ∷ 101 ∷ 109 ∷ 114 ∷ 101 ∷ 115 ∷ 101 ∷ 114 ∷ 118 ∷ 101 ∷ 47 ∷ 32 ∷ 49 ∷ 59 ∷ tail_bytes;
      tokens = 20 ∷ 12 ∷ 0 ∷ 1 ∷ 35 ∷ 1 ∷ 29 ∷ 1 ∷ tail_rows;
      buffers = lent 200;
    }

-- "`b="s""t";": two reports, and a lexical error
abbrev two : File
two =
    record {
      setting = 0;
      bytes = 96 ∷ 98 ∷ 61 ∷ 34 ∷ 115 ∷ 34 ∷ 34 ∷ 116 ∷ 34 ∷ 59 ∷ tail_bytes;
      tokens = 74 ∷ 1 ∷ 27 ∷ 1 ∷ 28 ∷ 1 ∷ 33 ∷ 3 ∷ 33 ∷ 3 ∷ 29 ∷ 1 ∷ tail_rows;
      buffers = lent 220;
    }

abbrev rest : ℕ → List Row
rest n = (1 ∷ 0 ∷ 1 ∷ 1 ∷ 0 ∷ []) ∷ (0 ∷ 10 ∷ 1 ∷ 1 ∷ 0 ∷ []) ∷ (1 ∷ 25 ∷ 1 ∷ 1 ∷ (n + 1) ∷ []) ∷ (0 ∷ 15 ∷ 5 ∷ 3 ∷ 0 ∷ []) ∷ (1 ∷ 46 ∷ 1 ∷ 1 ∷ (n + 3) ∷ []) ∷ (1 ∷ 37 ∷ 1 ∷ 1 ∷ (n + 3) ∷ []) ∷ (0 ∷ 16 ∷ 3 ∷ 3 ∷ (n + 3) ∷ []) ∷ (1 ∷ 26 ∷ 1 ∷ 1 ∷ (n + 6) ∷ []) ∷ (1 ∷ 28 ∷ 1 ∷ 1 ∷ (n + 6) ∷ []) ∷ (0 ∷ 20 ∷ 1 ∷ 1 ∷ (n + 6) ∷ []) ∷ (0 ∷ 10 ∷ 1 ∷ 1 ∷ (n + 9) ∷ []) ∷ (1 ∷ 29 ∷ 1 ∷ 1 ∷ (n + 10) ∷ []) ∷ []

unfoldable in_one : Semicolon (tree_rows (result one))
unfolding tree_rows call is_statement
in_one =
    record {
      root = (0 ∷ 0 ∷ 22 ∷ 4 ∷ 0 ∷ []);
      before = [];
      part = (0 ∷ 11 ∷ 15 ∷ 4 ∷ 0 ∷ []);
      inside = (1 ∷ 20 ∷ 12 ∷ 1 ∷ 1 ∷ []) ∷ (1 ∷ 0 ∷ 1 ∷ 1 ∷ 1 ∷ []) ∷ (0 ∷ 12 ∷ 1 ∷ 1 ∷ 1 ∷ []) ∷ (1 ∷ 35 ∷ 1 ∷ 1 ∷ 4 ∷ []) ∷ [];
      leaf = (1 ∷ 29 ∷ 1 ∷ 1 ∷ 1 ∷ []);
      later = rest 7;
      is = refl;
      parts_before = 0;
      before_whole = none;
      part_node = refl;
      part_kind = refl;
      children_inside = 3;
      inside_whole = leaf refl (leaf refl (node refl (leaf refl none) none));
      leaf_last = refl;
      leaf_leaf = refl;
      leaf_kind = refl;
    }

unfoldable in_two : Semicolon (tree_rows (result two))
unfolding tree_rows call is_statement
in_two =
    record {
      root = (0 ∷ 0 ∷ 17 ∷ 5 ∷ 0 ∷ []);
      before = (0 ∷ 10 ∷ 1 ∷ 1 ∷ 0 ∷ []) ∷ (1 ∷ 25 ∷ 1 ∷ 1 ∷ 1 ∷ []) ∷ [];
      part = (0 ∷ 16 ∷ 9 ∷ 4 ∷ 0 ∷ []);
      inside = (1 ∷ 26 ∷ 1 ∷ 1 ∷ 3 ∷ []) ∷ (1 ∷ 28 ∷ 1 ∷ 1 ∷ 3 ∷ []) ∷ (0 ∷ 20 ∷ 6 ∷ 2 ∷ 3 ∷ []) ∷ (1 ∷ 33 ∷ 3 ∷ 1 ∷ 6 ∷ []) ∷ (1 ∷ 33 ∷ 3 ∷ 1 ∷ 6 ∷ []) ∷ [];
      leaf = (1 ∷ 29 ∷ 1 ∷ 1 ∷ 3 ∷ []);
      later = rest 10;
      is = refl;
      parts_before = 1;
      before_whole = node refl (leaf refl none) none;
      part_node = refl;
      part_kind = refl;
      children_inside = 3;
      inside_whole = leaf refl (leaf refl (node refl (leaf refl (leaf refl none)) none));
      leaf_last = refl;
      leaf_leaf = refl;
      leaf_kind = refl;
    }

places_found :
    ((token_index in_one ≡ 3) × (start_byte in_one ≡ 14) × (row_number in_one ≡ 6))
    × (token_index in_two ≡ 5) × (start_byte in_two ≡ 9) × (row_number in_two ≡ 9)
unfolding token_index start_byte row_number over_leaves in_one in_two
places_found = ((refl, refl, refl), refl, refl, refl)

alike : Alike one two in_one in_two
unfolding token_index start_byte over_leaves tokens_of in_one in_two
alike = record { same_tokens = refl; same_bytes = refl }

abbrev errors_one : List Row
errors_one = (74 ∷ 16 ∷ 17 ∷ []) ∷ []

abbrev errors_two : List Row
errors_two = (74 ∷ 11 ∷ 12 ∷ []) ∷ []

abbrev reports_one : List Row
reports_one =
    (1 ∷ 16 ∷ 17 ∷ 4 ∷ 1 ∷ 11 ∷ 0 ∷ 0 ∷ 0 ∷ []) ∷ (1 ∷ 21 ∷ 22 ∷ 10 ∷ 12 ∷ 3 ∷ 0 ∷ 0 ∷ 0 ∷ [])
    ∷ (1 ∷ 21 ∷ 22 ∷ 11 ∷ 15 ∷ 1 ∷ 0 ∷ 0 ∷ 0 ∷ []) ∷ (7 ∷ 21 ∷ 22 ∷ 11 ∷ 16 ∷ 0 ∷ 0 ∷ 18 ∷ 19 ∷ []) ∷ []

abbrev reports_two : List Row
reports_two =
    (1 ∷ 11 ∷ 12 ∷ 6 ∷ 13 ∷ 11 ∷ 0 ∷ 0 ∷ 0 ∷ []) ∷ (1 ∷ 16 ∷ 17 ∷ 12 ∷ 24 ∷ 3 ∷ 0 ∷ 0 ∷ 0 ∷ [])
    ∷ (1 ∷ 16 ∷ 17 ∷ 13 ∷ 27 ∷ 1 ∷ 0 ∷ 0 ∷ 0 ∷ []) ∷ (7 ∷ 16 ∷ 17 ∷ 13 ∷ 28 ∷ 0 ∷ 0 ∷ 13 ∷ 14 ∷ []) ∷ []

abbrev pool_one : List ℕ
pool_one = 35 ∷ 18 ∷ 26 ∷ 30 ∷ 46 ∷ 23 ∷ 24 ∷ 19 ∷ 20 ∷ 21 ∷ 22 ∷ 101 ∷ 103 ∷ 19 ∷ 101 ∷ 29 ∷ []

abbrev pool_two : List ℕ
pool_two = 18 ∷ 26 ∷ 30 ∷ 46 ∷ 23 ∷ 24 ∷ 19 ∷ 20 ∷ 21 ∷ 22 ∷ 101 ∷ 2 ∷ 29 ∷ 18 ∷ 26 ∷ 30 ∷ 46 ∷ 23 ∷ 24 ∷ 19 ∷ 20 ∷ 21 ∷ 22 ∷ 101 ∷ 103 ∷ 19 ∷ 101 ∷ 29 ∷ []

later_in_one : (later_errors one in_one ≡ errors_one) × (later_reports one in_one ≡ reports_one) × (expectations (result one) ≡ pool_one) × (places one in_one ≡ record { byte = 14; index = 3; pool_place = 1 })
unfolding those later_error later_report pool_before token_index start_byte over_leaves error_rows report_rows expectations call in_one
later_in_one = (refl, refl, refl, refl)

later_in_two : (later_errors two in_two ≡ errors_two) × (later_reports two in_two ≡ reports_two) × (expectations (result two) ≡ pool_two) × (places two in_two ≡ record { byte = 9; index = 5; pool_place = 13 })
unfolding those later_error later_report pool_before token_index start_byte over_leaves error_rows report_rows expectations call in_two
later_in_two = (refl, refl, refl, refl)

-- the same rows from number 7 on and from 10 on, row by row: a parent moves by 3, and the root stays
top : (c k w n : ℕ) → TreeMoved 6 9 (c ∷ k ∷ w ∷ n ∷ 0 ∷ []) (c ∷ k ∷ w ∷ n ∷ 0 ∷ [])
top c k w n = record { same_class = refl; same_kind = refl; same_width = refl; same_count = refl; parent_moves = root refl refl }

below : (c k w n p : ℕ) → TreeMoved 6 9 (c ∷ k ∷ w ∷ n ∷ suc p ∷ []) (c ∷ k ∷ w ∷ n ∷ (suc p + 3) ∷ [])
below c k w n p =
    record { same_class = refl; same_kind = refl; same_width = refl; same_count = refl; parent_moves = row (λ e. omega (arith, e)) (λ e. omega (arith, e)) (omega arith) }

rows_moved : Pairwise (TreeMoved 6 9) in_one.later in_two.later
unfolding in_one in_two
rows_moved =
    more (top 1 0 1 1)
    (more (top 0 10 1 1)
    (more (below 1 25 1 1 7)
    (more (top 0 15 5 3)
    (more (below 1 46 1 1 9)
    (more (below 1 37 1 1 9)
    (more (below 0 16 3 3 9)
    (more (below 1 26 1 1 12)
    (more (below 1 28 1 1 12)
    (more (below 0 20 1 1 12)
    (more (below 0 10 1 1 15)
    (more (below 1 29 1 1 16) no_more)))))))))))

-- these lists are what the promise says, number by number
errors_moved : Pairwise (ErrorMoved 14 9) errors_one errors_two
errors_moved = more (record { same_number = refl; start_moves = refl; end_moves = refl }) no_more

-- the open node's `{` is at 18..19 in one, at 13..14 in the other
eighteen : ◌≡◌ {A = ℕ} 18 0 → ⊥
eighteen e = omega arith

reports_moved : Pairwise (ReportMoved (record { byte = 14; index = 3; pool_place = 1 }) (record { byte = 9; index = 5; pool_place = 13 }) pool_one pool_two) reports_one reports_two
reports_moved =
    more (record { same_message = refl; start_moves = refl; end_moves = refl; mark_moves = refl; first_place_moves = refl; same_pool_count = refl; same_hint = refl; label_moves = no_label refl refl refl refl; same_expected = refl })
    (more (record { same_message = refl; start_moves = refl; end_moves = refl; mark_moves = refl; first_place_moves = refl; same_pool_count = refl; same_hint = refl; label_moves = no_label refl refl refl refl; same_expected = refl })
    (more (record { same_message = refl; start_moves = refl; end_moves = refl; mark_moves = refl; first_place_moves = refl; same_pool_count = refl; same_hint = refl; label_moves = no_label refl refl refl refl; same_expected = refl })
    (more (record { same_message = refl; start_moves = refl; end_moves = refl; mark_moves = refl; first_place_moves = refl; same_pool_count = refl; same_hint = refl; label_moves = label (λ e _. eighteen e) refl refl; same_expected = refl }) no_more)))

-- and so says the theorem
shared : Shared one two in_one in_two
unfolding call
shared = stays_local one two refl refl refl in_one in_two alike

-- ---------------------------------------------------------------- what is not promised

-- By "at least" in place of "greater", the first file would have a later report more: the one that is made when the
-- semicolon comes too soon.
not_at_least : (length (those (λ r. leb (token_index in_one) (mark r)) (report_rows (result one))) ≡ 5) × (length (those (λ r. leb (token_index in_two) (mark r)) (report_rows (result two))) ≡ 4)
unfolding those token_index over_leaves report_rows call in_one in_two
not_at_least = (refl, refl)

-- Pending expectations do not end with a statement that lacks its semicolon: after `/{}` the missing one is reported,
-- and after `a;` nothing is.
abbrev unfinished : File
unfinished = record { setting = 0; bytes = 47 ∷ 123 ∷ 125 ∷ 98 ∷ 59 ∷ []; tokens = 46 ∷ 1 ∷ 37 ∷ 1 ∷ 38 ∷ 1 ∷ 27 ∷ 1 ∷ 29 ∷ 1 ∷ []; buffers = lent 100 }

abbrev finished : File
finished = record { setting = 0; bytes = 97 ∷ 59 ∷ 98 ∷ 59 ∷ []; tokens = 27 ∷ 1 ∷ 29 ∷ 1 ∷ 27 ∷ 1 ∷ 29 ∷ 1 ∷ []; buffers = lent 100 }

not_without : (report_rows (result unfinished) ≡ (1 ∷ 3 ∷ 4 ∷ 3 ∷ 0 ∷ 1 ∷ 0 ∷ 0 ∷ 0 ∷ []) ∷ []) × (report_rows (result finished) ≡ [])
unfolding report_rows call
not_without = (refl, refl)

-- ---------------------------------------------------------------- the strict setting

-- what both end with, `1a:b{c="s""t";};`: a label that starts with a digit, and after it a report with expectations
abbrev strict_bytes : List ℕ
strict_bytes = 49 ∷ 97 ∷ 58 ∷ 98 ∷ 123 ∷ 99 ∷ 61 ∷ 34 ∷ 115 ∷ 34 ∷ 34 ∷ 116 ∷ 34 ∷ 59 ∷ 125 ∷ 59 ∷ []

abbrev strict_rows : List ℕ
strict_rows = 35 ∷ 1 ∷ 27 ∷ 1 ∷ 31 ∷ 1 ∷ 27 ∷ 1 ∷ 37 ∷ 1 ∷ 27 ∷ 1 ∷ 28 ∷ 1 ∷ 33 ∷ 3 ∷ 33 ∷ 3 ∷ 29 ∷ 1 ∷ 38 ∷ 1 ∷ 29 ∷ 1 ∷ []

-- `/{};`
abbrev plain : File
plain = record { setting = 1; bytes = 47 ∷ 123 ∷ 125 ∷ 59 ∷ strict_bytes; tokens = 46 ∷ 1 ∷ 37 ∷ 1 ∷ 38 ∷ 1 ∷ 29 ∷ 1 ∷ strict_rows; buffers = lent 160 }

-- `2c:x="s""t";`, with such a label and such a report of its own; another number for the same setting
abbrev mistaken : File
mistaken =
    record {
      setting = 2;
      bytes = 50 ∷ 99 ∷ 58 ∷ 120 ∷ 61 ∷ 34 ∷ 115 ∷ 34 ∷ 34 ∷ 116 ∷ 34 ∷ 59 ∷ strict_bytes;
      tokens = 35 ∷ 1 ∷ 27 ∷ 1 ∷ 31 ∷ 1 ∷ 27 ∷ 1 ∷ 28 ∷ 1 ∷ 33 ∷ 3 ∷ 33 ∷ 3 ∷ 29 ∷ 1 ∷ strict_rows;
      buffers = lent 200;
    }

abbrev labelled_node : ℕ → List Row
labelled_node n = (0 ∷ 15 ∷ 16 ∷ 6 ∷ 0 ∷ []) ∷ (0 ∷ 19 ∷ 3 ∷ 2 ∷ n ∷ []) ∷ (1 ∷ 26 ∷ 2 ∷ 2 ∷ (n + 1) ∷ []) ∷ (1 ∷ 31 ∷ 1 ∷ 1 ∷ (n + 1) ∷ []) ∷ (1 ∷ 26 ∷ 1 ∷ 1 ∷ n ∷ []) ∷ (1 ∷ 37 ∷ 1 ∷ 1 ∷ n ∷ []) ∷ (0 ∷ 16 ∷ 9 ∷ 4 ∷ n ∷ []) ∷ (1 ∷ 26 ∷ 1 ∷ 1 ∷ (n + 6) ∷ []) ∷ (1 ∷ 28 ∷ 1 ∷ 1 ∷ (n + 6) ∷ []) ∷ (0 ∷ 20 ∷ 6 ∷ 2 ∷ (n + 6) ∷ []) ∷ (1 ∷ 33 ∷ 3 ∷ 1 ∷ (n + 9) ∷ []) ∷ (1 ∷ 33 ∷ 3 ∷ 1 ∷ (n + 9) ∷ []) ∷ (1 ∷ 29 ∷ 1 ∷ 1 ∷ (n + 6) ∷ []) ∷ (1 ∷ 38 ∷ 1 ∷ 1 ∷ n ∷ []) ∷ (1 ∷ 29 ∷ 1 ∷ 1 ∷ n ∷ []) ∷ []

unfoldable in_plain : Semicolon (tree_rows (result plain))
unfolding tree_rows call is_statement
in_plain = first (0 ∷ 0 ∷ 20 ∷ 2 ∷ 0 ∷ []) (0 ∷ 15 ∷ 4 ∷ 4 ∷ 0 ∷ []) ((1 ∷ 46 ∷ 1 ∷ 1 ∷ 1 ∷ []) ∷ (1 ∷ 37 ∷ 1 ∷ 1 ∷ 1 ∷ []) ∷ (1 ∷ 38 ∷ 1 ∷ 1 ∷ 1 ∷ []) ∷ []) (labelled_node 6) 3 refl refl refl (leaf refl (leaf refl (leaf refl none))) refl

unfoldable in_mistaken : Semicolon (tree_rows (result mistaken))
unfolding tree_rows call is_statement
in_mistaken = first (0 ∷ 0 ∷ 28 ∷ 2 ∷ 0 ∷ []) (0 ∷ 16 ∷ 12 ∷ 5 ∷ 0 ∷ []) ((0 ∷ 19 ∷ 3 ∷ 2 ∷ 1 ∷ []) ∷ (1 ∷ 26 ∷ 2 ∷ 2 ∷ 2 ∷ []) ∷ (1 ∷ 31 ∷ 1 ∷ 1 ∷ 2 ∷ []) ∷ (1 ∷ 26 ∷ 1 ∷ 1 ∷ 1 ∷ []) ∷ (1 ∷ 28 ∷ 1 ∷ 1 ∷ 1 ∷ []) ∷ (0 ∷ 20 ∷ 6 ∷ 2 ∷ 1 ∷ []) ∷ (1 ∷ 33 ∷ 3 ∷ 1 ∷ 7 ∷ []) ∷ (1 ∷ 33 ∷ 3 ∷ 1 ∷ 7 ∷ []) ∷ []) (labelled_node 11) 4 refl refl refl (node refl (leaf refl (leaf refl none)) (leaf refl (leaf refl (node refl (leaf refl (leaf refl none)) none)))) refl

strict_alike : Alike plain mistaken in_plain in_mistaken
unfolding token_index start_byte over_leaves tokens_of in_plain in_mistaken
strict_alike = record { same_tokens = refl; same_bytes = refl }

-- the missing comma, and then `1a` at 4..6 and 12..14: marks fall once
abbrev reports_plain : List Row
reports_plain = (1 ∷ 14 ∷ 15 ∷ 12 ∷ 0 ∷ 2 ∷ 0 ∷ 0 ∷ 0 ∷ []) ∷ (8 ∷ 4 ∷ 6 ∷ 4 ∷ 2 ∷ 0 ∷ 0 ∷ 0 ∷ 0 ∷ []) ∷ []

abbrev reports_mistaken : List Row
reports_mistaken = (1 ∷ 22 ∷ 23 ∷ 16 ∷ 2 ∷ 2 ∷ 0 ∷ 0 ∷ 0 ∷ []) ∷ (8 ∷ 12 ∷ 14 ∷ 8 ∷ 4 ∷ 0 ∷ 0 ∷ 0 ∷ 0 ∷ []) ∷ []

later_in_plain : (later_reports plain in_plain ≡ reports_plain) × (expectations (result plain) ≡ 2 ∷ 29 ∷ []) × (places plain in_plain ≡ record { byte = 3; index = 3; pool_place = 0 })
unfolding those later_report pool_before token_index start_byte over_leaves report_rows expectations call in_plain
later_in_plain = (refl, refl, refl)

later_in_mistaken : (later_reports mistaken in_mistaken ≡ reports_mistaken) × (expectations (result mistaken) ≡ 2 ∷ 29 ∷ 2 ∷ 29 ∷ []) × (places mistaken in_mistaken ≡ record { byte = 11; index = 7; pool_place = 2 })
unfolding those later_report pool_before token_index start_byte over_leaves report_rows expectations call in_mistaken
later_in_mistaken = (refl, refl, refl)

strict_moved : Pairwise (ReportMoved (record { byte = 3; index = 3; pool_place = 0 }) (record { byte = 11; index = 7; pool_place = 2 }) (2 ∷ 29 ∷ []) (2 ∷ 29 ∷ 2 ∷ 29 ∷ [])) reports_plain reports_mistaken
strict_moved =
    more (record { same_message = refl; start_moves = refl; end_moves = refl; mark_moves = refl; first_place_moves = refl; same_pool_count = refl; same_hint = refl; label_moves = no_label refl refl refl refl; same_expected = refl })
    (more (record { same_message = refl; start_moves = refl; end_moves = refl; mark_moves = refl; first_place_moves = refl; same_pool_count = refl; same_hint = refl; label_moves = no_label refl refl refl refl; same_expected = refl }) no_more)

strict_shared : Shared plain mistaken in_plain in_mistaken
unfolding call
strict_shared = stays_local plain mistaken refl refl refl in_plain in_mistaken strict_alike

-- The later reports are not the end of the list: `2c` is reported between the two.
not_at_the_end : report_rows (result mistaken) ≡ (1 ∷ 8 ∷ 9 ∷ 6 ∷ 0 ∷ 2 ∷ 0 ∷ 0 ∷ 0 ∷ []) ∷ (1 ∷ 22 ∷ 23 ∷ 16 ∷ 2 ∷ 2 ∷ 0 ∷ 0 ∷ 0 ∷ []) ∷ (8 ∷ 0 ∷ 2 ∷ 0 ∷ 4 ∷ 0 ∷ 0 ∷ 0 ∷ 0 ∷ []) ∷ (8 ∷ 12 ∷ 14 ∷ 8 ∷ 4 ∷ 0 ∷ 0 ∷ 0 ∷ 0 ∷ []) ∷ []
unfolding report_rows call
not_at_the_end = refl
