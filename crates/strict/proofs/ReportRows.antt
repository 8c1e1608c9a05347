-- The report rows of an accepted call: those of the run, which the old setting has too, and then those of Names. How
-- many they are, and where they stand.
use Prim.Native.Nat.{ℕ, ◌+◌, ◌*◌, ◌/◌}
use native.Mathlib.Nat.{div-eq_of_eq-mul_right}
use native.Mathlib.Omega.{arith}
use mathlib.Core.Path.{◌≡◌, refl, ap, ◌∙◌}
use mathlib.Core.List.{List, ◌++◌, append-nil}
use lib.Dec.{lit<}
use lib.ListN.{length, length-append}
use Rattle.definitions.specs.Layout.{REPORT_ROW}
use Rattle.definitions.specs.Token.{Token, byte_count}
use Rattle.definitions.specs.Grammar.{Entry}
use Rattle.definitions.specs.Skeleton.{Report}
use Rattle.definitions.specs.Report.{pushes, reports, report_numbers, pool}
use Rattle.definitions.specs.Strict.{reported_names, name_numbers}
use Rattle.definitions.specs.Call.{sheets, run_entry, names_of}
use Rattle.laws.proofs.ReportNumbers.{report_numbers_length, name_numbers_length}
use Rattle.laws.proofs.Accepted.{written_by}

-- what a run reports, and its rows
abbrev pub run_reports : Entry → List Token → List Report
run_reports e ts = reports (pushes (run_entry e ts))

abbrev pub run_rows : Entry → List Token → List ℕ
run_rows e ts = report_numbers (length ts) (byte_count ts) 0 (run_reports e ts)

pub run_rows_length : (e : Entry) (ts : List Token) → length (run_rows e ts) ≡ REPORT_ROW * length (run_reports e ts)
run_rows_length e ts = report_numbers_length (length ts) (byte_count ts) 0 (run_reports e ts)

-- and those of Names
abbrev pub name_rows : ℕ → Entry → List ℕ → List Token → List ℕ
name_rows s e bytes ts = name_numbers (length (pool (run_reports e ts))) (names_of s e bytes ts)

pub in_rows : (s : ℕ) (e : Entry) (bytes : List ℕ) (ts : List Token) → (written_by s e bytes ts).reports ≡ run_rows e ts ++ name_rows s e bytes ts
unfolding sheets
in_rows s e bytes ts = refl

-- the old setting has no others
pub old_rows : (e : Entry) (bytes : List ℕ) (ts : List Token) → (written_by 0 e bytes ts).reports ≡ run_rows e ts
unfolding sheets reported_names name_numbers
old_rows e bytes ts = append-nil (run_rows e ts)

-- how many rows a list of whole rows has
whole_rows : (l : List ℕ) (n : ℕ) → length l ≡ REPORT_ROW * n → length l / REPORT_ROW ≡ n
whole_rows l n e = div-eq_of_eq-mul_right (lit< tt) e

pub old_count : (e : Entry) (bytes : List ℕ) (ts : List Token) → length (written_by 0 e bytes ts).reports / REPORT_ROW ≡ length (run_reports e ts)
old_count e bytes ts = whole_rows (written_by 0 e bytes ts).reports (length (run_reports e ts)) (ap length (old_rows e bytes ts) ∙ run_rows_length e ts)

pub all_count : (s : ℕ) (e : Entry) (bytes : List ℕ) (ts : List Token)
    → length (written_by s e bytes ts).reports / REPORT_ROW ≡ length (run_reports e ts) + length (names_of s e bytes ts)
all_count s e bytes ts =
    whole_rows (written_by s e bytes ts).reports (length (run_reports e ts) + length (names_of s e bytes ts))
    (ap length (in_rows s e bytes ts) ∙ length-append (run_rows e ts) (name_rows s e bytes ts) ∙ sum)
  where
    sum : length (run_rows e ts) + length (name_rows s e bytes ts) ≡ REPORT_ROW * (length (run_reports e ts) + length (names_of s e bytes ts))
    sum = omega (arith, run_rows_length e ts, name_numbers_length (length (pool (run_reports e ts))) (names_of s e bytes ts))
