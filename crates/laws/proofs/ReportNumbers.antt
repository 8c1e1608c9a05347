-- How many numbers the rows of some reports have, and those of some Names' reports.
use Prim.Native.Nat.{ℕ, suc, ◌+◌, ◌*◌}
use native.Mathlib.Omega.{arith}
use mathlib.Core.Path.{◌≡◌, refl}
use mathlib.Core.List.{List, [], ◌∷◌}
use lib.ListN.{length}
use Rattle.definitions.specs.Layout.{REPORT_ROW}
use Rattle.definitions.specs.Skeleton.{Label, no_label, label, Report}
use Rattle.definitions.specs.Report.{label_numbers, report_numbers}
use Rattle.definitions.specs.Strict.{NameAt, name_numbers}

label_length : (b : ℕ) (x : Label) (l : List ℕ) → length (label_numbers b x l) ≡ suc (suc (length l))
label_length b no_label l = refl
label_length b (label s) l = refl

pub report_numbers_length : (n b first : ℕ) (l : List Report) → length (report_numbers n b first l) ≡ REPORT_ROW * length l
unfolding report_numbers
report_numbers_length n b first [] = refl
report_numbers_length n b first (r ∷ l) =
    let h = report_numbers_length n b (first + length r.pool) l in
    let g = label_length b r.labelled (report_numbers n b (first + length r.pool) l) in
    omega arith

pub name_numbers_length : (first : ℕ) (l : List NameAt) → length (name_numbers first l) ≡ REPORT_ROW * length l
unfolding name_numbers
name_numbers_length first [] = refl
name_numbers_length first (x ∷ l) = omega (arith, name_numbers_length first l)
