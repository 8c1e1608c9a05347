use Rattle.std.proofs.Common.{◌≡◌, ◌≤◌, ◌-◌, map}
use Rattle.definitions.specs.RowCauses.{check_rows}
use Rattle.input.specs.Checks.{token_of}
use Rattle.input.proofs.RowChecks.{from_row}
use Rattle.input.proofs.causes.check_rows.Given as goal

abbrev pub invariant-loop-i : goal.invariant-loop-i
invariant-loop-i l = record {
  inside : l.left ≤ l.size;
  as_all : check_rows l.i (l.size - l.left) l.size (from_row l.rows l.i) ≡ check_rows 0 0 l.size (map token_of l.rows);
}
