-- What each of the four counted functions costs, and that the grammar's programs keep to it: computed.
-- tools/proofs/cost_table.py finds the numbers.
use Prim.Native.Nat.{ℕ, ◌+◌}
use mathlib.Core.Path.{◌≡◌, refl}
use mathlib.Core.Bool.{true, false}
use Rattle.definitions.specs.Prog.{Rule, item, propvalues, eat_cell, expr_binding_power}
use Rattle.definitions.specs.Grammar.{grammar, Entry, SourceFile, ReferenceNoamp, PropValues, Cells, whole}
use Rattle.bounds.proofs.Row.{Row}
use Rattle.bounds.proofs.Cost.{Price, Bill, bill, keeps, ends}

-- what is counted
pub data Count : Type 0 where
  events reports nodes : Count

-- an event: a token, a name, either end of a marker, a report. A node: a marker, completed or ignored.
abbrev pub price : Count → Price
price events = record { leaf = 1; marker = 2; report = 1; credit = 13; base = 100 }
price reports = record { leaf = 0; marker = 0; report = 1; credit = 3; base = 100 }
price nodes = record { leaf = 0; marker = 1; report = 0; credit = 5; base = 100 }

-- no: still, there, took; yes: still, took; again: took. The other entries are 0.
abbrev pub row : ℕ → ℕ → ℕ → ℕ → ℕ → ℕ → Row
row a b c d e f =
    record {
      no_still = a;
      no_there = b;
      no_took = c;
      yes_still = d;
      yes_there = 0;
      yes_took = e;
      also_still = 0;
      also_there = 0;
      also_took = 0;
      again_still = 0;
      again_there = 0;
      again_took = f;
    }

-- entered with nothing known, and with a token there
abbrev pub costs : Row → Row → Bill
costs c w = record { ok = true; cold = c; warm = w }

unfoldable pub table : Count → Rule → Bill
table events item = costs (row 100 0 0 103 98 0) (row 0 100 0 0 98 0)
table events (propvalues s) = costs (row 100 0 94 100 95 95) (row 0 100 94 0 95 95)
table events (eat_cell b) = costs (row 100 100 0 0 94 0) (row 0 100 0 0 94 0)
table events (expr_binding_power m) = costs (row 103 103 96 0 97 82) (row 0 103 96 0 97 82)
table reports item = costs (row 100 0 0 101 100 0) (row 0 100 0 0 100 0)
table reports (propvalues s) = costs (row 100 0 99 100 100 100) (row 0 100 99 0 100 100)
table reports (eat_cell b) = costs (row 100 100 0 0 99 0) (row 0 100 0 0 99 0)
table reports (expr_binding_power m) = costs (row 101 101 99 0 98 93) (row 0 101 99 0 98 93)
table nodes item = costs (row 100 0 0 101 99 0) (row 0 100 0 0 99 0)
table nodes (propvalues s) = costs (row 100 0 97 100 97 97) (row 0 100 97 0 97 97)
table nodes (eat_cell b) = costs (row 100 100 0 0 97 0) (row 0 100 0 0 97 0)
table nodes (expr_binding_power m) = costs (row 101 101 98 0 99 93) (row 0 101 98 0 99 93)

-- the programs keep to the table
pub kept : (c : Count) (r : Rule) → keeps (price c) (bill (price c) (table c) (grammar r)) (table c r) ≡ true
unfolding bill table grammar
kept events item = refl
kept events (propvalues true) = refl
kept events (propvalues false) = refl
kept events (eat_cell b) = refl
kept events (expr_binding_power m) = refl
kept reports item = refl
kept reports (propvalues true) = refl
kept reports (propvalues false) = refl
kept reports (eat_cell b) = refl
kept reports (expr_binding_power m) = refl
kept nodes item = refl
kept nodes (propvalues true) = refl
kept nodes (propvalues false) = refl
kept nodes (eat_cell b) = refl
kept nodes (expr_binding_power m) = refl

-- what an entry costs beyond what its tokens bring: the report on an empty file
abbrev pub extra : Count → ℕ
extra events = 1
extra reports = 1
extra nodes = 0

pub ended : (c : Count) (e : Entry) → ends ((price c).base + extra c) (bill (price c) (table c) (whole e)) ≡ true
unfolding bill table whole
ended events SourceFile = refl
ended events ReferenceNoamp = refl
ended events PropValues = refl
ended events Cells = refl
ended reports SourceFile = refl
ended reports ReferenceNoamp = refl
ended reports PropValues = refl
ended reports Cells = refl
ended nodes SourceFile = refl
ended nodes ReferenceNoamp = refl
ended nodes PropValues = refl
ended nodes Cells = refl
