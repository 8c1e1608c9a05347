-- `next_judged`: from this row on is found what is found from the first.
use Rattle.std.proofs.Common.{◌≡◌, ◌-◌, ◌*◌, ◌/◌, ◌≤◌, drop}
use Rattle.definitions.specs.Layout.{EVENT_ROW}
use Rattle.labels.specs.Model.{shown, next_judged}
use Rattle.labels.proofs.scan.next_judged.Given as goal

abbrev pub invariant-loop-i : goal.invariant-loop-i
invariant-loop-i l =
    record {
      same :
          next_judged (drop (l.i / EVENT_ROW) (shown l.events)) (l.i / EVENT_ROW) l.behind
          ≡ next_judged (drop l.from (shown l.events)) l.from 0;
      whole : l.i ≡ l.i / EVENT_ROW * EVENT_ROW;
      further : l.from ≤ l.i / EVENT_ROW;
    }

abbrev pub decreases-loop-i : goal.decreases-loop-i
decreases-loop-i l = l.end - l.i
