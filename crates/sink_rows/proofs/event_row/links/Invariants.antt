-- `links`: those still to count and those counted are all.
use Prim.Native.Nat.{◌+◌, ◌-◌, ◌/◌, ◌≤◌}
use mathlib.Core.Path.{◌≡◌}
use lib.ListN.{length}
use Rattle.definitions.specs.Layout.{EVENT_ROW}
use Rattle.sink_rows.specs.Rows.{links, linksN}
use Rattle.sink_rows.proofs.event_row.links.Given as goal

abbrev pub invariant-loop-next : goal.invariant-loop-next
invariant-loop-next l = record {
  all : linksN (length l.events / EVENT_ROW - l.n) l.events l.j + l.n ≡ links l.events l.i;
  passed : l.n ≤ l.j;
  few : l.n ≤ length l.events / EVENT_ROW;
}

abbrev pub decreases-loop-next : goal.decreases-loop-next
decreases-loop-next l = length l.events / EVENT_ROW - l.j
