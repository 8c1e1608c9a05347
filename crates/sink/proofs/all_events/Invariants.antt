-- `all_events`: the events from here on are run as all are.
use Prim.Native.Nat.{◌-◌, ◌/◌}
use mathlib.Core.Path.{◌≡◌}
use lib.ListN.{length}
use Rattle.definitions.specs.Layout.{EVENT_ROW}
use Rattle.sink.specs.Model.{on, eventsN}
use Rattle.sink.proofs.all_events.Given as goal

abbrev pub invariant-loop-i : goal.invariant-loop-i
invariant-loop-i l =
    eventsN (length l.events / EVENT_ROW - l.i) l.tokens l.events l.i (on l.sink l.trees)
    ≡ eventsN (length l.events / EVENT_ROW) l.tokens l.events 0 (on l.initial.sink l.initial.trees)
