-- `all_events`: the events from here on are run as all are.
use Rattle.std.proofs.Common.{◌/◌, length, arith}
use Rattle.definitions.specs.Layout.{EVENT_ROW}
use Rattle.sink.proofs.Loops.{events_more}
use Rattle.sink.proofs.all_events.Goals as goal

pub loop-i-preserved : goal.loop-i-preserved
loop-i-preserved c = rw (c.one_event.ensures, events_more (length c.args.events.now / EVENT_ROW) _ _ c.loop-i.i _ (omega arith)) c.loop-i.invariant
