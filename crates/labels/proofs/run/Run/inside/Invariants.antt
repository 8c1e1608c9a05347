-- `inside`: the events from here on do to this walk what all of them do to the first.
use Rattle.std.proofs.Common.{◌≡◌, ◌≤◌, length, drop}
use Rattle.definitions.specs.Token.{tokens_of}
use Rattle.labels.specs.Model.{on, shown, walk_at, inside_on}
use Rattle.labels.proofs.run.Run.inside.Given as goal

abbrev pub invariant-loop-i : goal.invariant-loop-i
invariant-loop-i l =
    record {
      walked :
          inside_on l.self.bytes.now (tokens_of l.self.tokens.now) l.self.first (drop l.i (shown l.self.events.now)) (on l.walk l.reports)
          ≡ inside_on l.self.bytes.now (tokens_of l.self.tokens.now) l.self.first (drop l.fn.from (shown l.self.events.now)) (on (walk_at l.fn.seat l.fn.names) l.initial.reports);
      kept : length l.reports ≡ length l.initial.reports;
      shallow : l.walk.depth ≤ l.i;
    }
