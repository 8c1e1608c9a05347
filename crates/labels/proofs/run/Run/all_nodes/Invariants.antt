-- `all_nodes`: the events from here on are judged as all are.
use Rattle.std.proofs.Common.{◌≡◌, ◌-◌, ◌/◌, ◌≤◌, Ok, length, drop}
use Rattle.definitions.specs.Layout.{EVENT_ROW}
use Rattle.definitions.specs.Token.{tokens_of}
use Rattle.labels.specs.Model.{out, shown, nodes_on, seat}
use Rattle.labels.proofs.run.Run.all_nodes.Given as goal

abbrev pub invariant-loop-found : goal.invariant-loop-found
invariant-loop-found l =
    record {
      judged :
          nodes_on l.self.bytes.now (tokens_of l.self.tokens.now) l.self.first (drop l.from (shown l.self.events.now)) 0 l.seat (out (Ok l.written) l.reports)
          ≡ nodes_on l.self.bytes.now (tokens_of l.self.tokens.now) l.self.first (shown l.self.events.now) 0 (seat 0 0) (out (Ok l.fn.written) l.initial.reports);
      kept : length l.reports ≡ length l.initial.reports;
      inside : l.from ≤ length l.self.events.now / EVENT_ROW;
    }

abbrev pub decreases-loop-found : goal.decreases-loop-found
decreases-loop-found l = length l.self.events.now / EVENT_ROW - l.from
