-- `precede`: a placeholder, and the link to it.
use Rattle.std.proofs.Common.{sym, ◌∙◌}
use Rattle.parser.specs.View.{view, marker_of, tokens_left}
use Rattle.parser.proofs.Marks.{precede_on, precede_off}
use Rattle.parser.proofs.marker.CompletedMarker.precede.Goals as goal

pub returns-then-is_open-clause-becomes : goal.returns-then-is_open-clause-becomes
unfolding tokens_left
returns-then-is_open-clause-becomes c = record {
  is = precede_on (marker_of c.args.self.0) (view c.args.p.now) (view c.push_event.new.self) _ c.push_event.ensures.is (sym c.is_open.ensures ∙ c.if-is_open.true) c.put_link.ensures;
  same = record { tokens = c.push_event.ensures.same.tokens; events = c.push_event.ensures.same.events; reports = c.push_event.ensures.same.reports; pool = c.push_event.ensures.same.pool };
  left = c.push_event.ensures.left;
}

pub returns-else-is_open-clause-becomes : goal.returns-else-is_open-clause-becomes
returns-else-is_open-clause-becomes c = record {
  is = precede_off (marker_of c.args.self.0) (view c.args.p.now) (view c.push_event.new.self) c.push_event.ensures.is (sym c.is_open.ensures ∙ c.if-is_open.false);
  same = c.push_event.ensures.same;
  left = c.push_event.ensures.left;
}
