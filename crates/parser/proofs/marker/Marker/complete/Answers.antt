-- `complete`: the placeholder becomes a start, and a finish is pushed.
use Rattle.basics.proofs.Flags.{flags}
use Rattle.std.proofs.Common.{refl, sym, ◌∙◌}
use Rattle.layout.specs.Numbers.{node_number}
use Rattle.parser.specs.View.{view, marker_of, tokens_left}
use Rattle.parser.proofs.Marks.{complete_on, complete_off}
use Rattle.parser.proofs.marker.Marker.complete.Goals as goal

pub returns-then-is_open-clause-becomes : goal.returns-then-is_open-clause-becomes
unfolding tokens_left
returns-then-is_open-clause-becomes c = record {
  is = complete_on (marker_of c.args.self) (node_number c.args.kind) (view c.args.p.now) _ _ (sym c.is_open.ensures ∙ c.if-is_open.true) (rw c.number.ensures at c.put_start.ensures) c.push_row.ensures.is;
  same = record { tokens = c.push_row.ensures.same.tokens; events = c.push_row.ensures.same.events; reports = c.push_row.ensures.same.reports; pool = c.push_row.ensures.same.pool };
  left = c.push_row.ensures.left;
}

pub returns-else-is_open-clause-becomes : goal.returns-else-is_open-clause-becomes
returns-else-is_open-clause-becomes c = record {
  is = complete_off (marker_of c.args.self) (node_number c.args.kind) (view c.args.p.now) (sym c.is_open.ensures ∙ c.if-is_open.false);
  same = record { tokens = refl; events = refl; reports = refl; pool = refl };
  left = omega flags;
}
