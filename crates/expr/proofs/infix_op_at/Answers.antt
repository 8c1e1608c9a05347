-- `infix_op_at` pushes the expectation and peeks, and has the powers of the kind that it sees.
use Rattle.parser.proofs.Moves.{in_rows}
use Rattle.expr.proofs.Turns.{looks_for, some_seen}
use Rattle.expr.proofs.infix_op_at.Goals as goal

pub returns-clause-becomes : goal.returns-clause-becomes
returns-clause-becomes c = looks_for c.add_expected.ensures c.peek.ensures

pub returns-clause-some : goal.returns-clause-some
returns-clause-some c = λ h. in_rows c.peek.new.self
    (c.kind_at.ensures.at_in_bounds (some_seen c.binding_power.result c.kind_at.result c.binding_power.ensures.left c.binding_power.ensures.some h))
