use Rattle.definitions.specs.Check.{silent}
use Rattle.parser.proofs.Ways.{walks, seq}
use Rattle.expr.proofs.at_prefix_op.Goals as goal

pub returns-clause-walks : goal.returns-clause-walks
unfolding silent
returns-clause-walks c = walks (λ ask b. seq (c.add_expected.ensures.way ask b) (c.silent_at_set.ensures.walks.way ask b))
