use Rattle.std.proofs.Common.{arith}
use Rattle.parser.proofs.Ways.{walks, node, seq, stay}
use Rattle.expr.proofs.literal_expr.Goals as goal

pub returns-clause-walks : goal.returns-clause-walks
returns-clause-walks c = walks (λ ask b. node (omega arith) c.start-m.ensures.marker c.start-m.ensures.becomes (seq (c.bump.ensures.walks.way ask b) stay) c.complete.ensures.becomes)
