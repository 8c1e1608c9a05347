use Rattle.std.proofs.Common.{arith}
use Rattle.parser.proofs.Ways.{walks, seq, node, stay}
use Rattle.ends.proofs.nodes.unmatched_rcurly.Goals as goal

pub returns-clause-walks : goal.returns-clause-walks
returns-clause-walks c = walks (λ ask b.
    seq (c.error.ensures.walks.way ask b)
    (node (omega arith) c.start-m.ensures.marker c.start-m.ensures.becomes (seq (c.bump.ensures.walks.way ask b) stay) c.complete.ensures.becomes))
