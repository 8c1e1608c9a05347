-- `memreserve_arguments`: two numbers, in their node.
use native.Mathlib.Omega.{arith}
use Rattle.parser.proofs.Ways.{walks, node, seq, stay}
use Rattle.directives.proofs.memreserve_arguments.Goals as goal

pub returns : goal.returns
returns c =
    walks (λ ask b. node (omega arith) c.start-m_params.ensures.marker c.start-m_params.ensures.becomes
    (seq (seq (c.expect.ensures.walks.way ask b) (c.expect-2.ensures.walks.way ask b)) stay) c.complete.ensures.becomes)
