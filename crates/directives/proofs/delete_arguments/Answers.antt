-- `delete_arguments`: what is deleted, in its node.
use native.Mathlib.Omega.{arith}
use Rattle.parser.proofs.Ways.{walks, node, seq, stay}
use Rattle.directives.proofs.delete_arguments.Goals as goal

pub returns : goal.returns
returns c =
    walks (λ ask b. node (omega arith) c.start-m_params.ensures.marker c.start-m_params.ensures.becomes (seq (c.eat_deleted.ensures.way ask b) stay) c.complete.ensures.becomes)
