-- `directive_end`: the semicolon, and the node.
use native.Mathlib.Omega.{arith}
use Rattle.parser.proofs.Ways.{closes, finished, seq, stay}
use Rattle.directives.proofs.directive_end.Goals as goal

pub returns : goal.returns
returns c =
    closes (λ ask b. finished (omega arith) (seq (c.expect_recoverable.ensures.way ask b) stay) c.complete.ensures.becomes)
