-- `eat_dts_include`: the directive, and the file's name.
use native.Mathlib.Omega.{arith}
use Rattle.parser.proofs.Ways.{walks, opened, yes_case, no_case, node, seq, stay}
use Rattle.directives.proofs.Laws.{include_is}
use Rattle.directives.proofs.eat_dts_include.Goals as goal

pub returns-then-not-at-clause-walks : goal.returns-then-not-at-clause-walks
returns-then-not-at-clause-walks c =
    walks (λ ask b. opened include_is (no_case (c.at.ensures.walks.way ask b) c.if-not-at.true stay))

pub returns-clause-walks : goal.returns-clause-walks
returns-clause-walks c =
    walks (λ ask b. opened include_is (yes_case (c.at.ensures.walks.way ask b) c.if-not-at.false
    (node (omega arith) c.start-m.ensures.marker c.start-m.ensures.becomes (seq (c.consume.ensures.walks.way ask b) (seq (c.expect.ensures.walks.way ask b) stay)) c.complete.ensures.becomes)))
