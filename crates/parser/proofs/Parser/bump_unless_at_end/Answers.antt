-- `bump_unless_at_end`: nothing at the end, or a token.
use Rattle.parser.proofs.Ways.{walks, yes_case, no_case, stay}
use Rattle.parser.proofs.Parser.bump_unless_at_end.Goals as goal

pub returns-then-not-at_end-clause-walks : goal.returns-then-not-at_end-clause-walks
returns-then-not-at_end-clause-walks c = walks (λ ask b. no_case (c.at_end.ensures.walks.way ask b) c.if-not-at_end.true (c.bump.ensures.walks.way ask b))

pub returns-else-not-at_end-clause-walks : goal.returns-else-not-at_end-clause-walks
returns-else-not-at_end-clause-walks c = walks (λ ask b. yes_case (c.at_end.ensures.walks.way ask b) c.if-not-at_end.false stay)
