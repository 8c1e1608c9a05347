use Rattle.definitions.specs.Check as C
use Rattle.parser.proofs.Ways.{walks, yes_case, no_case, seq, stay}
use Rattle.parser.proofs.Parser.expect.Goals as goal

pub returns-then-eat-clause-walks : goal.returns-then-eat-clause-walks
unfolding C.expect
returns-then-eat-clause-walks g c = walks (λ ask b. yes_case (c.eat.ensures.walks.way ask b) c.if-eat.true stay)

pub returns-clause-walks : goal.returns-clause-walks
unfolding C.expect
returns-clause-walks g c =
    walks (λ ask b. no_case (c.eat.ensures.walks.way ask b) c.if-eat.false (seq (c.error.ensures.walks.way ask b) stay))
