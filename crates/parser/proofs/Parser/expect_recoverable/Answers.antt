use Rattle.definitions.specs.Check as C
use Rattle.parser.proofs.Ways.{walks, yes_case, no_case, seq, stay}
use Rattle.parser.proofs.Parser.expect_recoverable.Goals as goal

pub returns-then-eat : goal.returns-then-eat
unfolding C.expect_recoverable
returns-then-eat g c = walks (λ ask b. yes_case (c.eat.ensures.walks.way ask b) c.if-eat.true stay)

pub returns-then-silent_at_set : goal.returns-then-silent_at_set
unfolding C.expect_recoverable
returns-then-silent_at_set g c =
    walks (λ ask b. no_case (c.eat.ensures.walks.way ask b) c.if-eat.false
    (seq (yes_case (c.silent_at_set.ensures.walks.way ask b) c.if-silent_at_set.true (c.error.ensures.walks.way ask b)) stay))

pub returns-else-silent_at_set : goal.returns-else-silent_at_set
unfolding C.expect_recoverable
returns-else-silent_at_set g c =
    walks (λ ask b. no_case (c.eat.ensures.walks.way ask b) c.if-eat.false
    (seq (no_case (c.silent_at_set.ensures.walks.way ask b) c.if-silent_at_set.false (c.error-else-silent_at_set.ensures.walks.way ask b)) stay))
