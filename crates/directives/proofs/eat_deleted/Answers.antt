-- `eat_deleted`: a reference, a name, or a report.
use Rattle.parser.proofs.Ways.{walks, yes_case, no_case, stay}
use Rattle.directives.proofs.eat_deleted.Goals as goal

pub returns-then-eat : goal.returns-then-eat
returns-then-eat c =
    walks (λ ask b. yes_case (c.eat.ensures.walks.way ask b) c.if-eat.true stay)

pub returns-then-eat-2 : goal.returns-then-eat-2
returns-then-eat-2 c =
    walks (λ ask b. no_case (c.eat.ensures.walks.way ask b) c.if-eat.false
    (yes_case (c.eat-2.ensures.walks.way ask b) c.if-eat-2.true (c.eat-then-eat-2.ensures.walks.way ask b)))

pub returns : goal.returns
returns c =
    walks (λ ask b. no_case (c.eat.ensures.walks.way ask b) c.if-eat.false
    (no_case (c.eat-2.ensures.walks.way ask b) c.if-eat-2.false (c.error.ensures.walks.way ask b)))
