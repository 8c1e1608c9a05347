use Rattle.parser.proofs.Ways.{walks_on, ends_opened, ends, yes_case, no_case}
use Rattle.names.proofs.Opened.{path_segment_is}
use Rattle.names.proofs.reference.path_segment.Goals as goal

pub returns-then-eat-clause-walks : goal.returns-then-eat-clause-walks
returns-then-eat-clause-walks c =
    walks_on (λ ask b. ends_opened path_segment_is (ends (yes_case (c.eat.ensures.walks.way ask b) c.if-eat.true (c.eat-then-eat.ensures.walks.way ask b))))

pub returns-else-eat-clause-walks : goal.returns-else-eat-clause-walks
returns-else-eat-clause-walks c =
    walks_on (λ ask b. ends_opened path_segment_is (ends (no_case (c.eat.ensures.walks.way ask b) c.if-eat.false (c.error.ensures.walks.way ask b))))
