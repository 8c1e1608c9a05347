use Rattle.parser.proofs.Ways.{walks, opened, yes_case, no_case}
use Rattle.prefixes.proofs.Laws.{labels_is}
use Rattle.prefixes.proofs.eat_node_or_prop_prefix.Goals as goal

pub returns-then-eat-clause-walks : goal.returns-then-eat-clause-walks
returns-then-eat-clause-walks c = walks (λ ask b. opened labels_is (yes_case (c.eat.ensures.walks.way ask b) c.if-eat.true (c.labels_and_name.ensures.walks.way ask b)))

pub returns-else-eat-clause-walks : goal.returns-else-eat-clause-walks
returns-else-eat-clause-walks c =
    walks (λ ask b. opened labels_is (no_case (c.eat.ensures.walks.way ask b) c.if-eat.false (c.labels_and_name-else-eat.ensures.walks.way ask b)))
