use Rattle.parser.proofs.Ways.{walks, opened, yes_case, no_case, stay}
use Rattle.prefixes.proofs.Laws.{prefix_is}
use Rattle.prefixes.proofs.turn.Goals.{then-eat-via-then-eat, then-eat-via-else-eat+then-eat-2}
use Rattle.prefixes.proofs.turn.Goals as goal

pub returns-then-at-clause-walks : goal.returns-then-at-clause-walks
returns-then-at-clause-walks c = walks (λ ask b. opened (prefix_is _) (yes_case (c.at.ensures.walks.way ask b) c.if-at.true (c.label_or_name.ensures.walks.way ask b)))

pub returns-then-eat-clause-walks : goal.returns-then-eat-clause-walks
returns-then-eat-clause-walks c = elim c.then-eat.branch [
  | then-eat-via-then-eat w ↦ rw (w.p-is) (walks (λ ask b. opened (prefix_is _)
      (no_case (c.at.ensures.walks.way ask b) c.if-at.false (yes_case (c.eat.ensures.walks.way ask b) w.if-eat.true stay))))
  | then-eat-via-else-eat+then-eat-2 w ↦ rw (w.p-is) (walks (λ ask b. opened (prefix_is _)
      (no_case (c.at.ensures.walks.way ask b) c.if-at.false
      (no_case (c.eat.ensures.walks.way ask b) w.if-eat.false (yes_case (w.eat-else-eat.ensures.walks.way ask b) w.if-eat-2.true stay)))))
]

pub returns-clause-walks : goal.returns-clause-walks
returns-clause-walks c = walks (λ ask b. opened (prefix_is _)
    (no_case (c.at.ensures.walks.way ask b) c.if-at.false
    (no_case (c.eat.ensures.walks.way ask b) c.if-eat.false (no_case (c.eat-else-eat.ensures.walks.way ask b) c.if-eat-2.false stay))))
