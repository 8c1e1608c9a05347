-- `eat_directive_with_arguments`: by the directive.
use Rattle.parser.proofs.Ways.{walks, opened, yes_case, no_case, marker, seq, stay}
use Rattle.directives.proofs.Laws.{arguments_are}
use Rattle.directives.proofs.eat_directive_with_arguments.Goals as goal

pub returns-then-at-clause-walks : goal.returns-then-at-clause-walks
returns-then-at-clause-walks c =
    walks (λ ask b. opened arguments_are (yes_case (c.at.ensures.walks.way ask b) c.if-at.true
    (marker c.start-m.ensures.marker c.start-m.ensures.becomes (seq (c.consume.ensures.walks.way ask b) (seq (c.memreserve_arguments.ensures.way ask b) (c.directive_end.ensures.way ask b))))))

pub returns-then-at-2-clause-walks : goal.returns-then-at-2-clause-walks
returns-then-at-2-clause-walks c =
    walks (λ ask b. opened arguments_are (no_case (c.at.ensures.walks.way ask b) c.if-at.false
    (yes_case (c.at-2.ensures.walks.way ask b) c.if-at-2.true
    (marker c.start-m-then-at-2.ensures.marker c.start-m-then-at-2.ensures.becomes (seq (c.consume-then-at-2.ensures.walks.way ask b) (seq (c.delete_arguments.ensures.way ask b) (c.directive_end-then-at-2.ensures.way ask b)))))))

pub returns-clause-walks : goal.returns-clause-walks
returns-clause-walks c =
    walks (λ ask b. opened arguments_are (no_case (c.at.ensures.walks.way ask b) c.if-at.false (no_case (c.at-2.ensures.walks.way ask b) c.if-at-2.false stay)))
