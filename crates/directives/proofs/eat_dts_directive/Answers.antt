-- `eat_dts_directive`: by the directive.
use Rattle.parser.proofs.Ways.{walks, shown, opened, yes_case, no_case, marker, seq, stay}
use Rattle.directives.proofs.Laws.{version_is}
use Rattle.directives.proofs.eat_dts_directive.Goals as goal

pub returns-then-at-clause-walks : goal.returns-then-at-clause-walks
returns-then-at-clause-walks c =
    walks (λ ask b. opened version_is (yes_case (c.at.ensures.walks.way ask b) c.if-at.true
    (marker c.start-m.ensures.marker c.start-m.ensures.becomes (seq (c.consume.ensures.walks.way ask b) (c.directive_end.ensures.way ask b)))))

pub returns-then-eat_dts_include-clause-walks : goal.returns-then-eat_dts_include-clause-walks
returns-then-eat_dts_include-clause-walks c =
    walks (λ ask b. shown c.if-eat_dts_include.true (opened version_is (no_case (c.at.ensures.walks.way ask b) c.if-at.false
    (yes_case (c.eat_dts_include.ensures.walks.way ask b) c.if-eat_dts_include.true stay))))

pub returns-else-eat_dts_include-clause-walks : goal.returns-else-eat_dts_include-clause-walks
returns-else-eat_dts_include-clause-walks c =
    walks (λ ask b. opened version_is (no_case (c.at.ensures.walks.way ask b) c.if-at.false
    (no_case (c.eat_dts_include.ensures.walks.way ask b) c.if-eat_dts_include.false (c.eat_directive_with_arguments.ensures.walks.way ask b))))
