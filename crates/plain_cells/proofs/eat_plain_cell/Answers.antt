use Rattle.definitions.specs.Check.{silent}
use Rattle.parser.proofs.Ways.{walks, yes_case, no_case, seq, stay}
use Rattle.plain_cells.proofs.eat_plain_cell.Goals as goal

pub returns-then-silent_eat-clause-walks : goal.returns-then-silent_eat-clause-walks
returns-then-silent_eat-clause-walks c = walks (λ ask b. seq (c.add_expected.ensures.way ask b) (yes_case (c.silent_eat.ensures.walks.way ask b) c.if-silent_eat.true stay))

pub returns-then-silent_at-clause-walks : goal.returns-then-silent_at-clause-walks
unfolding silent
returns-then-silent_at-clause-walks c = walks (λ ask b.
    seq (c.add_expected.ensures.way ask b)
    (no_case (c.silent_eat.ensures.walks.way ask b) c.if-silent_eat.false
    (yes_case (c.silent_at.ensures.walks.way ask b) c.if-silent_at.true (seq (c.macro_invocation.ensures.walks.way ask b) stay))))

pub returns-clause-walks : goal.returns-clause-walks
unfolding silent
returns-clause-walks c = walks (λ ask b.
    seq (c.add_expected.ensures.way ask b)
    (no_case (c.silent_eat.ensures.walks.way ask b) c.if-silent_eat.false
    (no_case (c.silent_at.ensures.walks.way ask b) c.if-silent_at.false (c.silent_eat-2.ensures.walks.way ask b))))
