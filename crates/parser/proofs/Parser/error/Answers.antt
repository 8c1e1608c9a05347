-- `error`: a report, and then what it takes.
use Rattle.parser.proofs.Ways.{walks, seq, emits}
use Rattle.parser.proofs.Parser.error.Goals as goal

pub returns-in-No-clause-walks : goal.returns-in-No-clause-walks
returns-in-No-clause-walks c = rw (c.in-No.is) (emits c.emit.ensures)

pub returns-in-Yes-clause-walks : goal.returns-in-Yes-clause-walks
returns-in-Yes-clause-walks c = rw (c.in-Yes.is) (walks (λ ask b. seq ((emits c.emit.ensures).way ask b) (c.bump_unless_at_end.ensures.walks.way ask b)))

pub returns-in-YesWrapErr-clause-walks : goal.returns-in-YesWrapErr-clause-walks
returns-in-YesWrapErr-clause-walks c = rw (c.in-YesWrapErr.is) (walks (λ ask b. seq ((emits c.emit.ensures).way ask b) (c.wrap_unless_at_end.ensures.walks.way ask b)))
