use Rattle.parser.proofs.Moves.{walks_silent, in_rows}
use Rattle.parser.proofs.Parser.silent_at.Goals as goal

pub returns-clause-walks : goal.returns-clause-walks
returns-clause-walks c = rw (← c.number.ensures) (walks_silent _ _ _ _ c.peek.ensures c.is_at.ensures.value)

pub returns-clause-some : goal.returns-clause-some
returns-clause-some c = λ e. in_rows _ (c.is_at.ensures.at_in_bounds e)
