use Rattle.parser.proofs.Moves.{walks_end, ended_rest}
use Rattle.parser.proofs.Parser.at_end.Goals as goal

pub returns-clause-walks : goal.returns-clause-walks
returns-clause-walks c = walks_end _ _ _ c.peek.ensures (ended_rest _ _ c.has_token.ensures.some c.has_token.ensures.none)
