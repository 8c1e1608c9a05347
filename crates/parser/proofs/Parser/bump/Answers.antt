use Rattle.parser.proofs.Moves.{walks_bump, walks_bump_past}
use Rattle.parser.proofs.Parser.bump.Goals as goal

pub returns-then-has_token-clause-walks : goal.returns-then-has_token-clause-walks
returns-then-has_token-clause-walks c =
    walks_bump _ _ c.peek.ensures _ _ (c.has_token.ensures.some c.if-has_token.true) c.next_token.ensures.becomes c.push_event.ensures

pub returns-else-has_token-clause-walks : goal.returns-else-has_token-clause-walks
returns-else-has_token-clause-walks c = walks_bump_past _ _ c.peek.ensures (c.has_token.ensures.none c.if-has_token.false)
