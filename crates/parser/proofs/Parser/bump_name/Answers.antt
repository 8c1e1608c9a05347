use Rattle.std.proofs.Common.{◌∙◌, ap}
use Rattle.basics.specs.Word.{low}
use Rattle.parser.proofs.Moves.{walks_name, walks_name_past}
use Rattle.parser.proofs.Parser.bump_name.Goals as goal

pub returns-then-has_token-clause-walks : goal.returns-then-has_token-clause-walks
returns-then-has_token-clause-walks c =
    walks_name _ _ c.peek.ensures _ _ _ _ _ (c.has_token.ensures.some c.if-has_token.true) c.next_token.ensures.becomes c.take_while.ensures
    (c.low32-raw_tokens.ensures ∙ ap low c.saturating_sub.ensures) c.push_event.ensures

pub returns-else-has_token-clause-walks : goal.returns-else-has_token-clause-walks
returns-else-has_token-clause-walks c = walks_name_past _ _ c.peek.ensures _ (c.has_token.ensures.none c.if-has_token.false)
