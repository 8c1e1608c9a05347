use Rattle.std.proofs.Common.{◌∙◌}
use Rattle.token_rows.proofs.Seen.{is_one_of_rows, first_past_rows}
use Rattle.parser.specs.View.{kinds_of}
use Rattle.parser.proofs.Moves.{some_left, none_left}
use Rattle.parser.proofs.Parser.is_matched.Goals as goal

pub returns-then-has_token-clause-value : goal.returns-then-has_token-clause-value
returns-then-has_token-clause-value c =
    is_one_of_rows c.args.self.now.tokens.now (kinds_of c.args.m) _ _ _ (some_left _ (c.has_token.ensures.some c.if-has_token.true)) c.kind_at.ensures.value c.matches_kind.ensures

pub returns-else-has_token-clause-value : goal.returns-else-has_token-clause-value
returns-else-has_token-clause-value c =
    c.if-has_token.false ∙ first_past_rows (kinds_of c.args.m) c.args.self.now.tokens.now _ (none_left _ (c.has_token.ensures.none c.if-has_token.false))
