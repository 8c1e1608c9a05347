-- `current_token_error_range`: the last byte, the byte after the last token, or the current token.
use Rattle.std.proofs.Common.{◌≡◌, ◌∙◌, true, false}
use Rattle.basics.proofs.Flags.{flags}
use Rattle.definitions.specs.Run.{only_separators}
use Rattle.parser.specs.View.{view, pending_of, tokens_left}
use Rattle.parser.proofs.Reports.{range_lone, range_token, range_end}
use Rattle.parser.proofs.Parser.current_token_error_range.Goals as goal

pub returns-then-not-has_token : goal.returns-then-not-has_token
unfolding tokens_left
returns-then-not-has_token c = rw c.saturating_sub.ensures (range_end c.args.self.now.tokens.now (view c.args.self.now) (omega (flags, c.has_token.ensures.none c.if-not-has_token.true)))

pub returns-then-ends_statement : goal.returns-then-ends_statement
unfolding tokens_left
returns-then-ends_statement c =
    let e : only_separators (pending_of c.args.self.now.pending).codes ≡ true = rw (← c.as_slice.ensures, ← c.ends_statement.ensures) c.if-ends_statement.true in
    range_lone c.args.self.now.tokens.now (view c.args.self.now) (omega (flags, c.has_token.ensures.some c.if-not-has_token.false)) e

pub returns : goal.returns
unfolding tokens_left
returns c =
    let e : only_separators (pending_of c.args.self.now.pending).codes ≡ false = rw (← c.as_slice.ensures, ← c.ends_statement.ensures) c.if-ends_statement.false in
    c.range.ensures ∙ range_token c.args.self.now.tokens.now (view c.args.self.now) (omega (flags, c.has_token.ensures.some c.if-not-has_token.false)) e
