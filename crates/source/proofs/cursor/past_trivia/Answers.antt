-- `past_trivia`: where the parser's peek brings its cursor.
use Rattle.std.proofs.Common.{◌≡◌, ◌∙◌}
use mathlib.Core.Path.{ap}
use mathlib.Core.List.{List}
use Rattle.definitions.specs.Token.{Token, tokens_of}
use Rattle.machine.specs.Machine.{peek}
use Rattle.parser.specs.View.{view, toks}
use Rattle.source.proofs.Moves.{peek_goes}
use Rattle.source.proofs.cursor.past_trivia.Goals as goal

pub returns-clause-result_value : goal.returns-clause-result_value
returns-clause-result_value c =
    let p = c.standing-p in
    let rows : toks p.result ≡ tokens_of c.args.tokens.now = ap (λ r. tokens_of r.now) p.ensures.rows in
    (peek_goes (tokens_of c.args.tokens.now) (view p.result) (view c.peek.new.self) c.args.at.0 (ap (λ x. x.0) p.ensures.place)
    (c.peek.ensures.is ∙ ap (λ (ts : List Token). peek ts (view p.result)) rows)).0

pub returns-clause-tokens_value : goal.returns-clause-tokens_value
returns-clause-tokens_value c =
    let p = c.standing-p in
    let rows : toks p.result ≡ tokens_of c.args.tokens.now = ap (λ r. tokens_of r.now) p.ensures.rows in
    (peek_goes (tokens_of c.args.tokens.now) (view p.result) (view c.peek.new.self) c.args.at.0 (ap (λ x. x.0) p.ensures.place)
    (c.peek.ensures.is ∙ ap (λ (ts : List Token). peek ts (view p.result)) rows)).1
