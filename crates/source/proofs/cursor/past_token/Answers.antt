-- `past_token`: where the parser's peek and the token that it then takes bring its cursor.
use Rattle.std.proofs.Common.{◌≡◌, ◌∙◌}
use mathlib.Core.Path.{ap}
use mathlib.Core.List.{List}
use lib.ListN.{drop}
use Rattle.definitions.specs.Token.{Token, tokens_of}
use Rattle.machine.specs.Machine.{peek}
use Rattle.parser.specs.View.{view, toks, take_first}
use Rattle.source.proofs.Moves.{token_goes}
use Rattle.source.proofs.cursor.past_token.Goals as goal

pub returns-clause-result_value : goal.returns-clause-result_value
returns-clause-result_value c =
    let p = c.standing-p in
    let q = view c.peek.new.self in
    let rows : toks p.result ≡ tokens_of c.args.tokens.now = ap (λ r. tokens_of r.now) p.ensures.rows in
    let same : toks c.peek.new.self ≡ tokens_of c.args.tokens.now = ap (λ r. tokens_of r.now) (c.peek.ensures.same.tokens ∙ p.ensures.rows) in
    (token_goes (tokens_of c.args.tokens.now) (view p.result) q (view c.next_token.new.self) c.args.at.0 (ap (λ x. x.0) p.ensures.place)
    (c.peek.ensures.is ∙ ap (λ (ts : List Token). peek ts (view p.result)) rows)
    (c.next_token.ensures.becomes.is ∙ ap (λ (ts : List Token). take_first (drop q.cursor ts) q) same)).0

pub returns-clause-tokens_value : goal.returns-clause-tokens_value
returns-clause-tokens_value c =
    let p = c.standing-p in
    let q = view c.peek.new.self in
    let rows : toks p.result ≡ tokens_of c.args.tokens.now = ap (λ r. tokens_of r.now) p.ensures.rows in
    let same : toks c.peek.new.self ≡ tokens_of c.args.tokens.now = ap (λ r. tokens_of r.now) (c.peek.ensures.same.tokens ∙ p.ensures.rows) in
    (token_goes (tokens_of c.args.tokens.now) (view p.result) q (view c.next_token.new.self) c.args.at.0 (ap (λ x. x.0) p.ensures.place)
    (c.peek.ensures.is ∙ ap (λ (ts : List Token). peek ts (view p.result)) rows)
    (c.next_token.ensures.becomes.is ∙ ap (λ (ts : List Token). take_first (drop q.cursor ts) q) same)).1
