use Rattle.std.proofs.Common.{◌∙◌, ap, ℕ, [], ◌∷◌}
use Rattle.definitions.specs.Grammar as G
use Rattle.definitions.specs.Token.{first_in, past}
use Rattle.parser.specs.View.{rest}
use Rattle.parser.proofs.Moves.{walks_next}
use Rattle.parser.proofs.Ways.{walks, yes_case, no_case, shown, stay}
use Rattle.parser.proofs.Parser.silent_at_macro_invocation_with_args.Goals as goal

pub returns-then-silent_at-clause-walks : goal.returns-then-silent_at-clause-walks
unfolding G.silent_at_macro_invocation_with_args
returns-then-silent_at-clause-walks c =
    let next = c.is_next_at.ensures ∙ ap (λ (k : ℕ). first_in (k ∷ []) (past (rest c.silent_at.new.self))) c.number.ensures in
    walks (λ ask b. yes_case (c.silent_at.ensures.walks.way ask b) c.if-silent_at.true ((walks_next _ _ _ next).way ask b))

pub returns-else-silent_at-clause-walks : goal.returns-else-silent_at-clause-walks
unfolding G.silent_at_macro_invocation_with_args
returns-else-silent_at-clause-walks c = walks (λ ask b. shown c.if-silent_at.false (no_case (c.silent_at.ensures.walks.way ask b) c.if-silent_at.false stay))
