use mathlib.Core.Path.{ap, ◌∙◌}
use mathlib.Core.List.{[], ◌∷◌}
use Rattle.definitions.specs.Token.{first_in}
use Rattle.parser.specs.View.{rest}
use Rattle.parser.proofs.Matching.{walks_here}
use Rattle.parser.proofs.Moves.{in_rows}
use Rattle.parser.proofs.Ways.{walks, seq}
use Rattle.parser.proofs.Parser.at_immediate.Goals as goal

pub returns-clause-walks : goal.returns-clause-walks
returns-clause-walks c =
    let here = c.is_at.ensures.value ∙ ap (λ k. first_in (k ∷ []) (rest c.add_expected.new.self)) c.number.ensures in
    walks (λ ask b. seq (c.add_expected.ensures.way ask b) ((walks_here _ _ _ here).way ask b))

pub returns-clause-some : goal.returns-clause-some
returns-clause-some c = λ e. in_rows _ (c.is_at.ensures.at_in_bounds e)
