use Rattle.definitions.specs.Check as C
use Rattle.parser.proofs.Ways.{walks, seq}
use Rattle.parser.proofs.Parser.at.Goals as goal

pub returns-clause-walks : goal.returns-clause-walks
unfolding C.at
returns-clause-walks g c = walks (λ ask b. seq (c.push_expected.ensures.way ask b) (c.silent.ensures.walks.way ask b))
