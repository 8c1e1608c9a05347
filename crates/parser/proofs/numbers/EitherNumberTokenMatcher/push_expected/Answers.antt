use Rattle.parser.proofs.Ways.{walks, seq, stay}
use Rattle.parser.proofs.numbers.EitherNumberTokenMatcher.push_expected.Goals as goal

pub returns : goal.returns
returns c = walks (λ ask b. seq (c.add_code.ensures.way ask b) (seq (c.add_code-2.ensures.way ask b) stay))
