use Rattle.parser.proofs.Moves.{first_is, second_is}
use Rattle.parser.proofs.numbers.EitherNumber.matches_kind.Goals as goal

pub returns-then-k-self : goal.returns-then-k-self
returns-then-k-self c = first_is _ _ _ c.if-k-self.true

pub returns-else-k-self : goal.returns-else-k-self
returns-else-k-self c = second_is _ _ _ c.if-k-self.false
