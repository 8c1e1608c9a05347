use Rattle.parser.specs.View.{tokens_left}
use Rattle.parser.proofs.Moves.{Stretch}
use Rattle.parser.proofs.Parser.take_while.Given as goal

abbrev pub invariant-loop-self : goal.invariant-loop-self
invariant-loop-self l = Stretch l.set l.initial.self l.self

abbrev pub decreases-loop-self : goal.decreases-loop-self
decreases-loop-self l = tokens_left l.self
