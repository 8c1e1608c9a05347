use Rattle.parser.specs.View.{tokens_left}
use Rattle.macros.proofs.Tokens.{Remaining}
use Rattle.macros.proofs.bump_argument.Given as goal

abbrev pub invariant-loop-next : goal.invariant-loop-next
invariant-loop-next l = Remaining l.initial.p l.level l.p

abbrev pub decreases-loop-next : goal.decreases-loop-next
decreases-loop-next l = tokens_left l.p
