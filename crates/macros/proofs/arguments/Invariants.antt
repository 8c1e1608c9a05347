use Rattle.definitions.specs.Token.{Token}
use Rattle.definitions.specs.Skeleton.{Span}
use Rattle.definitions.specs.Prog.{Rule}
use Rattle.definitions.specs.Grammar.{macro_argument_turn}
use Rattle.machine.specs.Machine.{Machine}
use Rattle.machine.specs.Walk.{Walked}
use Rattle.std.proofs.Common.{List}
use Rattle.parser.specs.View.{tokens_left}
use Rattle.parser.proofs.Ways.{Round}
use Rattle.macros.proofs.arguments.Given as goal

abbrev pub invariant-loop-comma : goal.invariant-loop-comma
invariant-loop-comma l = (ask : List Token → Rule → Machine → Walked) (b : Span) → Round ask b macro_argument_turn l.initial.p l.p

abbrev pub decreases-loop-comma : goal.decreases-loop-comma
decreases-loop-comma l = tokens_left l.p
