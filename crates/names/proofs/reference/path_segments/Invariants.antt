use Rattle.std.proofs.Common.{List}
use Rattle.definitions.specs.Token.{Token}
use Rattle.definitions.specs.Skeleton.{Span}
use Rattle.definitions.specs.Prog.{Rule}
use Rattle.definitions.specs.Grammar.{path_turn}
use Rattle.machine.specs.Machine.{Machine}
use Rattle.machine.specs.Walk.{Walked}
use Rattle.parser.specs.View.{tokens_left}
use Rattle.parser.proofs.Ways.{Round}
use Rattle.names.proofs.reference.path_segments.Given as goal

abbrev pub invariant-loop-p : goal.invariant-loop-p
invariant-loop-p l = (ask : List Token → Rule → Machine → Walked) (b : Span) → Round ask b path_turn l.initial.p l.p

abbrev pub decreases-loop-p : goal.decreases-loop-p
decreases-loop-p l = tokens_left l.p
