use Rattle.std.proofs.Common.{List}
use Rattle.definitions.specs.Token.{Token}
use Rattle.definitions.specs.Skeleton.{Span}
use Rattle.definitions.specs.Prog.{Rule}
use Rattle.definitions.specs.Grammar.{prefix_turn}
use Rattle.machine.specs.Machine.{Machine}
use Rattle.machine.specs.Walk.{Walked}
use Rattle.parser.specs.View.{tokens_left, ans_of}
use Rattle.parser.proofs.Ways.{Round}
use Rattle.prefixes.proofs.labels_and_name.Given as goal

abbrev pub invariant-loop-answer : goal.invariant-loop-answer
invariant-loop-answer l = (ask : List Token → Rule → Machine → Walked) (b : Span) → Round ask b (prefix_turn (ans_of l.own_name)) l.initial.p l.p

abbrev pub decreases-loop-answer : goal.decreases-loop-answer
decreases-loop-answer l = tokens_left l.p
