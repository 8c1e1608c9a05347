use Rattle.definitions.specs.Layout.{MOST_OPEN_CALLS}
use Rattle.definitions.specs.Grammar.{sourcefile_turn}
use Rattle.machine.specs.Walk.{walk_rule, unlabelled}
use Rattle.parser.specs.View.{tokens_left}
use Rattle.parser.proofs.Ways.{Round}
use Rattle.grammar.proofs.entry.entry_sourcefile.Given as goal

abbrev pub invariant-loop-p : goal.invariant-loop-p
invariant-loop-p l = Round (walk_rule MOST_OPEN_CALLS) unlabelled sourcefile_turn l.initial.p l.p

abbrev pub decreases-loop-p : goal.decreases-loop-p
decreases-loop-p l = tokens_left l.p
