-- `entry_sourcefile`: part after part.
use mathlib.Core.Path.{refl}
use mathlib.Core.Bool.{true, false}
use Rattle.basics.proofs.Flags.{flags}
use Rattle.definitions.specs.Grammar.{entry_sourcefile, sourcefile_turn}
use Rattle.parser.proofs.Ways.{yes_case, no_case, seq, stay, lands, turns, stops_yes}
use Rattle.grammar.proofs.entry.entry_sourcefile.Goals as goal

pub loop-p-preserved : goal.loop-p-preserved
unfolding sourcefile_turn
loop-p-preserved c =
    turns c.loop-p.invariant (yes_case {t = true} (no_case (c.at_end.ensures.walks.way _ _) c.loop-p-test.true stay) refl (seq (lands c.sourcefile_part.ensures.walks) stay))
    (omega (flags, c.at_end.ensures.walks.left, c.at_end.ensures.some c.loop-p-test.true, c.sourcefile_part.ensures.taken))

pub returns : goal.returns
unfolding entry_sourcefile sourcefile_turn
returns c =
    stops_yes c.loop-p.invariant (no_case {t = false} (yes_case (c.at_end.ensures.walks.way _ _) c.loop-p-test.false stay) refl stay)
