use Rattle.std.proofs.Common.{refl}
use mathlib.Core.Bool.{true, false}
use Rattle.basics.proofs.Flags.{flags}
use Rattle.definitions.specs.Grammar.{left_over_turn}
use Rattle.parser.proofs.Ways.{walks, round, turns, stops_yes, yes_case, no_case, seq, stay}
use Rattle.ends.proofs.nodes.bump_all.Goals as goal

pub loop-p-init : goal.loop-p-init
loop-p-init c = λ ask b. round

pub loop-p-smaller : goal.loop-p-smaller
loop-p-smaller c = omega (flags, c.at_end.ensures.some c.loop-p-test.true, c.at_end.ensures.walks.left, c.bump.ensures.taken)

pub loop-p-preserved : goal.loop-p-preserved
unfolding left_over_turn
loop-p-preserved c = λ ask b. turns (c.loop-p.invariant ask b)
    (yes_case {t = true} (no_case (c.at_end.ensures.walks.way ask b) c.loop-p-test.true stay) refl (seq (c.bump.ensures.walks.way ask b) stay))
    (omega (flags, c.at_end.ensures.some c.loop-p-test.true, c.at_end.ensures.walks.left, c.bump.ensures.taken))

pub returns : goal.returns
unfolding left_over_turn
returns c = walks (λ ask b. stops_yes (c.loop-p.invariant ask b) (no_case {t = false} (yes_case (c.at_end.ensures.walks.way ask b) c.loop-p-test.false stay) refl stay))
