-- `seek`: two rows in a turn; what is found from here is what is found from the start.
use native.Mathlib.Omega.{arith}
use mathlib.Core.Path.{refl}
use Rattle.caret.proofs.Turns.{there, turning, found_here, found_second, both_past}
use Rattle.caret.proofs.chain.seek.Goals as goal

pub overflow_add-width : goal.overflow_add-width
overflow_add-width c = omega (arith, there c.args.trees.now c.args.from.index c.args.from.left (record { bytes = c.requires.0; classes = c.requires.1 }))

pub offset_bounds-trees-i : goal.offset_bounds-trees-i
offset_bounds-trees-i c = omega (arith, there c.args.trees.now c.args.from.index c.args.from.left (record { bytes = c.requires.0; classes = c.requires.1 }))

pub bounds-trees-i : goal.bounds-trees-i
bounds-trees-i c = omega (arith, there c.args.trees.now c.args.from.index c.args.from.left (record { bytes = c.requires.0; classes = c.requires.1 }))

pub loop-width-init : goal.loop-width-init
loop-width-init c = turning (record { same = refl; going = record { bytes = c.requires.0; classes = c.requires.1 }; read = refl; fewer = omega arith }) (omega arith)

pub returns-then-rest-next-clause-value : goal.returns-then-rest-next-clause-value
returns-then-rest-next-clause-value c = found_second c.loop-width.invariant.seeking c.loop-width-test.true c.if-rest-next.true

pub loop-width-preserved : goal.loop-width-preserved
loop-width-preserved c = turning (both_past c.loop-width.invariant.seeking c.loop-width-test.true c.if-rest-next.false _ (omega arith)) (omega arith)

pub returns-clause-value : goal.returns-clause-value
returns-clause-value c = found_here c.loop-width.invariant.seeking (omega arith)
