-- `seek`: two rows in a turn; what is found from here is what is found from the start.
use Prim.Native.Nat.{◌-◌}
use lib.ListN.{length}
use Rattle.caret.proofs.Turns.{Turning}
use Rattle.caret.proofs.chain.seek.Given as goal

abbrev pub invariant-loop-width : goal.invariant-loop-width
invariant-loop-width l = Turning l.trees l.fn.from.index l.fn.from.left l.i l.rest l.width

abbrev pub decreases-loop-width : goal.decreases-loop-width
decreases-loop-width l = length l.trees - l.i
