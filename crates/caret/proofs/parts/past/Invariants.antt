-- `past`: as many rows are passed from here as are left of those from the start.
use Prim.Native.Nat.{◌-◌}
use lib.ListN.{length}
use Rattle.caret.proofs.Turns.{Passing}
use Rattle.caret.proofs.parts.past.Given as goal

abbrev pub invariant-loop-rest : goal.invariant-loop-rest
invariant-loop-rest l = Passing l.trees l.index l.inside l.i l.rest

abbrev pub decreases-loop-rest : goal.decreases-loop-rest
decreases-loop-rest l = length l.trees - l.i
