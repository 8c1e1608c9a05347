-- `chain`: what is on the list, and what is found from here, is the chain.
use Prim.Native.Nat.{◌-◌}
use mathlib.Core.Path.{◌≡◌}
use lib.ListN.{length}
use Rattle.caret.proofs.Chains.{Walked}
use Rattle.caret.proofs.chain.chain.Given as goal

abbrev pub invariant-loop-spot : goal.invariant-loop-spot
invariant-loop-spot l = record { walk : Walked l.byte l.trees l.fn.list l.listed.list.now l.spot.index l.spot.left l.listed.count; same_list : l.listed.list.ghost_name ≡ l.initial.listed.list.ghost_name }

abbrev pub decreases-loop-spot : goal.decreases-loop-spot
decreases-loop-spot l = length l.trees - l.spot.index
