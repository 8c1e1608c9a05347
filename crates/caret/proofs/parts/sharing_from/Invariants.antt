-- `sharing_from`: what is on the list, and what is found from here, are the parts that share a byte with the range.
use Prim.Native.Nat.{◌-◌, ◌/◌}
use mathlib.Core.Path.{◌≡◌}
use lib.ListN.{length}
use Rattle.definitions.specs.Layout.{TREE_ROW}
use Rattle.rows.specs.OnePass.{starting}
use Rattle.caret.proofs.Turns.{rows_from}
use Rattle.caret.proofs.Listings.{Listing}
use Rattle.caret.proofs.parts.sharing_from.Given as goal

abbrev pub invariant-loop-index : goal.invariant-loop-index
invariant-loop-index l = record { walk : Listing l.from l.to (starting l.from l.to (l.first / TREE_ROW) 0 l.first_byte (rows_from l.trees l.first)) l.trees l.fn.list l.listed.list.now l.index l.start l.listed.count; same_list : l.listed.list.ghost_name ≡ l.initial.listed.list.ghost_name }

abbrev pub decreases-loop-index : goal.decreases-loop-index
decreases-loop-index l = length l.trees - l.index
