-- `open_rows`: what is left of the chain is written as all of it is.
use mathlib.Core.Path.{◌≡◌}
use Rattle.sink_rows.specs.Rows.{open_rows}
use Rattle.sink_rows.proofs.tree_row.open_rows.Given as goal

abbrev pub invariant-loop-left : goal.invariant-loop-left
invariant-loop-left l =
    open_rows l.left l.events l.j l.first l.byte l.parent l.children l.trees
    ≡ open_rows l.n l.events l.i l.first l.byte l.parent l.children l.fn.trees
