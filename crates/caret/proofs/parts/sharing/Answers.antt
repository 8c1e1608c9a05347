-- `sharing`: nothing past the file's end; else from the part that has the range's first byte.
use native.Mathlib.Omega.{arith}
use Rattle.caret.proofs.Skips.{none_in_range, seek_there, left_less, starts_there, all_there}
use Rattle.caret.proofs.Offsets.{as_listed, lists_none}
use Rattle.caret.proofs.parts.sharing.Goals as goal

pub overflow_cast-top : goal.overflow_cast-top
overflow_cast-top c = omega (arith, c.requires.small)

pub seek-spot-requires : goal.seek-spot-requires
seek-spot-requires c = let a = c.args in seek_there a.from a.to a.size a.trees.now c.requires c.if-from-size.true

pub overflow_sub-from : goal.overflow_sub-from
overflow_sub-from c = let a = c.args in left_less a.from a.to a.size a.trees.now c.requires c.if-from-size.true c.seek-spot.result c.seek-spot.ensures.value

pub sharing_from-requires : goal.sharing_from-requires
sharing_from-requires c =
    let a = c.args in
    (starts_there a.from a.to a.size a.trees.now c.requires c.if-from-size.true c.seek-spot.result c.seek-spot.ensures.value, c.requires.few)

pub returns-then-from-size : goal.returns-then-from-size
returns-then-from-size c =
    let a = c.args in
    as_listed (all_there a.from a.to a.size a.trees.now c.requires c.if-from-size.true c.seek-spot.result c.seek-spot.ensures.value) c.sharing_from.ensures

pub returns-else-from-size : goal.returns-else-from-size
returns-else-from-size c = let a = c.args in as_listed (none_in_range a.from a.to a.size _ c.if-from-size.false c.requires.parts) (lists_none a.list.now)
