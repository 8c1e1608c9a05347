-- Laws about rows. A map:
-- 1. `Written`: the rows of a tree in a buffer, one by one, and read back from it.
-- 2. `Numbers`: rows read from a buffer's numbers, from an index on.
-- 3. `Spans`: subtrees by row numbers; a row has one parent, and one chain leads from the root to it.
-- 4. `Bytes`: where a row starts; leaves follow one another without a gap.
-- 5. `Placed`: a part of a tree among all rows, as children of a row.
-- 6. One pass over a tree's rows finds what the definitions list: `Passes` (the chain to the leaf that owns a byte),
--    `Last` (to the last leaf), `Parts` (the parts that share a byte with a range, and that their bytes add up).
pub mod Written
pub mod Numbers
pub mod Spans
pub mod Bytes
pub mod Placed
pub mod Passes
pub mod Last
pub mod Parts
