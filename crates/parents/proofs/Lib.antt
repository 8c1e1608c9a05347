-- The way up, proved. A map:
-- 1. `Named`: each row of a tree but the root is, by the counts, a child of the row that it names. One induction over
--    the tree, by the steps of `Placed` (crates/rows). The other facts about single rows follow from laws about
--    children.
-- 2. `Counted`: how many rows of a tree name a row, and how many children it has: one induction over the tree.
-- 3. `Held`: the last row before a child whose subtree holds it is its parent.
-- 4. `Upwards`: joined, for the rows that an accepted call leaves. `FirstFour`: without their parents they are the rows
--    of before.
-- 5. What guards the statement: `Examples`, computed rows that meet it, and wrong ones that do not.
pub mod Named
pub mod Counted
pub mod Held
pub mod Upwards
pub mod FirstFour
pub mod Examples
