-- How the proof goes, in reading order.
-- 1. The outline of a run's tree, its kinds without trivia, is read off its skeleton: Flat. Of an outline some flags
--    are kept (no LParen among its members, none but the first, proper for a list of cells, ..): Summary has the flags,
--    and those of a whole from those of its pieces; Closing says whether a marker may be completed as a kind, and has
--    the flags of the node; Ahead and Taken have the token ahead and the flags of what taking it makes. Bits: lists of
--    truth values.
-- 2. Look is an analysis that computes on programs: at each step the token that may be ahead, and the flags of what was
--    made since the marker around it was pushed. Table says what it finds of each counted function and of each entry;
--    that it does is computed by the checker, and a grammar that puts an LParen elsewhere is refused there.
-- 3. That the analysis is sound is one induction over programs: Meaning (what facts mean), Actions, Shapes, Scopes
--    (markers), Loops, Sound. Runs has every call, by induction on the open calls, and every entry; LeftOver what an
--    entry left over.
-- 4. Theorem goes from the rows to the tree by the laws and proves `BracketsProper`. Partner proves `PartnerMissed`
--    from what precedence/proofs/Theorem says of a cell. Examples: computed cases, and wrong trees.
pub mod Bits
pub mod Flat
pub mod Summary
pub mod Closing
pub mod Ahead
pub mod Taken
pub mod Look
pub mod Meaning
pub mod Actions
pub mod Table
pub mod Shapes
pub mod Scopes
pub mod Loops
pub mod Sound
pub mod Runs
pub mod LeftOver
pub mod Theorem
pub mod Partner
pub mod Examples
