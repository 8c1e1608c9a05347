-- How the proof goes. The code is proved equal, function by function, to the model of specs/Model, whatever numbers the
-- buffers hold;
-- what is left is about that model and a skeleton's events, and ends in `kept_promise`.
-- 1. Loops: the turns of the code's loops over trivia and over events.
-- 2. Encode: the event rows of a skeleton say its events, and there are as many as `event_count`. Runs: in the skeleton
--    of an entry what a marker was made to precede is one node (`entry_chained`), so that a chain of starts can be
--    followed.
-- 3. Trees: how many raw tokens and rows a tree has. Grow: a buffer filled up to a row, and what a tree's rows make of
--    it.
-- 4. Steps: what one event makes of a filled buffer: a token, trivia, a name, the end of a node. Chain: a start opens
--    the nodes of its whole chain, outermost first.
-- 5. Main: one induction over the skeleton; its events write the rows of its placed tree. Errors: the same for the
--    lexical errors.
-- 6. Same: the counts do not depend on what fits, so what does not fit is noticed. Whole: 5 and 6 for a whole file, the
--    promise.
pub mod Loops
pub mod Encode
pub mod Runs
pub mod Trees
pub mod Grow
pub mod Steps
pub mod Chain
pub mod Main
pub mod Errors
pub mod Same
pub mod Whole
