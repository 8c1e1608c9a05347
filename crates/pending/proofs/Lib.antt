-- HOW THE PROOFS GO. The run as it is and one with another list, that of before 6/14 or the Rust's, go through the same
-- programs side by side. Their states are the same but that the one's list is the other's without repeats (`shrunk`),
-- and, up to refusal 5, the test for separators comes out alike on the two, whatever is pushed (`Settled`).
--   Once              lists without repeats; `once_push`: to push once onto one is to push and then to drop
--   Alike, Steps      what two runs make, piece by piece (`Alike`); the steps of one program after another
--   Together, Chains  two runs side by side (`Together`): one after another, in a marker, in loops and chains
--   Acts, Runs        each action, if pushes and reports go together (`Keeps`); every program, every call, every entry
--   Lists             they do: for the list of before, and for the Rust's. The one fact about the grammar is used here:
--                     crate facts' `repeat_settled`, where an expectation is pushed that is pending
--   Pushed, Trees     what is read off `Alike`: reports, refusal 5 and room; events, tree, and the whole skeleton
--   AsBefore          the statement
--   Examples          runs that it speaks of, and wrong answers that do not meet it
-- A change of the grammar is checked in facts: a Semicolon or a Comma that may be pushed a second time where separators
-- alone are pending is refused by `may_push`, at `calls_hold`, `wide_holds` or `whole_looks` of its Table.antt.
pub mod Once
pub mod Alike
pub mod Steps
pub mod Together
pub mod Chains
pub mod Acts
pub mod Runs
pub mod Lists
pub mod Pushed
pub mod Trees
pub mod AsBefore
pub mod Examples
