-- How the proof goes. `Meets` says of one walk: the machine is what is read off the definitions' state and what was
-- pushed so far (`Image`), or it was refused as `scan` says of what is pushed. It is shown for each action and kept by
-- each way of joining programs; one induction over programs then gives it for all, and `machine_ends` is the case of a
-- whole entry.
-- 1. Buffers, Coded: lists written from the front; event rows and report rows cut to 32 bits, and that nothing is cut
--    of a small skeleton. Suffix, Image: the tokens from a place on; the machine while nothing is refused.
-- 2. Moves, Stores: what a move of the cursor and what a row that is written make of it, where the row fits and where
--    it does not. Expecting: what a push makes of the pending list and of its two words.
-- 3. Sticky: a refusal stays. Meets: what is to be shown of a walk.
-- 4. The actions: Taking (tests, expectations, tokens, names), Emitting (reports), Arguments (macro arguments),
--    Markers.
-- 5. The joins: Sequences, Loops, Chains. Programs: the induction over programs, and over the open calls left. Whole:
--    an entry.
-- What the proofs of code cite of the machine: Way (steps through a program), Turns and Links (a loop's turns, a
-- chain's links).
pub mod Buffers
pub mod Coded
pub mod Suffix
pub mod Image
pub mod Moves
pub mod Expecting
pub mod Stores
pub mod Sticky
pub mod Meets
pub mod Taking
pub mod Emitting
pub mod Arguments
pub mod Markers
pub mod Sequences
pub mod Loops
pub mod Chains
pub mod Programs
pub mod Whole
pub mod Way
pub mod Turns
pub mod Links
