-- HOW THE PROOFS GO. An analysis computes, for each program of the grammar, what is known at every step of a run: by
-- what is pending and by whether the turn took a token, which token a peek comes to. Its answers are checked by `refl`;
-- that it is sound is proved once, for every program.
--   Known, Facts     what is known: of one token; at a step
--   May              where a program may begin, by what is known
--   Look, Table      the analysis; what is said of each counted function, and that the grammar does so: computed
--   Knowing, Holds   what the facts mean, and that joins and weakenings keep them
--   Pushing          what a push makes of what is pending; where `may_push` lets an expectation be pushed that is
--                    pending already, the list is no list of separators alone, nor becomes one
--   Acts, Looks      each action gives the facts that the analysis says; the looks that are made of looks
--   Good, Turns      what is shown of a step; a turn, a link and a call begin anew, and a turn that goes on has moved
--   Sound            the induction over programs, and over the open calls allowed: every step of a run is good
--                    (`entry_good`)
--   Given            what a good step gives to the crates above
pub mod Known
pub mod Facts
pub mod May
pub mod Look
pub mod Table
pub mod Knowing
pub mod Holds
pub mod Pushing
pub mod Acts
pub mod Looks
pub mod Good
pub mod Turns
pub mod Sound
pub mod Given
