-- What the proofs of the functions share, in the order of the code.
--   Hits        `longest`: what the automaton's law says of a byte range, as `Hits` has it
--   Search      the searches for a byte and of the callbacks; blanks
--   Made        from a match and a callback's answer to the token
--   Directives  a directive's words; HighBytes: groups of eight bytes, then one byte further
--   Passed      the loop over tokens: what is counted, found and written
--   Verdict     of causes 2, 9 and 10 the first; Reading: so nothing is written unless a text is sound
pub mod Hits
pub mod Search
pub mod Made
pub mod Directives
pub mod HighBytes
pub mod Passed
pub mod Verdict
pub mod Reading
