-- The answers to the two queries, proved. A map of the argument:
-- 1. One pass over the rows of a file's tree finds what the definitions list (`Found`). The rows of a source file that
--    passes the checks are sound for it: each leaf has a byte, widths add up, there are few (`SoundRows`); they are what
--    an accepted call of entry 1 leaves (`Parsed`). The code's proof cites these three.
-- 2. Each part of a tree stands among all rows as a child of the row above it, so the rows that have a byte are a chain
--    to a leaf (`Leads`), and those listed for a range are its parts (`Shared`). Leaves follow one another without a
--    gap, so no other leaf has the byte (`Carets`).
-- 3. A query ends as its parse does (`Ending`, `as_parsed`); joined with 2: `Answered` (`caret_answered`,
--    `parts_answered`). A list has no more numbers than there are rows (`Suffice`).
-- 4. What guards the statements: `Examples`, computed, with the answers that they exclude.
pub mod Found
pub mod SoundRows
pub mod Parsed
pub mod Leads
pub mod Shared
pub mod Carets
pub mod Ending
pub mod Answered
pub mod Suffice
pub mod Examples
