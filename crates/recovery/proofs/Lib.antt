-- The third promise, proved. A map of the argument:
-- 1. A run that ends with a statement that ends with its own semicolon is sealed: it stands right after that token,
--    and nothing is pending, passed over or reported since. `Analysis` computes this of the grammar's programs.
--    `Told`, `Going` and `Meaning` say what it computes of runs; `Actions`, `Markers` and `Sound` prove it for each
--    action, each marker and each program (`run_claimed`).
-- 2. So the source file's loop starts afresh after such a semicolon: what the turns after it make is what the later
--    tokens make by themselves (`Turns`).
-- 3. From rows to trees: what an accepted file wrote (`Written`), and that a semicolon found in its rows is one of
--    its tree (`Cut`).
-- 4. Reports have places inside the file, counted from the end (`Inside`), and the Names that the strict setting
--    reports after the semicolon are those that the later tokens have by themselves, moved (`NamesApart`). So one
--    file can be taken apart at the semicolon (`Tail`, `tail`).
-- 5. Two files: which errors and reports are later, and how they move (`LaterErrors`, `LaterReports`, `LaterNames`),
--    and how the parents of the later rows do (`LaterRows`); all joined: `Local`, `stays_local`.
-- 6. What guards the statement: `Examples` (computed), `Witnesses` (its premises can be met), `Refutations` (wrong
--    rows do not pass).
pub mod Analysis
pub mod Told
pub mod Going
pub mod Meaning
pub mod Actions
pub mod Markers
pub mod Sound
pub mod Turns
pub mod Written
pub mod Cut
pub mod NamesApart
pub mod Inside
pub mod Tail
pub mod LaterErrors
pub mod LaterReports
pub mod LaterNames
pub mod LaterRows
pub mod Local
pub mod Examples
pub mod Witnesses
pub mod Refutations
