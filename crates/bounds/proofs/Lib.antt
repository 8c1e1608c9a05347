-- HOW THE PROOFS GO.
-- 1. What is counted has a price: a token or name, a marker, a report; each token that the cursor passes brings credit
--    (Cost, `Price`). An analysis that the checker computes gives a program's bill: for each answer and what is then
--    known, at most how much it costs beyond what its tokens bring. Row and RowLaws: the numbers of a bill, put
--    together. Cost: the bill of each action and program.
-- 2. The analysis is sound, once for all programs: Paid says what a bill's number means of a run; Turns and Chains, for
--    loops and chains, whose turns pay for themselves; CostSound, every program, over CostActs, each action;
--    CostRuns, every counted call and every entry.
-- 3. Tables: the bills of the four counted functions, and that the grammar keeps to them, by `refl`, for events,
--    reports and nodes. Counts draws from them: at most so many events, reports and nodes a token.
-- 4. Beside the counts: Codes and CodedRuns, every node kind, message and hint that a run makes is below 256; Pools, at
--    most 69 expectations in a report and each below 256, from crates/laws.
-- 5. What is written: Events, the numbers of event rows; TreeRows, how many tree rows and what is in them; Written,
--    reports and lexical errors; Places, the place of a refusal; StrictNames, what the strict setting adds to the
--    reports. Numbers joins them to the statements of specs/Numbers.antt. Witnesses: its premises can be met.
--    Refutations: wrong answers do not pass.
pub mod Row
pub mod RowLaws
pub mod Cost
pub mod Paid
pub mod Turns
pub mod Chains
pub mod CostSound
pub mod CostActs
pub mod CostRuns
pub mod Tables
pub mod Counts
pub mod Codes
pub mod CodedRuns
pub mod Pools
pub mod Events
pub mod TreeRows
pub mod Written
pub mod Places
pub mod StrictNames
pub mod Numbers
pub mod Witnesses
pub mod Refutations
