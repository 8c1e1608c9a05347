-- How the proof goes: what the parser's machine and the sink leave, cleared, is the definitions' result (`calls_end`).
-- 1. Machine: causes 2 and 3 leave tokens within the machine's limits, and crates/bounds has that what a run makes is
--    small; so `machine_ends` of crates/machine holds of every input that passes the checks (`entry_ends`).
-- 2. Wiped: a buffer that is cleared after the numbers written to its front is what `written` of the definitions says;
--    one that is cleared whole is all zero.
-- 3. Ends: by what `scan` says. A refusal of 5 to 7 clears every buffer. Otherwise the event buffer encodes the
--    skeleton, so the sink's promise (crates/sink) holds of it: both buffers are long enough, and each holds what
--    `kept` says, or cause 8 clears them all.
-- The exported contract is then one step: `finished`, `sound_call` and their like of crates/call.
pub mod Machine
pub mod Wiped
pub mod Ends
