-- Promise 1, in reading order. How the proof goes:
-- 1. Firsts: a list is walked from its start in search of the first member of which something does not hold, and there
--    is only one such first. Rows, texts and what happens in a run are all judged by this.
-- 2. The run. Steps: what is pushed (definitions) and what happens (specs/Trace.antt) are both brought to one list of
--    steps. Told: the two lists are equal, by one induction over programs. Judged: so what `scan` finds is the first of
--    what happens that is not allowed. Named: after the run, what `names_fit` finds is the first Name whose report does
--    not fit. Climbs: open calls grow one by one, so that the first too many is the 65th.
-- 3. The input. Tests: a test of the definitions decides a type of the statement. Rows and Texts: what causes 2, 3,
--    11 to 13 and 4 find. Entries: 1.
-- 4. The call. Ends: what each end of a call leaves in the buffers. Found: every way that a call goes, once, has its
--    cause and leaves the buffers so. Refusals: a cause gives what is returned, since each check finds one thing only;
--    and the two statements. Late: so input that passes the checks is answered with 0 or 5 to 8.
-- 5. Guards. Cases: computed calls on both sides of each limit. Wrong: wrong results that specs/Answered.antt rules
--    out.
pub mod Firsts
pub mod Steps
pub mod Told
pub mod Judged
pub mod Named
pub mod Climbs
pub mod Tests
pub mod Rows
pub mod Texts
pub mod Entries
pub mod Ends
pub mod Found
pub mod Refusals
pub mod Late
pub mod Cases
pub mod Wrong
