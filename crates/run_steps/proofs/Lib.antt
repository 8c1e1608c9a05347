-- HOW THE PROOFS GO. Steps (specs/Steps.antt) are read off a run as `Run.exec` goes through a program, so what a run
-- makes and its steps are compared piece by piece: one induction over programs, loops, chains and open calls.
--   Complete  the steps leave out no report and no refusal 5. `Tells`: the signs of some steps are those of what was
--             made. Kept by joining (`tells_add`) and by closing a marker (`closed_signs`), and true of each action
--             (`act_tells`). In a chain, what was made before a link stands before it in what is pushed (`Under`,
--             `link_tells`).
--   Examples  signs computed: a report with its numbers, and refusal 5
-- What holds at each step is shown in crate facts, and said in crates turns and pending.
pub mod Complete
pub mod Examples
