-- HOW THE PROOFS GO. Crate facts shows of every step that it is good (`entry_good` of its Sound.antt): a program begins
-- where facts hold under which it may, and a turn that answers again has moved. Here each of the statement's four
-- fields is read off a good step.
--   Turns     the statement: what a good step gives, field by field. For an `assert!`, the program is told by its form
--             (`needs` of facts) and the kind that it asks for is one of the facts.
--   Examples  runs that come to what the statement speaks of (turns and links that go on, the five programs that
--             assert), and steps that it refuses (a stalled turn, a token taken at the end, an assertion that fails)
-- A change of the grammar is checked in facts, by Table.antt: a loop that may stall, a token that may be taken at the
-- end or an assertion that may fail is refused there, at `calls_hold`, `wide_holds` or `whole_looks`.
pub mod Turns
pub mod Examples
