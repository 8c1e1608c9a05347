-- How the proof goes, in reading order.
-- 1. Pratt is expr.rs up to its first report, as a reader of symbols; it uses the definitions' tables. On symbols
--    alone: Tables and Powers lay the lines of C's table beside the binding powers, Base counts brackets over an
--    expression; what is read is well formed by C's table (Sound), what is well formed is read (Complete), and the
--    calls suffice (Enough). Bare joins these: the verdict on the symbols between two brackets, and that the tree is
--    one.
-- 2. From symbols to tokens and skeletons: Pushed, Same, Symbols; Partner finds the RParen that balances, or a report;
--    Short says how many tokens a skeleton leaves.
-- 3. The definitions' programs do what the reader does: Rules (steps of a program), Follow (what "does" means),
--    Argument, Arguments and Invocation (macro invocations), Operands, Turns, Loop (the chain of operators). Cell: so
--    `dt_expr` judges its tokens as C's table does.
-- 4. Only, Cells, Everywhere: every DtExpr that a run makes comes from `dt_expr`. Settle, Placed: in the whole run no
--    other report has a mark between the cell's brackets, since marks never decrease. JudgedNames, Unjudged: nor has
--    one of the strict setting, whose mark is a Name's first token: the Name stands before the cell or after it, or a
--    node of the cell judges it, and no node of an expression does. ReportRows, TreeRows: from rows to reports, Names
--    and nodes. Theorem: the statements, and a bracket without a partner.
-- 5. Listed, for itself: the powers are those of document 01's list.
-- 6. What guards the statements: Examples (computed), Witnesses (their premises can be met), Refutations (wrong answers
--    do not pass).
pub mod Pratt
pub mod Tables
pub mod Powers
pub mod Base
pub mod Sound
pub mod Complete
pub mod Enough
pub mod Bare
pub mod Pushed
pub mod Same
pub mod Symbols
pub mod Partner
pub mod Short
pub mod Rules
pub mod Follow
pub mod Argument
pub mod Arguments
pub mod Invocation
pub mod Operands
pub mod Turns
pub mod Loop
pub mod Cell
pub mod Only
pub mod Cells
pub mod Everywhere
pub mod Settle
pub mod Placed
pub mod JudgedNames
pub mod Unjudged
pub mod ReportRows
pub mod TreeRows
pub mod Theorem
pub mod Listed
pub mod Examples
pub mod Witnesses
pub mod Refutations
