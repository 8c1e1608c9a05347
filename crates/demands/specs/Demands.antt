-- THE DEMANDS: the three promises, of every call of the definitions in either setting, what the strict setting
-- promises, what calls over texts promise, what was refusal 3, what queries list, that each expectation is pending
-- once, what the parents in tree rows say, and what holds beside them. Each line names the file that words it. The
-- exported routines answer as the definitions do (crates/dt_parser/src/lib.rt, text.rt, query.rt), so all of this
-- holds of them too.
use Rattle.refusals.specs.Refusals.{Refusals}
use Rattle.refusals.specs.Answered.{Answered}
use Rattle.laws.specs.Lossless.{NothingLost}
use Rattle.laws.specs.Limits.{Limits}
use Rattle.laws.specs.Once.{Once}
use Rattle.precedence.specs.Precedence.{CTable, OneTree}
use Rattle.precedence.specs.Listed.{AsListed}
use Rattle.brackets.specs.Brackets.{BracketsProper}
use Rattle.brackets.specs.Partner.{PartnerMissed}
use Rattle.recovery.specs.Recovery.{StaysLocal}
use Rattle.bounds.specs.Numbers.{RunsBounded, WordsSoFar, NumbersFit}
use Rattle.strict.specs.AsItWas.{AsItWas}
use Rattle.strict.specs.Settings.{OneStrictSetting, LeavesTreeAlone, SameRefusals, OldRefusals}
use Rattle.strict.specs.Exactly.{Exactly}
use Rattle.patterns.specs.Textbook.{Textbook}
use Rattle.lexing.specs.ByRules.{ByRules}
use Rattle.lex_table.specs.Ties.{OneRule}
use Rattle.lexing.specs.Joined.{Joined}
use Rattle.lexing.specs.RowsPass.{RowsPass}
use Rattle.texts.specs.Plain.{AcceptedIsPlain}
use Rattle.texts.specs.TextRefusals.{TextRefusals}
use Rattle.texts.specs.TextAnswered.{TextAnswered}
use Rattle.texts.specs.TextsLocal.{TextsStayLocal}
use Rattle.row_causes.specs.ToldApart.{ToldApart}
use Rattle.queries.specs.AsParsed.{AsParsed, RowsSuffice}
use Rattle.queries.specs.UnderCaret.{CaretAnswered}
use Rattle.queries.specs.PartsListed.{PartsAnswered}
use Rattle.parents.specs.Upwards.{Parents}
use Rattle.parents.specs.Before.{OnlyParentsNew}
use Rattle.run_steps.specs.Signs.{Complete}
use Rattle.turns.specs.Turns.{Turns}
use Rattle.pending.specs.AsBefore.{AsBefore}

-- PROMISE 1. Every call, with any bytes and numbers, gets a tree with its reports or one of the listed refusals,
-- each under its listed condition only, and every lent buffer then holds what document 01 says.
pub record Promise1 : Type 0 where
  -- By the number, which is 0 to 8 or 11 to 13: the buffers are written and then zero, as they were, or all zero; a
  -- refusal's counts are 0.
  -- refusals/specs/Answered.antt.
  pub answered : Answered
  -- Each of 0 to 8 and 11 to 13 with its place, if and only if its line of document 01's table, or document 02's line
  -- on Names or on rows, applies.
  -- refusals/specs/Refusals.antt, over Trace.antt.
  pub refusals : Refusals

-- PROMISE 2. What a theorem can say of it: that the definitions do what the Rust does is read and tested
-- (docs/READING.md).
pub record Promise2 : Type 0 where
  -- The leaves in order are the tokens, each width is the sum below it, the lexical errors are the error tokens in
  -- order.
  -- laws/specs/Lossless.antt, over TreeRows.antt.
  pub nothing_lost : NothingLost
  -- The tokens between a cell's bracket and its partner are read as the tree that C's table gives, or there is a
  -- report. precedence/specs/Precedence.antt, over definitions/specs/C.antt.
  pub c_table : CTable
  -- C's table gives one tree only.
  pub one_tree : OneTree
  -- A bracket that starts a cell starts a DtExpr, of which the two lines above speak; and no LParen stands where none
  -- can.
  -- brackets/specs/Brackets.antt.
  pub brackets_proper : BracketsProper
  -- Where no RParen balances a cell's bracket, an error is reported. brackets/specs/Partner.antt.
  pub partner_missed : PartnerMissed

-- PROMISE 3. Two accepted source files that agree after a semicolon ending a top-level property, node or directive
-- agree in all later parts, lexical errors and reports, once places and row numbers are moved: two calls in the same
-- setting.
-- recovery/specs/Recovery.antt, over ResultRows.antt.
pub record Promise3 : Type 0 where
  pub stays_local : StaysLocal

-- THE STRICT SETTING, document 02's request 1/14.
pub record Strict : Type 0 where
  -- Setting 0 is the call as it was before. strict/specs/AsItWas.antt.
  pub as_it_was : AsItWas
  -- Every other number is one setting. It leaves tree, lexical errors and the other reports alone; a refusal other than
  -- 7 is the old setting's, and of the old setting's only 8 may become 7. strict/specs/Settings.antt.
  pub one_strict_setting : OneStrictSetting
  pub leaves_tree_alone : LeavesTreeAlone
  pub same_refusals : SameRefusals
  pub old_refusals : OldRefusals
  -- The reports that it adds are exactly those of the judged Names that break the rule, in leaf order, once each.
  -- strict/specs/Exactly.antt.
  pub exactly : Exactly

-- TEXTS, document 02's request 2/14.
pub record Texts : Type 0 where
  -- Which texts fit a pattern is what a textbook says. patterns/specs/Textbook.antt.
  pub textbook : Textbook
  -- The tokens of a text are what lexer.rs' rules give, by the longest match, and no other list is.
  -- lexing/specs/ByRules.antt.
  pub by_rules : ByRules
  -- No text fits two rules, so their order decides nothing. lex_table/specs/Ties.antt.
  pub one_rule : OneRule
  -- Joined, the tokens give back the input. lexing/specs/Joined.antt.
  pub joined : Joined
  -- Their rows pass the checks of a call's input. lexing/specs/RowsPass.antt.
  pub rows_pass : RowsPass
  -- Promise 1: each refusal of a call over a text, with its place, if and only if its cause applies; never 3, 4 or 11
  -- to 13. By the number, every buffer is as it was, all zero, or written and then zero; all else is the call over the
  -- tokens.
  -- texts/specs/TextRefusals.antt, TextAnswered.antt.
  pub text_refusals : TextRefusals
  pub text_answered : TextAnswered
  -- An accepted text has no byte above 127 and no directive at a token start. texts/specs/Plain.antt.
  pub accepted_is_plain : AcceptedIsPlain
  -- Promise 3: two accepted texts whose bytes agree after such a semicolon; nothing is asked of their tokens.
  -- texts/specs/TextsLocal.antt.
  pub texts_stay_local : TextsStayLocal

-- ROW CAUSES, document 02's request 4/14. Each cause with its number and place is in promise 1.
pub record RowCauses : Type 0 where
  -- A call is refused with 3, 11, 12 or 13 exactly if it was refused with 3 before, at the same place but for an odd
  -- count after a bad row; every other call is answered as it was. row_causes/specs/ToldApart.antt, over Before.antt.
  pub told_apart : ToldApart

-- THE TWO QUERIES, document 02's request 5/14.
pub record Queries : Type 0 where
  -- Both parse first: any query is refused as the parse of its file is, or with 8 where its list does not fit; all
  -- else is what the parse leaves. A list for as many numbers as there are tree rows always fits.
  -- queries/specs/AsParsed.antt.
  pub as_parsed : AsParsed
  pub rows_suffice : RowsSuffice
  -- The rows under the caret are the one chain from the root to the leaf that owns the offset, and no other leaf does;
  -- at the file's end to the last leaf. queries/specs/UnderCaret.antt, over rows/specs/RowTree.antt.
  pub caret_answered : CaretAnswered
  -- A top-level part is listed exactly if it shares a byte with the range, in order and once.
  -- queries/specs/PartsListed.antt.
  pub parts_answered : PartsAnswered

-- Document 02's request 6/14: each expectation once.
pub record Expectations : Type 0 where
  -- At every moment of every run each pending expectation is a kind or one of the others, and none is pending twice, so
  -- that there are at most 69; and so are the expectations of each report. laws/specs/Once.antt.
  pub once : Once
  -- Tree, events and reports are as they were, each list without its repeats; ranges too. It is the run with the Rust's
  -- list. pending/specs/AsBefore.antt.
  pub as_before : AsBefore

-- Document 02's request 7/14: the parent in every tree row. How the parents of later rows move is in promise 3.
pub record TreeParents : Type 0 where
  -- The root names itself, and every other row an earlier row whose subtree holds it; the way up ends at the root.
  -- Parents and child counts say the same tree, and either gives the other back. parents/specs/Upwards.antt, over
  -- rows/specs/RowTree.antt.
  pub parents : Parents
  -- The other four numbers of each row are what they were. parents/specs/Before.antt.
  pub only_parents_new : OnlyParentsNew

-- What holds beside the promises, of the definitions and of all that the code can meet.
pub record Beside : Type 0 where
  -- In an accepted call at most 64 calls are open, at every moment of its run. laws/specs/Limits.antt.
  pub limits : Limits
  -- A run makes at most a fixed multiple of the number of its tokens, of events, reports, expectations and tree rows; a
  -- setting reports at most one Name for each token; and no number of a call passes 32 bits.
  -- bounds/specs/Numbers.antt.
  pub runs_bounded : RunsBounded
  pub words_so_far : WordsSoFar
  pub numbers_fit : NumbersFit
  -- The definitions' clauses for a turn that does not move, a take at the end of input and a failed assertion are never
  -- used.
  -- turns/specs/Turns.antt, over run_steps/specs/Steps.antt.
  pub turns : Turns
  -- The steps of which the line above speaks leave out no report and no refusal 5.
  -- run_steps/specs/Signs.antt.
  pub steps_complete : Complete
  -- Document 02's request 3/14 changes no answer: the binding powers that are worked out are those of document 01's
  -- list, and every call's run is what it is with the list. precedence/specs/Listed.antt.
  pub as_listed : AsListed

pub record Demands : Type 0 where
  pub promise_1 : Promise1
  pub promise_2 : Promise2
  pub promise_3 : Promise3
  pub strict : Strict
  pub texts : Texts
  pub row_causes : RowCauses
  pub queries : Queries
  pub expectations : Expectations
  pub tree_parents : TreeParents
  pub beside : Beside
