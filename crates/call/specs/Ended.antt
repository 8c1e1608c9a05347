-- What is left after a parse. No part of the exported promise.
use Rattle.std.specs.Prelude.{ℕ, ◌*◌, ◌/◌, ◌<◌, ◌≡◌, cond, eqb, take, Option, None, Some, Result, Ok, Err}
use Rattle.basics.specs.Word.{low}
use Rattle.definitions.specs.Layout.{TREE_ROW, ERROR_ROW, REPORT_ROW, NO_REPORT_ROOM, NO_TREE_ROOM, TWO_TO_64}
use Rattle.definitions.specs.Call.{Buffers}
use Rattle.definitions.specs.Call as Call
use Rattle.machine.specs.Machine.{Machine}
use Rattle.sink.specs.Sunk.{Sunk}
use Rattle.sink.specs.Promise as Sink
use Rattle.labels.specs.Model.{Names}
use Rattle.labels.specs.Promise as Labels
use Rattle.refinement.specs.Ends.{swept, SameLengths}
use Rattle.call.specs.declared.Answer.{Answer}
use Rattle.call.specs.declared.lent.Input.{Input}
use Rattle.call.specs.declared.outcome.Filled.{Filled}
use Rattle.call.specs.declared.outcome.Refusal.{Refusal}
use Rattle.call.specs.declared.outcome.Ran.{Ran}
use Rattle.call.specs.Result.{answer_of}

-- a refused answer, and an accepted one
abbrev pub refused_with : ℕ → ℕ → Answer
refused_with n p = record { number = n; place = p; tree_count = 0; error_count = 0; report_count = 0; expectation_count = 0 }

abbrev pub accepted_with : ℕ → ℕ → ℕ → ℕ → Answer
accepted_with t e r n = record { number = 0; place = 0; tree_count = t; error_count = e; report_count = r; expectation_count = n }

abbrev pub answer_from : Result Answer Refusal → Answer
answer_from (Ok a) = a
answer_from (Err r) = refused_with r.number r.place

-- what a run filled if nothing was refused, or the refusal
abbrev pub unless : Option Refusal → Filled → Result Filled Refusal
unless None w = Ok w
unless (Some s) w = Err s

abbrev pub how_ended : Ran → Result Filled Refusal
how_ended r = unless r.refused r.filled

-- by what the sink says, with so many numbers of reports and so many expectations
abbrev pub sunk_with : Sunk → ℕ → ℕ → Answer
sunk_with (Ok w) r n = accepted_with w.rows w.errors (r / REPORT_ROW) n
sunk_with (Err e) r n = refused_with NO_TREE_ROOM 0

-- and by what the reports of the setting's Names come to: 7 comes before 8
abbrev pub named_with : Sunk → Names → ℕ → Answer
named_with s (Ok written) n = sunk_with s written n
named_with s (Err e) n = refused_with NO_REPORT_ROOM e.place

-- the answer's counts are not large numbers
pub record CountsFit (a : Answer) : Type 0 where
  pub trees : a.tree_count * TREE_ROW < TWO_TO_64
  pub errors : a.error_count * ERROR_ROW < TWO_TO_64
  pub reports : a.report_count * REPORT_ROW < TWO_TO_64

-- The sink and the Names' reports follow a run that wrote so much. root_kind: that of the root's node. b, c: what the
-- buffers hold before, and after it.
pub record AnswerOfRun (root_kind : ℕ) (w : Filled) (input : Input) (b : Buffers) (a : Answer) (c : Buffers) : Type 0 where
  pub sunk : Sunk
  pub names : Names
  pub placed : Sink.Promise root_kind input.tokens.now (take w.events b.events) b.trees b.errors sunk c.trees c.errors
  pub named : Labels.Promise input.setting root_kind input.bytes.now input.tokens.now w.reports (low w.pool)
      (take w.events b.events) b.reports names c.reports
  pub answer : a ≡ named_with sunk names w.pool
  pub counts_fit : CountsFit a

-- the run was refused, or these follow it
pub record AnswerOfParse (root_kind : ℕ) (r : Result Filled Refusal) (input : Input) (b : Buffers) (a : Answer) (c : Buffers) : Type 0 where
  pub stopped : (s : Refusal) → r ≡ Err s → a ≡ refused_with s.number s.place
  pub ran : (w : Filled) → r ≡ Ok w → AnswerOfRun root_kind w input b a c
  pub counts_fit : CountsFit a
  pub events : c.events ≡ b.events
  pub pool : c.pool ≡ b.pool

-- the result x: such an answer, and the buffers cleared after the rows that it counts; b: what they held before
pub record Ended (root_kind : ℕ) (r : Result Filled Refusal) (input : Input) (b : Buffers) (x : Call.Result) : Type 0 where
  pub answer : Answer
  pub left : Buffers
  pub same_lengths : SameLengths b left
  pub of_parse : AnswerOfParse root_kind r input b answer left
  pub once_cleared : swept (answer_of answer) left ≡ x

-- how a run ended whose machine is then m
abbrev pub run_of : Machine → Result Filled Refusal
run_of m =
    cond (eqb m.refusal 0) (Ok (record { events = m.events.count; reports = m.reports.count; pool = m.pool.count }))
    (Err (record { number = m.refusal; place = m.place }))
