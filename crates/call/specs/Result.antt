-- The exported call's answer and the lent buffers, in the terms of `definitions`.
use Rattle.std.specs.Prelude.{ℕ, ◌≡◌, List, length}
use Rattle.std.specs.Borrow.{MutBor}
use denote.Triple.Both.{Both}
use Rattle.definitions.specs.Call.{Buffers, Result}
use Rattle.definitions.specs.Call as Call
use Rattle.definitions.specs.Text.{TextResult}
use Rattle.definitions.specs.Caret.{ListResult}
use Rattle.call.specs.declared.Answer.{Answer}
use Rattle.call.specs.declared.text.TextAnswer.{TextAnswer}
use Rattle.call.specs.declared.list.ListAnswer.{ListAnswer}
use Rattle.call.specs.declared.lent.Buffers.{Buffers as LentBuffers}

-- the numbers of an answer
abbrev pub answer_of : Answer → Call.Answer
answer_of a =
    record {
      number = a.number;
      place = a.place;
      tree_count = a.tree_count;
      error_count = a.error_count;
      report_count = a.report_count;
      expectation_count = a.expectation_count;
    }

-- a lent slice of numbers, as a contract has it
abbrev pub Lent : Type 0
Lent = Both (MutBor (List ℕ)) (MutBor (List ℕ))

-- what the lent buffers hold: events, tree rows, lexical errors, reports, expectations
abbrev pub buffers_of : List ℕ → List ℕ → List ℕ → List ℕ → List ℕ → Buffers
buffers_of events trees errors reports pool = record { events = events; trees = trees; errors = errors; reports = reports; pool = pool }

-- the same of the buffers that a function was lent, at its entry and at its exit
abbrev pub at_entry : Lent → Lent → Lent → Lent → Lent → Buffers
at_entry events trees errors reports pool =
    buffers_of events.entry.now trees.entry.now errors.entry.now reports.entry.now
    pool.entry.now

abbrev pub at_exit : Lent → Lent → Lent → Lent → Lent → Buffers
at_exit events trees errors reports pool =
    buffers_of events.exit.now trees.exit.now errors.exit.now reports.exit.now pool.exit.now

-- and of buffers that are passed on together
abbrev pub held : LentBuffers → Buffers
held b = buffers_of b.events.now b.trees.now b.errors.now b.reports.now b.pool.now

-- these are the same slices, each as long as before, whatever they hold
pub record SameSlices (b c : LentBuffers) : Type 0 where
  pub events : c.events.ghost_name ≡ b.events.ghost_name
  pub trees : c.trees.ghost_name ≡ b.trees.ghost_name
  pub errors : c.errors.ghost_name ≡ b.errors.ghost_name
  pub reports : c.reports.ghost_name ≡ b.reports.ghost_name
  pub pool : c.pool.ghost_name ≡ b.pool.ghost_name
  pub events_length : length c.events.now ≡ length b.events.now
  pub trees_length : length c.trees.now ≡ length b.trees.now
  pub errors_length : length c.errors.now ≡ length b.errors.now
  pub reports_length : length c.reports.now ≡ length b.reports.now
  pub pool_length : length c.pool.now ≡ length b.pool.now

-- an answer, and what the buffers hold with it
abbrev pub result_of : Answer → Buffers → Result
result_of a b = record { answer = answer_of a; buffers = b }

-- the same of a call over a text: its answer, what the buffer of token rows holds, and the others
abbrev pub text_result_of : TextAnswer → List ℕ → Buffers → TextResult
text_result_of a tokens b =
    record { answer = answer_of a.answer; token_count = a.token_count; tokens = tokens; buffers = b }

-- the same of a query: its answer, what the list's buffer holds, and the others
abbrev pub list_result_of : ListAnswer → List ℕ → Buffers → ListResult
list_result_of a list b =
    record { answer = answer_of a.answer; list_count = a.list_count; list = list; buffers = b }
