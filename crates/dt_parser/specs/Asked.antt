-- The entries by number, in the terms of `definitions`. No part of the exported promise.
use Rattle.std.specs.Prelude.{ℕ, ◌*◌, cond, eqb, List, length, take, Option, Some, None}
use Rattle.definitions.specs.Token.{tokens_of}
use Rattle.definitions.specs.Lex.{lex_after, lex}
use Rattle.definitions.specs.Call as Call
use Rattle.definitions.specs.Call.{Buffers, for, unknown}
use Rattle.definitions.specs.Text.{TextResult, TextVerdict, sound, unsound, unchanged, with_rows, text_number, text_place, check_text, numbers_of}
use Rattle.grammar.specs.declared.entry.Entrypoint.{Entrypoint}
use Rattle.grammar.specs.Subprograms.{entry_for}
use Rattle.definitions.specs.Layout.{TREE_ROW}
use Rattle.rows.specs.OnePass.{tree_rows_of, found}
use Rattle.caret.specs.declared.Query.{Query}
use Rattle.caret.specs.Asked.{query_of}
use Rattle.parser.specs.declared.Refused.{Refused}
use Rattle.grammar.specs.declared.entry.Run.{Run}
use Rattle.call.specs.declared.outcome.Filled.{Filled}
use Rattle.call.specs.declared.outcome.Refusal.{Refusal}
use Rattle.call.specs.declared.outcome.Ran.{Ran}
use Rattle.call.specs.declared.Answer.{Answer}
use Rattle.call.specs.declared.lent.Input.{Input}
use Rattle.call.specs.declared.lent.Buffers.{Buffers as LentBuffers}

-- the entry that a number asks for
abbrev pub asked_of : Option Entrypoint → Call.Asked
asked_of (Some e) = for (entry_for e)
asked_of None = unknown

-- how a run ended: what it filled, and why it stopped
abbrev pub filled_by : Run → Filled
filled_by r = record { events = r.events_written; reports = r.reports_written; pool = r.pool_written }

abbrev pub stopped_by : Refused → Option Refusal
stopped_by s = cond (eqb s.number 0) None (Some (record { number = s.number; place = s.place.0 }))

abbrev pub ended_as : Run → Ran
ended_as r = record { filled = filled_by r; refused = stopped_by r.refused }

-- the parse of an input for an entry, and the lent buffers as they are at entry
abbrev pub parse_of : Entrypoint → Input → Buffers → Call.Result
parse_of e input b = Call.parse (entry_for e) input.setting input.bytes.now (tokens_of input.tokens.now) b

-- the rows that a query lists, of a text of so many bytes, in what an accepted parse wrote
abbrev pub rows_listed : Query → Answer → ℕ → LentBuffers → List ℕ
rows_listed q a size b = found (query_of q) size (tree_rows_of (take (a.tree_count * TREE_ROW) b.trees.now))

-- a call over a text for an entry, once it is checked: the definitions' call after rows that pass every check
unfoldable pub entry_checked : TextVerdict → Entrypoint → ℕ → List ℕ → List ℕ → List ℕ → Buffers → TextResult
unfolding with_rows text_number text_place tokens_of
entry_checked (unsound r) e setting bytes rows tokens b = unchanged r tokens b
entry_checked sound e setting bytes rows tokens b =
    with_rows rows tokens (Call.parse (entry_for e) setting bytes (tokens_of rows) b)

unfoldable pub entry_text : Entrypoint → ℕ → List ℕ → List ℕ → Buffers → TextResult
unfolding entry_checked check_text numbers_of lex_after
entry_text e setting bytes tokens b =
    entry_checked (check_text bytes (lex bytes) (length tokens)) e setting bytes (numbers_of (lex bytes)) tokens b
