-- The last step before the exported contract: the machine's end, the sink's promise and that of the Names' reports,
-- joined. What they leave in the lent buffers, cleared after what is written, is the result of `parse` in
-- `definitions`. A device of the proofs, and not a part of any exported promise.
use Rattle.std.specs.Prelude.{ℕ, ◌-◌, ◌*◌, ◌/◌, ◌≤◌, ◌≡◌, List, ◌++◌, Ok, Err, length, take, replicate}
use Rattle.basics.specs.Word.{low}
use Rattle.definitions.specs.Layout.{TREE_ROW, ERROR_ROW, REPORT_ROW, MOST_OPEN_CALLS, NO_REPORT_ROOM}
use Rattle.definitions.specs.Token.{tokens_of}
use Rattle.definitions.specs.Refusal.{no_tree_room, number_of, place_of, accepted}
use Rattle.definitions.specs.RowCauses.{check_input}
use Rattle.definitions.specs.Grammar.{Entry, whole, root_kind}
use Rattle.definitions.specs.Call.{Buffers, Answer, Result, parse}
use Rattle.machine.specs.Machine.{Machine}
use Rattle.machine.specs.Walk.{unlabelled, walk_prog}
use Rattle.machine.specs.Outcome.{fresh}
use Rattle.sink.specs.Sunk.{Sunk}
use Rattle.sink.specs.Promise as Sink
use Rattle.labels.specs.Model.{Names}
use Rattle.labels.specs.Promise as Labels

-- zero from the number n on
unfoldable pub wiped : ℕ → List ℕ → List ℕ
wiped n l = take n l ++ replicate (length l - n) 0

-- events are cleared whole, every other buffer after the rows that the answer counts
abbrev pub swept : Answer → Buffers → Result
swept a b =
    record {
      answer = a;
      buffers =
          record {
            events = wiped 0 b.events;
            trees = wiped (a.tree_count * TREE_ROW) b.trees;
            errors = wiped (a.error_count * ERROR_ROW) b.errors;
            reports = wiped (a.report_count * REPORT_ROW) b.reports;
            pool = wiped a.expectation_count b.pool;
          };
    }

-- a refusal's answer
abbrev pub refused_at : ℕ → ℕ → Answer
refused_at n p = record { number = n; place = p; tree_count = 0; error_count = 0; report_count = 0; expectation_count = 0 }

-- the answer after the sink, with so many numbers of reports and so many expectations
abbrev pub sunk_answer : Sunk → ℕ → ℕ → Answer
sunk_answer (Ok w) r p =
    record { number = 0; place = 0; tree_count = w.rows; error_count = w.errors; report_count = r / REPORT_ROW; expectation_count = p }
sunk_answer (Err e) r p = refused_at (number_of no_tree_room) (place_of no_tree_room)

-- the answer after the parser, which refused nothing, the sink, and the Names' reports: 7 comes before 8
abbrev pub last_answer : Sunk → Names → Machine → Answer
last_answer s (Ok written) m = sunk_answer s written m.pool.count
last_answer s (Err e) m = refused_at NO_REPORT_ROOM e.place

-- the buffers after all of them; events and pool are as the parser left them
abbrev pub after_all : List ℕ → List ℕ → List ℕ → Machine → Buffers
after_all trees errors reports m =
    record { events = m.events.numbers; trees = trees; errors = errors; reports = reports; pool = m.pool.numbers }

-- buffers of the same lengths
pub record SameLengths (b c : Buffers) : Type 0 where
  pub events : length c.events ≡ length b.events
  pub trees : length c.trees ≡ length b.trees
  pub errors : length c.errors ≡ length b.errors
  pub reports : length c.reports ≡ length b.reports
  pub pool : length c.pool ≡ length b.pool

-- m: the parser's machine after the entry e over the tokens tokens, with the lent buffers b
abbrev pub Parsed : Entry → List ℕ → Buffers → Machine → Type 0
Parsed e tokens b m = m ≡ (walk_prog MOST_OPEN_CALLS (tokens_of tokens) unlabelled (whole e) (fresh b.events b.reports b.pool)).on

-- what the sink and the Names' reports promise, after such a run; b: the buffers at first
pub record AfterRun (setting : ℕ) (e : Entry) (bytes tokens : List ℕ) (b : Buffers) (m : Machine) (s : Sunk) (w : Names)
    (trees errors reports : List ℕ) : Type 0 where
  pub trees_length : length trees ≡ length b.trees
  pub errors_length : length errors ≡ length b.errors
  pub reports_length : length reports ≡ length b.reports
  pub sunk : Sink.Promise (root_kind e) tokens (take m.events.count m.events.numbers) b.trees b.errors s trees errors
  pub named : Labels.Promise setting (root_kind e) bytes tokens m.reports.count (low m.pool.count)
      (take m.events.count m.events.numbers) m.reports.numbers w reports

-- THE CALL'S END, for every entry and setting, every input that passes its checks, and lent buffers of any lengths
-- and contents
pub record CallEnds (setting : ℕ) (e : Entry) (bytes tokens : List ℕ) (b : Buffers) (m : Machine) : Type 0 where
  -- causes 5 to 7: whatever the buffers hold by then
  pub refused : (m.refusal ≡ 0 → ⊥) → (c : Buffers) → SameLengths b c
      → swept (refused_at m.refusal m.place) c ≡ parse e setting bytes (tokens_of tokens) b
  -- no refusal: the events lie within their buffer
  pub events_inside : m.refusal ≡ 0 → m.events.count ≤ length b.events
  -- and after the sink and the Names' reports over these events, all is as `parse` says: cause 7 or 8, or accepted
  pub ended : m.refusal ≡ 0 → (s : Sunk) (w : Names) (trees errors reports : List ℕ)
      → AfterRun setting e bytes tokens b m s w trees errors reports
      → swept (last_answer s w m) (after_all trees errors reports m) ≡ parse e setting bytes (tokens_of tokens) b

abbrev pub CallsEnd : Type 0
CallsEnd =
    (setting : ℕ) (e : Entry) (bytes tokens : List ℕ) (b : Buffers) (m : Machine) → check_input bytes tokens ≡ accepted
    → Parsed e tokens b m → CallEnds setting e bytes tokens b m
