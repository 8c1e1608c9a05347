-- The whole call: its answer, and what every lent buffer holds afterwards.
use Rattle.std.specs.Prelude.{ℕ, ◌-◌, ◌/◌, cond, ◌&&◌, List, ◌++◌, leb, eqb, length, replicate}
use Rattle.definitions.specs.Layout.{EVENT_ROW, TREE_ROW, ERROR_ROW, REPORT_ROW, MOST_OPEN_CALLS}
use Rattle.definitions.specs.Token.{Token, tokens_of, byte_count}
use Rattle.definitions.specs.Grammar.{Entry, SourceFile, ReferenceNoamp, PropValues, Cells, whole, root_kind}
use Rattle.definitions.specs.Skeleton.{no_label, Skeleton}
use Rattle.definitions.specs.Run.{taken, exec, run}
use Rattle.definitions.specs.Place.{root, lexical_errors}
use Rattle.definitions.specs.Parent.{rows, rows_under}
use Rattle.definitions.specs.Report.{Room, Fit, fits, stops, pushes, scan, reports, report_numbers, pool}
use Rattle.definitions.specs.Strict.{NameAt, reported_names, name_numbers, names_fit}
use Rattle.definitions.specs.Refusal.{Refusal, unknown_entry, too_long, odd_count, bad_kind, zero_length, past_input, short_total, bad_text, too_deep, no_event_room, no_report_room, no_tree_room, number_of, place_of, Verdict, accepted, refused}
use Rattle.definitions.specs.RowCauses.{check_input}

-- the lent buffers: events (work only), tree rows, lexical errors, reports, expectations
pub record Buffers : Type 0 where
  pub events : List ℕ
  pub trees : List ℕ
  pub errors : List ℕ
  pub reports : List ℕ
  pub pool : List ℕ

-- number, place, and the counts of tree rows, lexical errors, reports and expectations written
pub record Answer : Type 0 where
  pub number : ℕ
  pub place : ℕ
  pub tree_count : ℕ
  pub error_count : ℕ
  pub report_count : ℕ
  pub expectation_count : ℕ

pub record Result : Type 0 where
  pub answer : Answer
  pub buffers : Buffers

-- ---------------------------------------------------------------- refused

abbrev pub refusal : Refusal → Answer
refusal r = record { number = number_of r; place = place_of r; tree_count = 0; error_count = 0; report_count = 0; expectation_count = 0 }

-- causes 1 to 4 and 11 to 13: every buffer is left as it was
abbrev pub untouched : Refusal → Buffers → Result
untouched r b = record { answer = refusal r; buffers = b }

abbrev pub zeros : List ℕ → List ℕ
zeros l = replicate (length l) 0

-- causes 5 to 8: every buffer is all zero
abbrev pub cleared : Refusal → Buffers → Result
cleared r b =
    record {
      answer = refusal r;
      buffers = record {
        events = zeros b.events;
        trees = zeros b.trees;
        errors = zeros b.errors;
        reports = zeros b.reports;
        pool = zeros b.pool;
      };
    }

-- ---------------------------------------------------------------- parsed

-- from a state in which nothing is taken and nothing pending, with so many open calls allowed
unfoldable pub run_entry : Entry → List Token → Skeleton
unfolding exec run whole
run_entry e ts = (exec (run MOST_OPEN_CALLS) no_label (whole e) (taken ts)).made

-- the numbers that an accepted call writes
pub record Sheets : Type 0 where
  pub trees : List ℕ
  pub errors : List ℕ
  pub reports : List ℕ
  pub pool : List ℕ

-- l: the Names that the setting reports; their reports follow all others
unfoldable pub sheets : Entry → List Token → Skeleton → List NameAt → Sheets
unfolding root rows_under lexical_errors reports report_numbers name_numbers pool root_kind byte_count
sheets e ts o l =
    let r = reports (pushes o) in
    record {
      trees = rows (root (root_kind e) o ts);
      errors = lexical_errors 0 ts;
      reports = report_numbers (length ts) (byte_count ts) 0 r ++ name_numbers (length (pool r)) l;
      pool = pool r;
    }

-- written to the front of a buffer; the rest is zero
abbrev pub written : List ℕ → List ℕ → List ℕ
written l b = l ++ replicate (length b - length l) 0

abbrev pub kept : Sheets → Buffers → Result
kept s b =
    record {
      answer =
          record {
            number = 0;
            place = 0;
            tree_count = length s.trees / TREE_ROW;
            error_count = length s.errors / ERROR_ROW;
            report_count = length s.reports / REPORT_ROW;
            expectation_count = length s.pool;
          };
      buffers =
          record {
            events = zeros b.events;
            trees = written s.trees b.trees;
            errors = written s.errors b.errors;
            reports = written s.reports b.reports;
            pool = written s.pool b.pool;
          };
    }

-- cause 8
unfoldable pub delivered : Sheets → Buffers → Result
delivered s b =
    let good = kept s b in
    cond (leb (length s.trees) (length b.trees) && leb (length s.errors) (length b.errors)) good (cleared no_tree_room b)

-- a mark counted from the start, in a file of n tokens
unfoldable pub forward_mark : ℕ → Refusal → Refusal
forward_mark n unknown_entry = unknown_entry
forward_mark n too_long = too_long
forward_mark n (odd_count i) = odd_count i
forward_mark n (bad_kind i) = bad_kind i
forward_mark n (zero_length i) = zero_length i
forward_mark n (past_input i) = past_input i
forward_mark n (short_total i) = short_total i
forward_mark n (bad_text i) = bad_text i
forward_mark n (too_deep m) = too_deep (n - m)
forward_mark n (no_event_room m) = no_event_room (n - m)
forward_mark n (no_report_room m) = no_report_room (n - m)
forward_mark n no_tree_room = no_tree_room

-- a Name's report that does not fit is cause 7, and comes before 8
unfoldable pub unless_refused : Verdict → Sheets → Buffers → Result
unfolding delivered number_of place_of
unless_refused (refused r) s b = cleared r b
unless_refused accepted s b = delivered s b

-- causes 5 to 7, whichever the run meets first; then those Names; and then 8
unfoldable pub outcome : Fit → Entry → List Token → Skeleton → List NameAt → Buffers → Result
unfolding sheets names_fit unless_refused forward_mark number_of place_of
outcome (stops r) e ts o l b = cleared (forward_mark (length ts) r) b
outcome (fits z) e ts o l b = unless_refused (names_fit z.reports l) (sheets e ts o l) b

abbrev pub room_of : Buffers → Room
room_of b = record { events = length b.events / EVENT_ROW; reports = length b.reports / REPORT_ROW; pool = length b.pool }

-- the Names that a setting reports, of an entry's tree
abbrev pub names_of : ℕ → Entry → List ℕ → List Token → List NameAt
names_of setting e bytes ts = reported_names setting bytes (root (root_kind e) (run_entry e ts) ts)

unfoldable pub parse : Entry → ℕ → List ℕ → List Token → Buffers → Result
unfolding run_entry root root_kind reported_names pushes scan outcome
parse e setting bytes ts b =
    let o = run_entry e ts in
    let l = reported_names setting bytes (root (root_kind e) o ts) in
    outcome (scan (pushes o) (room_of b)) e ts o l b

-- ---------------------------------------------------------------- the call

pub data Asked : Type 0 where
  for : Entry → Asked
  unknown : Asked

unfoldable pub entry_of : ℕ → Asked
entry_of n =
    cond (eqb n 1) (for SourceFile) (cond (eqb n 2) (for ReferenceNoamp)
    (cond (eqb n 3) (for PropValues) (cond (eqb n 4) (for Cells) unknown)))

unfoldable pub checked : Verdict → Entry → ℕ → List ℕ → List ℕ → Buffers → Result
unfolding parse tokens_of number_of place_of
checked (refused r) e setting bytes tokens b = untouched r b
checked accepted e setting bytes tokens b = parse e setting bytes (tokens_of tokens) b

unfoldable pub asked : Asked → ℕ → List ℕ → List ℕ → Buffers → Result
unfolding checked check_input number_of place_of
asked unknown setting bytes tokens b = untouched unknown_entry b
asked (for e) setting bytes tokens b = checked (check_input bytes tokens) e setting bytes tokens b

-- entry, setting, input bytes, token numbers, and the lent buffers as they are at entry
unfoldable pub call : ℕ → ℕ → List ℕ → List ℕ → Buffers → Result
unfolding asked entry_of
call n setting bytes tokens b = asked (entry_of n) setting bytes tokens b
