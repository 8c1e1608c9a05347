-- NUMBERS FIT. A run makes at most a fixed multiple of the number of its tokens: of events, reports, expectations and
-- tree rows, and with them child counts, first pool places and distances between events; and a setting reports at most
-- one Name for each token. Within cause 2's limits
-- (65,536 tokens, 1,048,576 bytes) every number that a call writes is therefore below 2^32, however long the lent
-- buffers are.
use Rattle.std.specs.Prelude.{ℕ, ◌+◌, ◌*◌, ◌≤◌, ◌<◌, ◌≡◌, false, List, [], ◌∷◌, ◌++◌, length}
use Rattle.definitions.specs.Layout.{EVENT_ROW, TREE_ROW, REPORT_ROW, TWO_TO_32, MOST_BYTES, MOST_TOKENS}
use Rattle.definitions.specs.Token.{Token, byte_count}
use Rattle.definitions.specs.Grammar.{Entry, root_kind}
use Rattle.definitions.specs.Event.{Event, StartNode, AddToken, AddCombinedToken, FinishNode, Placeholder, Error, events}
use Rattle.definitions.specs.Place.{Tree, nil, leaf, subtree, root, count}
use Rattle.definitions.specs.Parent.{rows}
use Rattle.definitions.specs.Report.{Push, pushes, reports, report_numbers, pool}
use Rattle.definitions.specs.Strict.{NameAt}
use Rattle.definitions.specs.Call.{Buffers, Answer, Result, run_entry, names_of, call}
use Rattle.laws.specs.Pushes.{event_count}

-- ---------------------------------------------------------------- for n tokens

abbrev pub most_events : ℕ → ℕ
most_events n = 13 * n + 1

abbrev pub most_reports : ℕ → ℕ
most_reports n = 3 * n + 1

-- 69 in each report
abbrev pub most_expectations : ℕ → ℕ
most_expectations n = 207 * n + 69

-- leaves and nodes, the root's row too
abbrev pub most_rows : ℕ → ℕ
most_rows n = 6 * n + 1

-- an event's own numbers: a kind below 256, a distance of at most d events, a name of at most n raw tokens
abbrev pub EventFits : ℕ → ℕ → Event → Type 0
EventFits d n (StartNode k f) = (k < 256) × (f ≤ d)
EventFits d n AddToken = Unit {0}
EventFits d n (AddCombinedToken c) = c ≤ n
EventFits d n FinishNode = Unit {0}
EventFits d n Placeholder = Unit {0}
EventFits d n Error = Unit {0}

abbrev pub AllFit : ℕ → ℕ → List Event → Type 0
AllFit d n [] = Unit {0}
AllFit d n (x ∷ l) = EventFits d n x × AllFit d n l

-- each node has at most m children, and each leaf at most m raw tokens
abbrev pub CountsWithin : ℕ → Tree → Type 0
CountsWithin m nil = Unit {0}
CountsWithin m (leaf k ts f) = (length ts ≤ m) × CountsWithin m f
CountsWithin m (subtree k c f) = (count c ≤ m) × CountsWithin m c × CountsWithin m f

-- Names that a setting reports, in a file of n tokens and b bytes: each begins with one of the tokens and ends within
-- the bytes
abbrev pub NamesWithin : ℕ → ℕ → List NameAt → Type 0
NamesWithin n b [] = Unit {0}
NamesWithin n b (x ∷ l) = (x.first_token < n) × (x.start ≤ x.end) × (x.end ≤ b) × NamesWithin n b l

-- ---------------------------------------------------------------- a run

-- for the entry e and the tokens ts, whether the run is refused or not
pub record Bounded (e : Entry) (ts : List Token) : Type 0 where
  -- all its events, and the numbers in them
  pub all_events : length (events false (run_entry e ts)) ≤ most_events (length ts)
  pub distances : AllFit (most_events (length ts)) (length ts) (events false (run_entry e ts))
  -- its pushes, and any first pushes l of them: so also what a run has made when it is refused
  pub events_so_far : (l m : List Push) → pushes (run_entry e ts) ≡ l ++ m → event_count l ≤ most_events (length ts)
  pub reports_so_far : (l m : List Push) → pushes (run_entry e ts) ≡ l ++ m → length (reports l) ≤ most_reports (length ts)
  pub pool_so_far : (l m : List Push) → pushes (run_entry e ts) ≡ l ++ m
      → length (pool (reports l)) ≤ most_expectations (length ts)
  -- the numbers of its tree rows, and the counts in them
  pub tree_rows : length (rows (root (root_kind e) (run_entry e ts) ts)) ≤ TREE_ROW * most_rows (length ts)
  pub counts : CountsWithin (most_rows (length ts)) (root (root_kind e) (run_entry e ts) ts)
  -- the Names that a setting reports: at most one for each token
  pub names : (setting : ℕ) (bytes : List ℕ) → length (names_of setting e bytes ts) ≤ length ts
  pub names_inside : (setting : ℕ) (bytes : List ℕ)
      → NamesWithin (length ts) (byte_count ts) (names_of setting e bytes ts)

-- every run
abbrev pub RunsBounded : Type 0
RunsBounded = (e : Entry) (ts : List Token) → Bounded e ts

-- ---------------------------------------------------------------- within cause 2's limits

-- every number of a list is below a limit
abbrev pub Below : ℕ → List ℕ → Type 0
Below n [] = Unit {0}
Below n (x ∷ l) = (x < n) × Below n l

pub record WithinLimits (ts : List Token) : Type 0 where
  pub tokens : length ts ≤ MOST_TOKENS
  pub input : byte_count ts ≤ MOST_BYTES

-- when a run has made the pushes l: how many numbers were written, and that they are words themselves
pub record SoFar (ts : List Token) (l : List Push) : Type 0 where
  pub events_written : EVENT_ROW * event_count l < TWO_TO_32
  pub reports_written : REPORT_ROW * length (reports l) < TWO_TO_32
  pub pool_written : length (pool (reports l)) < TWO_TO_32
  pub report_words : Below TWO_TO_32 (report_numbers (length ts) (byte_count ts) 0 (reports l))
  pub pool_words : Below TWO_TO_32 (pool (reports l))

-- for every entry, and any first pushes l of its run
abbrev pub WordsSoFar : Type 0
WordsSoFar =
    (e : Entry) (ts : List Token) → WithinLimits ts → (l m : List Push) → pushes (run_entry e ts) ≡ l ++ m → SoFar ts l

-- every number in a call's buffers
pub record Words (b : Buffers) : Type 0 where
  pub events : Below TWO_TO_32 b.events
  pub trees : Below TWO_TO_32 b.trees
  pub errors : Below TWO_TO_32 b.errors
  pub reports : Below TWO_TO_32 b.reports
  pub pool : Below TWO_TO_32 b.pool

-- every number of a call's answer
pub record AnswerFits (a : Answer) : Type 0 where
  pub number : a.number < TWO_TO_32
  pub place : a.place < TWO_TO_32
  pub tree_count : a.tree_count < TWO_TO_32
  pub error_count : a.error_count < TWO_TO_32
  pub report_count : a.report_count < TWO_TO_32
  pub expectation_count : a.expectation_count < TWO_TO_32

pub record Fits (r : Result) : Type 0 where
  pub answer : AnswerFits r.answer
  pub buffers : Words r.buffers

-- for any entry, setting, input and buffers that hold words: of any length, and whatever the call answers
abbrev pub NumbersFit : Type 0
NumbersFit = (n setting : ℕ) (bytes tokens : List ℕ) (b : Buffers) → Words b → Fits (call n setting bytes tokens b)
