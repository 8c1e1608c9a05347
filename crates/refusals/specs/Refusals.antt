-- REFUSALS: document 01's table of causes, with document 02's of the strict setting, of token rows and of expectations.
-- Each of the numbers 0 to 8 and 11 to 13 is returned, with its place, if and only if its condition holds. It excludes
-- refusing everything, a limit that is one off, "does not fit" before a buffer is used up, and causes tried in another
-- order.
use Rattle.std.specs.Prelude.{ℕ, suc, ◌+◌, ◌-◌, ◌*◌, ◌≤◌, ◌<◌, ◌≡◌, ◌↔◌, List, [], ◌∷◌, length, take, drop}
use Rattle.definitions.specs.Layout.{EVENT_ROW, REPORT_ROW}
use Rattle.definitions.specs.TokenKind as K
use Rattle.definitions.specs.Token.{Token, tokens_of, byte_count}
use Rattle.definitions.specs.StaticText.{static_texts}
use Rattle.definitions.specs.Grammar.{Entry, SourceFile, ReferenceNoamp, PropValues, Cells}
use Rattle.definitions.specs.Strict.{NameAt}
use Rattle.definitions.specs.Call.{Buffers, Sheets, sheets, run_entry, names_of}
use Rattle.definitions.specs.Call as Call
use Rattle.refusals.specs.First.{Each, First}
use Rattle.refusals.specs.Trace.{Happening, call_opened, event_pushed, report_written, trace}

-- ---------------------------------------------------------------- document 01's limits

-- Written out here and below, as are entries, kinds and refusals, and not cited from the definitions: another number
-- there would otherwise change the statement with it.
abbrev pub MAX_BYTES : ℕ
MAX_BYTES = 1048576

abbrev pub MAX_NUMBERS : ℕ
MAX_NUMBERS = 131072

abbrev pub MAX_OPEN : ℕ
MAX_OPEN = 64

-- ---------------------------------------------------------------- causes 1 to 4 and 11 to 13: what passes each of them

-- 1: the entries by number
abbrev pub entry_number : Entry → ℕ
entry_number SourceFile = 1
entry_number ReferenceNoamp = 2
entry_number PropValues = 3
entry_number Cells = 4

abbrev pub Passes1 : ℕ → Entry → Type 0
Passes1 n e = entry_number e ≡ n

-- 2: the sizes
abbrev pub Sizes : List ℕ → List ℕ → Type 0
Sizes bytes tokens = (length bytes ≤ MAX_BYTES) × (length tokens ≤ MAX_NUMBERS)

abbrev pub Passes2 : ℕ → List ℕ → List ℕ → Entry → Type 0
Passes2 n bytes tokens e = Passes1 n e × Sizes bytes tokens

-- 3: the numbers are whole rows
abbrev pub WholeRows : List ℕ → Type 0
WholeRows tokens = length tokens ≡ 2 * length (tokens_of tokens)

abbrev pub Passes3 : ℕ → List ℕ → List ℕ → Entry → Type 0
Passes3 n bytes tokens e = Passes2 n bytes tokens e × WholeRows tokens

-- 11: a kind that may be input
pub data InputKind (k : ℕ) : Type 0 where
  a_token : k ≤ 60 → ¬ (k ≡ K.Unrecognized) → ¬ (k ≡ K.Name) → InputKind k
  a_lexical_error : 64 ≤ k → k ≤ 74 → InputKind k

-- 11 to 13 of a row, after other rows: its kind, its length, and its end within the input
pub record GoodRow (bytes : List ℕ) (before : List Token) (t : Token) : Type 0 where
  pub kind : InputKind t.kind
  pub not_empty : 1 ≤ t.len
  pub ends_inside : byte_count before + t.len ≤ length bytes

-- 13, last: the rows cover the input
abbrev pub Covers : List ℕ → List ℕ → Type 0
Covers bytes tokens = byte_count (tokens_of tokens) ≡ length bytes

abbrev pub Passes13 : ℕ → List ℕ → List ℕ → Entry → Type 0
Passes13 n bytes tokens e = Passes3 n bytes tokens e × Each (GoodRow bytes) (tokens_of tokens) × Covers bytes tokens

-- 4: where the table of static texts has a text for the row's kind, that is what the row's bytes are
abbrev pub RightText : List ℕ → List Token → Token → Type 0
RightText bytes before t =
    Each (λ above line. line.kind ≡ t.kind → take t.len (drop (byte_count before) bytes) ≡ line.text) static_texts

abbrev pub Passes4 : ℕ → List ℕ → List ℕ → Entry → Type 0
Passes4 n bytes tokens e = Passes13 n bytes tokens e × Each (RightText bytes) (tokens_of tokens)

-- ---------------------------------------------------------------- causes 5 to 8: the limit and the room

unfoldable pub events_in : List Happening → ℕ
events_in [] = 0
events_in (call_opened c m ∷ l) = events_in l
events_in (event_pushed m ∷ l) = suc (events_in l)
events_in (report_written c m ∷ l) = events_in l

unfoldable pub reports_in : List Happening → ℕ
reports_in [] = 0
reports_in (call_opened c m ∷ l) = reports_in l
reports_in (event_pushed m ∷ l) = reports_in l
reports_in (report_written c m ∷ l) = suc (reports_in l)

unfoldable pub expectations_in : List Happening → ℕ
expectations_in [] = 0
expectations_in (call_opened c m ∷ l) = expectations_in l
expectations_in (event_pushed m ∷ l) = expectations_in l
expectations_in (report_written c m ∷ l) = c + expectations_in l

-- What happens breaks no limit and fits: with this one the open calls are at most 64; with those before it the event
-- rows, the report rows and the expectations written are no more than their buffer holds.
abbrev pub Unrefused : Buffers → List Happening → Happening → Type 0
Unrefused b before (call_opened c m) = c ≤ MAX_OPEN
Unrefused b before (event_pushed m) = EVENT_ROW * suc (events_in before) ≤ length b.events
Unrefused b before (report_written c m) =
    (REPORT_ROW * suc (reports_in before) ≤ length b.reports) × (expectations_in before + c ≤ length b.pool)

abbrev pub happens : Entry → List ℕ → List Happening
happens e tokens = trace MAX_OPEN e (tokens_of tokens)

-- a mark counted from the start
abbrev pub from_start : List ℕ → ℕ → ℕ
from_start tokens m = length (tokens_of tokens) - m

-- the Names that a setting reports after its run, in leaf order
abbrev pub named : ℕ → Entry → List ℕ → List ℕ → List NameAt
named setting e bytes tokens = names_of setting e bytes (tokens_of tokens)

-- the report rows of the run, those of the Names before this one, and its own are no more than the buffer holds
abbrev pub NameFits : Entry → List ℕ → Buffers → List NameAt → NameAt → Type 0
NameFits e tokens b before x = REPORT_ROW * suc (reports_in (happens e tokens) + length before) ≤ length b.reports

-- 5 to 7: nothing that happens is refused, and every Name's report fits
abbrev pub Passes7 : ℕ → ℕ → List ℕ → List ℕ → Buffers → Entry → Type 0
Passes7 n setting bytes tokens b e =
    Passes4 n bytes tokens e × Each (Unrefused b) (happens e tokens)
    × Each (NameFits e tokens b) (named setting e bytes tokens)

-- what an entry's run gives to write, the reports of those Names last
abbrev pub to_write : ℕ → Entry → List ℕ → List ℕ → Sheets
to_write setting e bytes tokens = sheets e (tokens_of tokens) (run_entry e (tokens_of tokens)) (named setting e bytes tokens)

-- the tree rows and the lexical errors fit
abbrev pub TreeFits : ℕ → Entry → List ℕ → List ℕ → Buffers → Type 0
TreeFits setting e bytes tokens b =
    (length (to_write setting e bytes tokens).trees ≤ length b.trees)
    × (length (to_write setting e bytes tokens).errors ≤ length b.errors)

-- ---------------------------------------------------------------- the table

-- the first of what happens that is not allowed
abbrev pub FirstMet : Entry → List ℕ → Buffers → List Happening → Happening → Type 0
FirstMet e tokens b before x = First (Unrefused b) (happens e tokens) before x

-- the condition for each number and place, in the documents' order and words
pub data Cause (n setting : ℕ) (bytes tokens : List ℕ) (b : Buffers) : ℕ → ℕ → Type 0 where
  -- entry not 1 to 4
  unknown_entry : ¬ ((1 ≤ n) × (n ≤ 4)) → Cause n setting bytes tokens b 1 0
  -- over 1,048,576 bytes or 131,072 token numbers
  over_size : (e : Entry) → Passes1 n e → ¬ Sizes bytes tokens → Cause n setting bytes tokens b 2 0
  -- document 02, 4/14: an odd count of numbers, "tried right after 2": the count of whole rows
  odd_count : (e : Entry) → Passes2 n bytes tokens e → ¬ WholeRows tokens
      → Cause n setting bytes tokens b 3 (length (tokens_of tokens))
  -- "its own number at the first bad row, tried within a row in the order given": a bad kind
  bad_kind : (e : Entry) → Passes3 n bytes tokens e → (before : List Token) (t : Token)
      → First (GoodRow bytes) (tokens_of tokens) before t
      → ¬ InputKind t.kind → Cause n setting bytes tokens b 11 (length before)
  -- length 0
  zero_length : (e : Entry) → Passes3 n bytes tokens e → (before : List Token) (t : Token)
      → First (GoodRow bytes) (tokens_of tokens) before t
      → InputKind t.kind → t.len ≡ 0 → Cause n setting bytes tokens b 12 (length before)
  -- a token ends past the input; the sum is exact
  past_input : (e : Entry) → Passes3 n bytes tokens e → (before : List Token) (t : Token)
      → First (GoodRow bytes) (tokens_of tokens) before t
      → InputKind t.kind → 1 ≤ t.len → length bytes < byte_count before + t.len
      → Cause n setting bytes tokens b 13 (length before)
  -- "or last, with the count of rows as place, the total is short"
  short_total : (e : Entry) → Passes3 n bytes tokens e → Each (GoodRow bytes) (tokens_of tokens)
      → byte_count (tokens_of tokens) < length bytes → Cause n setting bytes tokens b 13 (length (tokens_of tokens))
  -- bytes of a kind with a static text differ from it: the first such row
  wrong_text : (e : Entry) → Passes13 n bytes tokens e → (before : List Token) (t : Token)
      → First (RightText bytes) (tokens_of tokens) before t → Cause n setting bytes tokens b 4 (length before)
  -- a 65th open call; document 02, 6/14: 5 comes from open calls only
  call_too_many : (e : Entry) → Passes4 n bytes tokens e → (before : List Happening) (m : ℕ)
      → FirstMet e tokens b before (call_opened (suc MAX_OPEN) m) → Cause n setting bytes tokens b 5 (from_start tokens m)
  -- the next event does not fit
  no_event_room : (e : Entry) → Passes4 n bytes tokens e → (before : List Happening) (m : ℕ)
      → FirstMet e tokens b before (event_pushed m) → Cause n setting bytes tokens b 6 (from_start tokens m)
  -- a report row or its expectations do not fit
  no_report_room : (e : Entry) → Passes4 n bytes tokens e → (before : List Happening) (c m : ℕ)
      → FirstMet e tokens b before (report_written c m) → Cause n setting bytes tokens b 7 (from_start tokens m)
  -- document 02, 1/14: the report of a Name does not fit; "refusal 7 with that mark, before 8", the mark being the
  -- index of the Name's first token
  no_name_room : (e : Entry) → Passes4 n bytes tokens e → Each (Unrefused b) (happens e tokens)
      → (before : List NameAt) (x : NameAt) → First (NameFits e tokens b) (named setting e bytes tokens) before x
      → Cause n setting bytes tokens b 7 x.first_token
  -- the tree or the lexical errors do not fit
  no_tree_room : (e : Entry) → Passes7 n setting bytes tokens b e
      → ¬ TreeFits setting e bytes tokens b → Cause n setting bytes tokens b 8 0
  -- accepted
  none : (e : Entry) → Passes7 n setting bytes tokens b e
      → TreeFits setting e bytes tokens b → Cause n setting bytes tokens b 0 0

-- for every call, each number with each place: returned if and only if its cause is there
abbrev pub Refusals : Type 0
Refusals =
    (n setting : ℕ) (bytes tokens : List ℕ) (b : Buffers) (number place : ℕ)
    → (((Call.call n setting bytes tokens b).answer.number ≡ number)
    × ((Call.call n setting bytes tokens b).answer.place ≡ place)) ↔ Cause n setting bytes tokens b number place
