-- What a whole walk of the machine comes to: for any tokens within the limits and any lent buffers, what `definitions`
-- says of the same entry and tokens. The exported routine's proof cites this.
use Rattle.std.specs.Prelude.{ℕ, ◌/◌, ◌≤◌, ◌<◌, ◌≡◌, false, List, [], ◌∷◌, ◌++◌, length, drop}
use Rattle.definitions.specs.Layout.{EVENT_ROW, REPORT_ROW, MOST_OPEN_CALLS, MOST_TOKENS, TWO_TO_32}
use Rattle.definitions.specs.Token.{Token, tokens_of, byte_count}
use Rattle.definitions.specs.Skeleton.{Skeleton}
use Rattle.definitions.specs.Event as Event
use Rattle.definitions.specs.Refusal.{Refusal, number_of, place_of, accepted}
use Rattle.definitions.specs.RowCauses.{check_input}
use Rattle.definitions.specs.Report.{Room, Fit, fits, stops, scan, pushes, report_numbers}
use Rattle.definitions.specs.Report as Report
use Rattle.definitions.specs.Grammar.{Entry, whole}
use Rattle.definitions.specs.Call.{forward_mark, run_entry}
use Rattle.machine.specs.Machine.{Buffer, none_pending, Machine}
use Rattle.machine.specs.Walk.{unlabelled, walk_prog}
use Rattle.machine.specs.Encode.{encode}

-- every token has at least one byte
abbrev pub NoEmptyToken : List Token → Type 0
NoEmptyToken [] = Unit {0}
NoEmptyToken (t ∷ ts) = (1 ≤ t.len) × NoEmptyToken ts

-- what the tokens must satisfy; that they pass causes 2 and 3 says more
pub record InputLimits (ts : List Token) : Type 0 where
  pub few : length ts ≤ MOST_TOKENS
  pub short : byte_count ts < TWO_TO_32
  pub none_empty : NoEmptyToken ts

-- what a skeleton must satisfy: its numbers fit 32 bits
pub record Small (o : Skeleton) : Type 0 where
  pub events_fit : length (Event.events false o) < TWO_TO_32
  pub pool_fits : length (Report.pool (Report.reports (pushes o))) < TWO_TO_32

-- nothing written yet
abbrev pub unwritten : List ℕ → Buffer
unwritten l = record { count = 0; numbers = l }

-- nothing taken, nothing pending, nothing written, nothing refused
abbrev pub fresh : List ℕ → List ℕ → List ℕ → Machine
fresh events reports pool =
    record {
      cursor = 0;
      byte = 0;
      mark = 0;
      mark_byte = 0;
      pending = none_pending;
      events = unwritten events;
      reports = unwritten reports;
      pool = unwritten pool;
      refusal = 0;
      place = 0;
    }

-- the room of the three buffers, as `room_of` counts it
abbrev pub room_in : List ℕ → List ℕ → List ℕ → Room
room_in events reports pool = record { events = length events / EVENT_ROW; reports = length reports / REPORT_ROW; pool = length pool }

-- the numbers l at the front of a buffer; the rest is as it was
abbrev pub onto : List ℕ → List ℕ → List ℕ
onto l b = l ++ drop (length l) b

-- the buffer b with the numbers l written to its front, no more than it is long
pub record StartsWith (l b : List ℕ) (x : Buffer) : Type 0 where
  pub numbers : x.numbers ≡ onto l b
  pub count : x.count ≡ length l
  pub inside : length l ≤ length b

-- events, reports, pool: what the lent buffers hold at first

-- nothing was refused: the events encode the skeleton, reports and pool are the definitions'
pub record NotRefused (ts : List Token) (o : Skeleton) (events reports pool : List ℕ) (m : Machine) : Type 0 where
  pub refusal : m.refusal ≡ 0
  pub events_hold : StartsWith (encode false o) events m.events
  pub reports_hold : StartsWith (report_numbers (length ts) (byte_count ts) 0 (Report.reports (pushes o))) reports m.reports
  pub pool_holds : StartsWith (Report.pool (Report.reports (pushes o))) pool m.pool

-- refused with the number and at the place of r
pub record Refused (ts : List Token) (r : Refusal) (m : Machine) : Type 0 where
  pub refusal : m.refusal ≡ number_of r
  pub some : 0 < m.refusal
  pub place : m.place ≡ place_of (forward_mark (length ts) r)

-- what the machine has come to, by what `scan` finds in the skeleton's pushes
abbrev pub Ends : List Token → Skeleton → List ℕ → List ℕ → List ℕ → Fit → Machine → Type 0
Ends ts o events reports pool (fits z) m = NotRefused ts o events reports pool m
Ends ts o events reports pool (stops r) m = Refused ts r m

-- THE MACHINE'S END: for every entry, every input that passes its checks, and lent buffers of any lengths and
-- contents, the machine that starts fresh comes to what `scan` says of the skeleton that `definitions` gives. If all of
-- it fits the buffers, nothing is refused, the events encode the skeleton, reports and pool are the definitions', and
-- after them each buffer is as it was. If not, the refusal's number and place are those of the first push that does not
-- fit.
abbrev pub MachineEnds : Type 0
MachineEnds =
    (e : Entry) (bytes tokens events reports pool : List ℕ) → check_input bytes tokens ≡ accepted
    → Ends (tokens_of tokens) (run_entry e (tokens_of tokens)) events reports pool
    (scan (pushes (run_entry e (tokens_of tokens))) (room_in events reports pool))
    (walk_prog MOST_OPEN_CALLS (tokens_of tokens) unlabelled (whole e) (fresh events reports pool)).on
