-- Document 01's table of causes, with document 02's of token rows: the refusals, their numbers and places, and the
-- checks of causes 2 and 4. Those of the rows between the two are in RowCauses.antt.
use Rattle.std.specs.Prelude.{ℕ, suc, Bool, true, false, cond, ◌&&◌, List, [], ◌∷◌, leb, length, take, drop}
use Rattle.definitions.specs.Layout.{UNKNOWN_ENTRY, TOO_LONG, ODD_COUNT, BAD_KIND, ZERO_LENGTH, BAD_END, BAD_TEXT, TOO_DEEP, NO_EVENT_ROOM, NO_REPORT_ROOM, NO_TREE_ROOM, MOST_BYTES, MOST_TOKEN_NUMBERS}
use Rattle.definitions.specs.StaticText.{static_texts, fits_text}
use Rattle.definitions.specs.Token.{Token}

-- in the order in which they are tried; a place is given where it is not always 0
pub data Refusal : Type 0 where
  unknown_entry : Refusal
  too_long : Refusal
  odd_count : ℕ → Refusal
  bad_kind : ℕ → Refusal
  zero_length : ℕ → Refusal
  past_input : ℕ → Refusal
  short_total : ℕ → Refusal
  bad_text : ℕ → Refusal
  too_deep : ℕ → Refusal
  no_event_room : ℕ → Refusal
  no_report_room : ℕ → Refusal
  no_tree_room : Refusal

unfoldable pub number_of : Refusal → ℕ
number_of unknown_entry = UNKNOWN_ENTRY
number_of too_long = TOO_LONG
number_of (odd_count i) = ODD_COUNT
number_of (bad_kind i) = BAD_KIND
number_of (zero_length i) = ZERO_LENGTH
number_of (past_input i) = BAD_END
number_of (short_total i) = BAD_END
number_of (bad_text i) = BAD_TEXT
number_of (too_deep m) = TOO_DEEP
number_of (no_event_room m) = NO_EVENT_ROOM
number_of (no_report_room m) = NO_REPORT_ROOM
number_of no_tree_room = NO_TREE_ROOM

unfoldable pub place_of : Refusal → ℕ
place_of unknown_entry = 0
place_of too_long = 0
place_of (odd_count i) = i
place_of (bad_kind i) = i
place_of (zero_length i) = i
place_of (past_input i) = i
place_of (short_total i) = i
place_of (bad_text i) = i
place_of (too_deep m) = m
place_of (no_event_room m) = m
place_of (no_report_room m) = m
place_of no_tree_room = 0

pub data Verdict : Type 0 where
  accepted : Verdict
  refused : Refusal → Verdict

-- the first refusal
infixr 20 ◌or_else◌
unfoldable pub ◌or_else◌ : Verdict → Verdict → Verdict
accepted or_else v = v
refused r or_else v = refused r

abbrev pub unless : Bool → Refusal → Verdict
unless true r = accepted
unless false r = refused r

-- cause 2
unfoldable pub check_sizes : List ℕ → List ℕ → Verdict
check_sizes bytes tokens = unless (leb (length bytes) MOST_BYTES && leb (length tokens) MOST_TOKEN_NUMBERS) too_long

-- cause 4, from row i on, with the bytes from its token on
unfoldable pub check_texts : ℕ → List ℕ → List Token → Verdict
unfolding fits_text
check_texts i bytes [] = accepted
check_texts i bytes (t ∷ ts) =
    let r = check_texts (suc i) (drop t.len bytes) ts in
    cond (fits_text static_texts t.kind (take t.len bytes)) r (refused (bad_text i))
