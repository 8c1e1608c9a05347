-- The literal machine: the code's state in numbers, the lent buffers whole, and what each primitive of the crate
-- `parser` does to them. It is used in proofs only: code is held to it function by function, and one theorem holds
-- it to `definitions`.
use Rattle.std.specs.Prelude.{ℕ, ◌+◌, ◌-◌, ◌/◌, Bool, cond, ◌&&◌, List, [], ◌∷◌, ◌++◌, ltb, leb, eqb, length, drop}
use Rattle.std.proofs.lemmas.List.Edits.{sets}
use Rattle.std.specs.Int.Count.{ones}
use Rattle.basics.specs.Word.{low}
use Rattle.basics.specs.WordSet.{in_word, put_in_word}
use Rattle.definitions.specs.Layout.{EVENT_ROW, EVENT_DISTANCE, REPORT_ROW, PLACEHOLDER, ADD_TOKEN, ADD_COMBINED_TOKEN, FINISH_NODE, ERROR, NO_EVENT_ROOM, NO_REPORT_ROOM, KIND_CODES, FIRST_OTHER, OTHER_CODES, MOST_PENDING, TWO_TO_64}
use Rattle.definitions.specs.Errors.{msg_expected}
use Rattle.definitions.specs.Token.{Token, seen, trivia, one_of}
use Rattle.definitions.specs.Skeleton.{Span}
use Rattle.definitions.specs.Run.{only_separators, pool_of}

-- a lent buffer, and how many of its numbers are written
pub record Buffer : Type 0 where
  pub count : ℕ
  pub numbers : List ℕ

-- The pending expectations. codes: in the order of their arrival. kinds, others: which kinds and which of the other
-- expectations are among them, each a word (`in_word`).
pub record Pending : Type 0 where
  pub codes : List ℕ
  pub kinds : ℕ
  pub others : ℕ

abbrev pub none_pending : Pending
none_pending = record { codes = []; kinds = 0; others = 0 }

-- cursor and mark: token indexes. byte: the first byte of the token at the cursor. mark-byte: the end of the last token
-- taken.
-- refusal: the first of 5 to 7, or 0, and place: the mark at that moment.
pub record Machine : Type 0 where
  pub cursor : ℕ
  pub byte : ℕ
  pub mark : ℕ
  pub mark_byte : ℕ
  pub pending : Pending
  pub events : Buffer
  pub reports : Buffer
  pub pool : Buffer
  pub refusal : ℕ
  pub place : ℕ

-- the raw tokens from the cursor on
abbrev pub rest : List Token → Machine → List Token
rest ts m = drop m.cursor ts

-- ---------------------------------------------------------------- one field changed

abbrev pub with_cursor : ℕ → ℕ → Machine → Machine
with_cursor c b m =
    record {
      cursor = c;
      byte = b;
      mark = m.mark;
      mark_byte = m.mark_byte;
      pending = m.pending;
      events = m.events;
      reports = m.reports;
      pool = m.pool;
      refusal = m.refusal;
      place = m.place;
    }

abbrev pub with_taken : ℕ → ℕ → Machine → Machine
with_taken c b m =
    record {
      cursor = c;
      byte = b;
      mark = c;
      mark_byte = b;
      pending = none_pending;
      events = m.events;
      reports = m.reports;
      pool = m.pool;
      refusal = m.refusal;
      place = m.place;
    }

abbrev pub with_pending : Pending → Machine → Machine
with_pending x m =
    record {
      cursor = m.cursor;
      byte = m.byte;
      mark = m.mark;
      mark_byte = m.mark_byte;
      pending = x;
      events = m.events;
      reports = m.reports;
      pool = m.pool;
      refusal = m.refusal;
      place = m.place;
    }

abbrev pub with_events : Buffer → Machine → Machine
with_events e m =
    record {
      cursor = m.cursor;
      byte = m.byte;
      mark = m.mark;
      mark_byte = m.mark_byte;
      pending = m.pending;
      events = e;
      reports = m.reports;
      pool = m.pool;
      refusal = m.refusal;
      place = m.place;
    }

abbrev pub with_reports : Buffer → Buffer → Machine → Machine
with_reports r p m =
    record {
      cursor = m.cursor;
      byte = m.byte;
      mark = m.mark;
      mark_byte = m.mark_byte;
      pending = m.pending;
      events = m.events;
      reports = r;
      pool = p;
      refusal = m.refusal;
      place = m.place;
    }

abbrev pub with_refusal : ℕ → ℕ → Machine → Machine
with_refusal n p m =
    record {
      cursor = m.cursor;
      byte = m.byte;
      mark = m.mark;
      mark_byte = m.mark_byte;
      pending = m.pending;
      events = m.events;
      reports = m.reports;
      pool = m.pool;
      refusal = n;
      place = p;
    }

-- ---------------------------------------------------------------- source.rs

-- past every row: the cursor after a refusal, so that every loop ends by itself
abbrev pub PAST_THE_END : ℕ
PAST_THE_END = TWO_TO_64 - 1

-- the token at the cursor passed over
abbrev pub passed : Token → Machine → Machine
passed t m = with_cursor (m.cursor + 1) (low (m.byte + t.len)) m

unfoldable pub skip : List Token → Machine → Machine
skip [] m = m
skip (t ∷ ts) m = let r = skip ts (passed t m) in cond (trivia t) r m

-- a peek moves the cursor past trivia
unfoldable pub peek : List Token → Machine → Machine
unfolding skip
peek ts m = skip (rest ts m) m

-- the token at the cursor taken
abbrev pub took : Token → Machine → Machine
took t m = with_taken (m.cursor + 1) (low (m.byte + t.len)) m

-- the range of the token at the cursor
unfoldable pub range_at : List Token → Machine → Span
range_at [] m = record { from = m.byte; to = m.byte }
range_at (t ∷ ts) m = record { from = m.byte; to = low (m.byte + t.len) }

-- ---------------------------------------------------------------- refusals, pending expectations, events

-- the first refusal stays
unfoldable pub refuse : ℕ → Machine → Machine
refuse n m = with_cursor PAST_THE_END m.byte (cond (eqb m.refusal 0) (with_refusal n m.mark m) m)

-- a code that is not there goes to the end of the list, which is never full
abbrev pub arrived : ℕ → List ℕ → List ℕ
arrived k l = cond (ltb (length l) MOST_PENDING) (l ++ (k ∷ [])) l

-- a kind, and one of the others: its digit says whether it is there
abbrev pub expect_kind : ℕ → Pending → Pending
expect_kind k x =
    cond (in_word k x.kinds) x
    (record { codes = arrived k x.codes; kinds = put_in_word k x.kinds; others = x.others })

abbrev pub expect_other : ℕ → Pending → Pending
expect_other k x =
    cond (in_word (k - FIRST_OTHER) x.others) x
    (record { codes = arrived k x.codes; kinds = x.kinds; others = put_in_word (k - FIRST_OTHER) x.others })

-- `add_expected`; a number that is neither is no expectation
unfoldable pub expect : ℕ → Pending → Pending
expect k x =
    cond (ltb k KIND_CODES) (expect_kind k x)
    (cond (leb FIRST_OTHER k) (cond (ltb k (FIRST_OTHER + OTHER_CODES)) (expect_other k x) x) x)

unfoldable pub expect_code : ℕ → Machine → Machine
unfolding expect
expect_code k m = with_pending (expect k m.pending) m

-- whether n more numbers fit a buffer after those that are written
abbrev pub fits : ℕ → ℕ → ℕ → Bool
fits len count n = leb count len && leb n (len - count)

unfoldable pub push_row : ℕ → ℕ → Machine → Machine
unfolding refuse
push_row tag argument m =
    cond (fits (length m.events.numbers) m.events.count EVENT_ROW)
    (with_events (record {
      count = m.events.count + EVENT_ROW;
      numbers = sets m.events.numbers m.events.count (tag ∷ argument ∷ 0 ∷ []);
    }) m)
    (refuse NO_EVENT_ROOM m)

-- nothing is pushed once something was refused
unfoldable pub push : ℕ → ℕ → Machine → Machine
unfolding push_row
push tag argument m = cond (eqb m.refusal 0) (push_row tag argument m) m

-- a marker: the index of its placeholder among the event numbers, and the first number of the start that it becomes
pub record Marker : Type 0 where
  pub index : ℕ
  pub tag : ℕ

abbrev pub put_start : Marker → ℕ → List ℕ → List ℕ
put_start k kind l = cond (fits (length l) k.index EVENT_ROW) (sets l k.index (k.tag ∷ kind ∷ [])) l

unfoldable pub complete : Marker → ℕ → Machine → Machine
unfolding push_row
complete k kind m =
    cond (eqb m.refusal 0) (push_row FINISH_NODE 0 (with_events
    (record { count = m.events.count; numbers = put_start k kind m.events.numbers }) m)) m

-- the forward distance of the start at an index to the event at another
abbrev pub put_link : ℕ → ℕ → List ℕ → List ℕ
put_link from to l =
    cond (fits (length l) from EVENT_ROW && leb from to)
    (sets l (from + EVENT_DISTANCE) (low ((to - from) / EVENT_ROW) ∷ [])) l

-- links the completed node forward to a placeholder, which is pushed
unfoldable pub precede : Marker → Machine → Machine
unfolding push
precede k m =
    let p = push PLACEHOLDER 0 m in
    cond (eqb p.refusal 0) (with_events (record {
      count = p.events.count;
      numbers = put_link k.index m.events.count p.events.numbers;
    }) p) p

-- ---------------------------------------------------------------- tokens and names taken

unfoldable pub bump_first : List Token → Machine → Machine
unfolding push
bump_first [] m = m
bump_first (t ∷ ts) m = push ADD_TOKEN 0 (took t m)

unfoldable pub bump : List Token → Machine → Machine
unfolding peek bump_first
bump ts m = let p = peek ts m in bump_first (rest ts p) p

unfoldable pub name_stretch : List ℕ → List Token → Machine → Machine
unfolding seen one_of
name_stretch ks [] m = m
name_stretch ks (t ∷ ts) m = let r = name_stretch ks ts (took t m) in cond (one_of ks (seen t)) r m

unfoldable pub name_first : List ℕ → List Token → Machine → Machine
unfolding push name_stretch
name_first ks [] m = m
name_first ks (t ∷ ts) m = let r = name_stretch ks ts (took t m) in push ADD_COMBINED_TOKEN (low (r.cursor - m.cursor)) r

unfoldable pub bump_name : List ℕ → List Token → Machine → Machine
unfolding peek name_first
bump_name ks ts m = let p = peek ts m in name_first ks (rest ts p) p

-- ---------------------------------------------------------------- errors.rs

-- `current_token_error_range`, after a peek
unfoldable pub error_range : List Token → Machine → Span
unfolding range_at only_separators
error_range [] m = record { from = m.byte - 1; to = m.byte }
error_range (t ∷ ts) m =
    cond (only_separators m.pending.codes) (record { from = m.mark_byte; to = low (m.mark_byte + 1) }) (range_at (t ∷ ts) m)

-- a report's row: message, range, mark, first pool place, pool count, hint, label
abbrev pub report_row : ℕ → ℕ → Span → Span → ℕ → ℕ → ℕ → List ℕ
report_row message hint range lab mark first n =
    message ∷ range.from ∷ range.to ∷ low mark ∷ low first ∷ low n ∷ hint ∷ lab.from ∷ lab.to ∷ []

-- the row's pool count: the number of different ones, by the digits of the two words
abbrev pub how_many : Pending → ℕ
how_many x = ones x.kinds + ones x.others

unfoldable pub pool_count : ℕ → Pending → ℕ
pool_count message x = cond (eqb message msg_expected) (how_many x) 0

-- the row and its expectations: both fit, or neither is written
unfoldable pub write_report : ℕ → ℕ → Span → Span → Machine → Machine
unfolding refuse pool_of pool_count
write_report message hint range lab m =
    let codes = pool_of message m.pending.codes in
    let n = length codes in
    cond (eqb m.refusal 0)
    (cond (fits (length m.reports.numbers) m.reports.count REPORT_ROW && fits (length m.pool.numbers) m.pool.count n)
    (with_reports
    (record {
      count = m.reports.count + REPORT_ROW;
      numbers = sets m.reports.numbers m.reports.count
          (report_row message hint range lab m.mark m.pool.count (pool_count message m.pending));
    })
    (record { count = m.pool.count + n; numbers = sets m.pool.numbers m.pool.count codes })
    m)
    (refuse NO_REPORT_ROOM m))
    m

-- `emit`: the event, then the row
unfoldable pub emit : List Token → ℕ → ℕ → Span → Machine → Machine
unfolding peek push error_range write_report
emit ts message hint lab m =
    let p = peek ts m in
    write_report message hint (error_range (rest ts p) p) lab (push ERROR 0 p)
