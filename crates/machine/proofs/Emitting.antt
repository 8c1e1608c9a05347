-- A report: its event, its range and row, its expectations; refusals 6 and 7.
use Prim.Native.Nat.{ℕ, suc, ◌+◌, ◌-◌, ◌/◌, ◌≤◌, ◌<◌}
use native.Mathlib.Nat.{mod-eq_of_lt, zero-add}
use native.Mathlib.Omega.{arith}
use mathlib.Core.Path.{◌≡◌, refl, sym, ap, ◌∙◌, subst}
use mathlib.Core.Bool.{Bool, true, false, cond}
use mathlib.Core.List.{List, [], ◌∷◌, ◌++◌}
use lib.Dec.{leb}
use lib.ListN.{length, length-append}
use borrow.Author.Tests.{leb-true, leb-false, le-leb, lt-leb}
use Rattle.definitions.specs.Layout.{EVENT_ROW, REPORT_ROW, ERROR, NO_REPORT_ROOM, MOST_TOKENS, TWO_TO_32}
use Rattle.definitions.specs.Token.{Token, byte_count}
use Rattle.definitions.specs.Skeleton.{Span, Label, no_label, label, Report, done, report}
use Rattle.definitions.specs.Refusal.{no_event_room, no_report_room, number_of, place_of}
use Rattle.definitions.specs.Prog.{yes}
use Rattle.definitions.specs.Run.{State, mark_of, makes, peeked, only_separators, error_range, pool_of, do_emit, here}
use Rattle.definitions.specs.Report.{reported, Fit, fits, stops, one_event, one_report, scan, pushes, reports, pool, label_numbers}
use Rattle.definitions.specs.Call.{forward_mark}
use Rattle.laws.proofs.Scan.{and_then, scan_append}
use Rattle.laws.proofs.Skeleton.{reports_append, pool_append}
use Rattle.basics.specs.Word.{low}
use Rattle.machine.specs.Machine.{Machine, rest, refuse, push, range_at, report_row, pool_count, write_report}
use Rattle.machine.specs.Machine as M
use Rattle.machine.specs.Walk.{said}
use Rattle.machine.specs.Outcome.{Refused}
use Rattle.machine.proofs.Coded.{coded, low_rows, low_rows_append, low_row_length}
use Rattle.machine.proofs.Suffix.{suffix_bytes, suffix_filled}
use Rattle.machine.proofs.Image.{Ground, held_of, image, rows_of, Inside, moved, rest_is, inside_peeked, byte}
use Rattle.machine.proofs.Moves.{peek_is}
use Rattle.machine.proofs.Expecting.{count_is}
use Rattle.machine.proofs.Stores.{push_fits, push_full, report_fits, report_full, no_row, no_codes}
use Rattle.machine.proofs.Sticky.{s_write}
use Rattle.machine.proofs.Meets.{Sofar, Fitting, stand, Meets, goes, stop, grow, Sim, Tracks, room_at_first, room_left, refused_event}

-- ---------------------------------------------------------------- ranges

-- counted from the start, in a file of b bytes
abbrev pub forward_span : ℕ → Span → Span
forward_span b x = record { from = b - x.from; to = b - x.to }

abbrev pub span_of : ℕ → Label → Span
span_of b no_label = record { from = 0; to = 0 }
span_of b (label x) = forward_span b x

-- the byte after the last token taken
after_mark : (b k : ℕ) → 1 ≤ k → k ≤ b → b < TWO_TO_32 → low (b - k + 1) ≡ b - (k - 1)
after_mark b k h i l = let e : b - k + 1 ≡ b - (k - 1) = omega arith in ap low e ∙ mod-eq_of_lt (omega arith)

range_with : (g : Ground) (e : List ℕ) (l : List Report) (s : State) (ts : List Token) → Inside g (moved s ts)
    → M.error_range ts (image g e l (moved s ts)) ≡ forward_span (byte_count g.tokens) (error_range (moved s ts) ts)
unfolding M.error_range error_range image range_at byte_count
range_with g e l s [] i = let q : byte_count g.tokens - 0 - 1 ≡ byte_count g.tokens - 1 = omega arith in ap (λ (x : ℕ). record { from = x; to = byte_count g.tokens - 0 }) q
range_with g e l s (t ∷ ts) i = pick (only_separators s.pending)
  where
    B : ℕ
    B = byte_count g.tokens

    some : 1 ≤ byte_count s.since
    some = let h : 1 ≤ t.len = (suffix_filled g.tokens (t ∷ ts) i.rest g.limits.none_empty).0 in omega (arith, h, i.order)

    one : low (B - byte_count s.since + 1) ≡ B - (byte_count s.since - 1)
    one = after_mark B (byte_count s.since) some (suffix_bytes g.tokens s.since i.since) g.limits.short

    pick : (c : Bool)
        → cond {A = Span} c (record { from = B - byte_count s.since; to = low (B - byte_count s.since + 1) }) (record { from = B - (t.len + byte_count ts); to = low (B - (t.len + byte_count ts) + t.len) })
        ≡ forward_span B (cond {A = Span} c (record { from = byte_count s.since; to = byte_count s.since - 1 }) (record { from = t.len + byte_count ts; to = byte_count ts }))
    pick true = ap (λ (x : ℕ). record { from = B - byte_count s.since; to = x }) one
    pick false = ap (λ (x : ℕ). record { from = B - (t.len + byte_count ts); to = x }) (byte g e l s t ts i.rest)

pub range_is : (g : Ground) (e : List ℕ) (l : List Report) (s : State) → Inside g s → M.error_range s.rest (image g e l s) ≡ forward_span (byte_count g.tokens) (error_range s s.rest)
range_is g e l s i = range_with g e l s s.rest i

-- the range of the token at the cursor, for a label
here_with : (g : Ground) (e : List ℕ) (l : List Report) (s : State) (ts : List Token) → Inside g (moved s ts) → range_at ts (image g e l (moved s ts)) ≡ span_of (byte_count g.tokens) (here ts)
unfolding image range_at byte_count
here_with g e l s [] i = refl
here_with g e l s (t ∷ ts) i = ap (λ (x : ℕ). record { from = byte_count g.tokens - (t.len + byte_count ts); to = x }) (byte g e l s t ts i.rest)

pub here_is : (g : Ground) (e : List ℕ) (l : List Report) (s : State) → Inside g s → range_at (rest g.tokens (image g e l s)) (image g e l s) ≡ span_of (byte_count g.tokens) (here s.rest)
here_is g e l s i = ap (λ (x : List Token). range_at x (image g e l s)) (rest_is g e l s i) ∙ here_with g e l s s.rest i

-- ---------------------------------------------------------------- the row

row_is : (n b first m h mark : ℕ) (x : Span) (lab : Label) (codes : List ℕ) → n ≤ MOST_TOKENS
    → report_row m h (forward_span b x) (span_of b lab) (n - mark) first (length codes)
    ≡ low_rows n b (0 + first) (record { message = m; range = x; mark = mark; hint = h; labelled = lab; pool = codes } ∷ [])
unfolding low_rows
row_is n b first m h mark x lab codes few =
    let e : low (n - mark) ≡ n - mark = mod-eq_of_lt (omega arith) in
    ap (λ (k : ℕ). m ∷ (b - x.from) ∷ (b - x.to) ∷ k ∷ low first ∷ low (length codes) ∷ h ∷ (span_of b lab).from ∷ (span_of b lab).to ∷ []) e
    ∙ ap (λ (k : ℕ). m ∷ (b - x.from) ∷ (b - x.to) ∷ (n - mark) ∷ low k ∷ low (length codes) ∷ h ∷ (span_of b lab).from ∷ (span_of b lab).to ∷ []) (sym (zero-add first))
    ∙ ap (λ (l : List ℕ). m ∷ (b - x.from) ∷ (b - x.to) ∷ (n - mark) ∷ low (0 + first) ∷ low (length codes) ∷ h ∷ l) (by_label lab)
  where
    by_label : (y : Label) → (span_of b y).from ∷ (span_of b y).to ∷ [] ≡ label_numbers b y []
    by_label no_label = refl
    by_label (label y) = refl

-- ---------------------------------------------------------------- what `scan` says of a report

abbrev told : Report → ℕ → ℕ → ℕ → Fit
told r e p q = scan (reported r ∷ []) (record { events = e; reports = p; pool = q })

no_event : (r : Report) (e p q : ℕ) → e ≡ 0 → told r e p q ≡ stops (no_event_room r.mark)
unfolding scan one_event
no_event r e p q h = rw h

no_report : (r : Report) (e p q n : ℕ) → e ≡ suc n → p ≡ 0 → told r e p q ≡ stops (no_report_room r.mark)
unfolding scan one_event one_report
no_report r e p q n h k = rw (h, k)

no_pool : (r : Report) (e p q n j : ℕ) → e ≡ suc n → p ≡ suc j → q < length r.pool → told r e p q ≡ stops (no_report_room r.mark)
unfolding scan one_event one_report
no_pool r e p q n j h k l = rw (h, k, lt-leb (length r.pool) q l)

all_told : (r : Report) (e p q n j : ℕ) → e ≡ suc n → p ≡ suc j → length r.pool ≤ q → told r e p q ≡ fits (record { events = n; reports = j; pool = q - length r.pool })
unfolding scan one_event one_report
all_told r e p q n j h k l = rw (h, k, le-leb (length r.pool) q l)

-- ---------------------------------------------------------------- emit

refused_report : (g : Ground) (e : List ℕ) (l : List Report) (s : State) → Refused g.tokens (no_report_room (mark_of s)) (refuse NO_REPORT_ROOM (image g e l s))
unfolding refuse image number_of place_of forward_mark
refused_report g e l s = record { refusal = refl; some = omega arith; place = refl }

abbrev report_at : ℕ → ℕ → Label → State → Report
report_at m h lab s = record { message = m; range = error_range s s.rest; mark = mark_of s; hint = h; labelled = lab; pool = pool_of m s.pending }

module _ (g : Ground) (m h : ℕ) (lab : Label) (c : Sofar) (s : State) (f : Fitting g c) (i : Inside g s) where
  abbrev r : Report
  r = report_at m h lab s

  abbrev l : List Report
  l = reports c.pushed

  abbrev e' : List ℕ
  e' = c.numbers ++ (ERROR ∷ 0 ∷ 0 ∷ [])

  abbrev n : ℕ
  n = length (pool_of m s.pending)

  abbrev range : Span
  range = M.error_range s.rest (stand g c s)

  abbrev B : ℕ
  B = byte_count g.tokens

  scan_is : scan (c.pushed ++ (reported r ∷ [])) (room_at_first g) ≡ told r (room_left g c.numbers l).events (room_left g c.numbers l).reports (room_left g c.numbers l).pool
  scan_is = scan_append c.pushed (reported r ∷ []) (room_at_first g) ∙ ap (λ (x : Fit). and_then x (scan (reported r ∷ []))) f.room

  reports_are : reports (c.pushed ++ (reported r ∷ [])) ≡ l ++ (r ∷ [])
  unfolding reports
  reports_are = reports_append c.pushed (reported r ∷ [])

  rows_grow : length (rows_of g (l ++ (r ∷ []))) ≡ length (rows_of g l) + REPORT_ROW
  rows_grow =
      let N = length g.tokens in
      ap length (low_rows_append N B 0 l (r ∷ [])) ∙ length-append (rows_of g l) (low_rows N B (0 + length (pool l)) (r ∷ [])) ∙ ap (λ (k : ℕ). length (rows_of g l) + k) (low_row_length N B (0 + length (pool l)) r)

  pool_grows : length (pool (l ++ (r ∷ []))) ≡ length (pool l) + n
  unfolding pool
  pool_grows = ap length (pool_append l (r ∷ [])) ∙ length-append (pool l) (r.pool ++ []) ∙ ap (λ (k : ℕ). length (pool l) + k) (length-append r.pool [] ∙ native.Mathlib.Nat.add-zero n)

  -- the event fits: the row and the expectations fit or not
  after_event : (b d : Bool) → length c.numbers + EVENT_ROW ≤ length g.events
      → leb (length (rows_of g l) + REPORT_ROW) (length g.reports) ≡ b → leb (length (pool l) + n) (length g.pool) ≡ d
      → Meets g (grow c (report r done)) yes 0 s (said yes (write_report m h range (span_of B lab) (image g e' l s)))
  unfolding coded pushes
  after_event false d fit p q =
      let more : length g.reports < length (rows_of g l) + REPORT_ROW = leb-false _ _ p in
      let event_room : (room_left g c.numbers l).events ≡ suc ((length g.events - (length c.numbers + EVENT_ROW)) / EVENT_ROW) = omega arith in
      let report_room : (room_left g c.numbers l).reports ≡ 0 = omega (arith, f.rows) in
      stop (no_report_room (mark_of s)) (scan_is ∙ no_report r _ _ _ _ event_room report_room)
      (subst (Refused g.tokens (no_report_room (mark_of s))) (sym (report_full g l s e' m h range (span_of B lab) (no_row g l s n f.rows more))) (refused_report g e' l s))
  after_event true false fit p q =
      let rows : length (rows_of g l) + REPORT_ROW ≤ length g.reports = leb-true _ _ p in
      let more : length g.pool < length (pool l) + n = leb-false _ _ q in
      let event_room : (room_left g c.numbers l).events ≡ suc ((length g.events - (length c.numbers + EVENT_ROW)) / EVENT_ROW) = omega arith in
      let report_room : (room_left g c.numbers l).reports ≡ suc ((length g.reports - (length (rows_of g l) + REPORT_ROW)) / REPORT_ROW) = omega arith in
      stop (no_report_room (mark_of s)) (scan_is ∙ no_pool r _ _ _ _ _ event_room report_room (omega (arith, f.codes)))
      (subst (Refused g.tokens (no_report_room (mark_of s))) (sym (report_full g l s e' m h range (span_of B lab) (no_codes g l s n rows f.codes more))) (refused_report g e' l s))
  after_event true true fit p q =
      let rows : length (rows_of g l) + REPORT_ROW ≤ length g.reports = leb-true _ _ p in
      let codes : length (pool l) + n ≤ length g.pool = leb-true _ _ q in
      let el : length e' ≡ length c.numbers + EVENT_ROW = length-append c.numbers (ERROR ∷ 0 ∷ 0 ∷ []) in
      let event_room : (room_left g c.numbers l).events ≡ suc ((length g.events - length e') / EVENT_ROW) = omega arith in
      let report_room : (room_left g c.numbers l).reports ≡ suc ((length g.reports - length (rows_of g (l ++ (r ∷ [])))) / REPORT_ROW) = omega (arith, rows_grow) in
      let pool-room : (room_left g c.numbers l).pool - n ≡ length g.pool - length (pool (l ++ (r ∷ []))) = omega (arith, pool_grows) in
      let row : report_row m h range (span_of B lab) (length g.tokens - length s.since) (length (pool l)) (pool_count m (held_of s.pending)) ≡ low_rows (length g.tokens) B (0 + length (pool l)) (r ∷ []) =
      ap (λ (j : ℕ). report_row m h range (span_of B lab) (length g.tokens - length s.since) (length (pool l)) j) (count_is m s.pending i.held)
      ∙ ap (λ (x : Span). report_row m h x (span_of B lab) (length g.tokens - length s.since) (length (pool l)) n) (range_is g c.numbers l s i)
      ∙ row_is (length g.tokens) B (length (pool l)) m h (mark_of s) (error_range s s.rest) lab (pool_of m s.pending) g.limits.few in
      goes
      (record {
        events = omega arith;
        rows = subst (λ (u : List Report). length (rows_of g u) ≤ length g.reports) (sym reports_are) (omega (arith, rows_grow));
        codes = subst (λ (u : List Report). length (pool u) ≤ length g.pool) (sym reports_are) (omega (arith, pool_grows));
        room =
            scan_is ∙ all_told r _ _ _ _ _ event_room report_room (omega (arith, f.codes))
            ∙ ap (λ (k : ℕ). fits (record { events = (length g.events - length e') / EVENT_ROW; reports = (length g.reports - length (rows_of g (l ++ (r ∷ [])))) / REPORT_ROW; pool = k })) pool-room
            ∙ ap (λ (u : List Report). fits (room_left g e' u)) (sym reports_are);
      })
      i
      (ap (λ (x : Machine). said yes x) (report_fits g l s e' m h range (span_of B lab) r refl row rows codes ∙ ap (λ (u : List Report). image g e' u s) (sym reports_are)))

  by_event : (b : Bool) → leb (length c.numbers + EVENT_ROW) (length g.events) ≡ b
      → Meets g (grow c (report r done)) yes 0 s (said yes (write_report m h range (span_of B lab) (push ERROR 0 (stand g c s))))
  unfolding pushes
  by_event true p =
      let fit : length c.numbers + EVENT_ROW ≤ length g.events = leb-true _ _ p in
      subst (λ (x : Machine). Meets g (grow c (report r done)) yes 0 s (said yes (write_report m h range (span_of B lab) x))) (sym (push_fits g l s c.numbers ERROR 0 fit))
      (after_event _ _ fit refl refl)
  by_event false p =
      let more : length g.events < length c.numbers + EVENT_ROW = leb-false _ _ p in
      let event_room : (room_left g c.numbers l).events ≡ 0 = omega (arith, f.events) in
      stop (no_event_room (mark_of s)) (scan_is ∙ no_event r _ _ _ event_room)
      (s_write g.tokens (no_event_room (mark_of s)) m h range (span_of B lab) (push ERROR 0 (stand g c s))
      (subst (Refused g.tokens (no_event_room (mark_of s))) (sym (push_full g l s c.numbers ERROR 0 f.events more)) (refused_event g c.numbers l s)))

pub emit_sim : (g : Ground) (m h : ℕ) (lab : Label) → Tracks g (λ s. do_emit m h lab (peeked s)) (λ x. said yes (M.emit g.tokens m h (span_of (byte_count g.tokens) lab) x))
unfolding M.emit do_emit makes
emit_sim g m h lab c s f i =
    let e = c.numbers in
    let l = reports c.pushed in
    let B = byte_count g.tokens in
    let j : Inside g (peeked s) = inside_peeked g s i in
    let o = do_emit m h lab (peeked s) in
    subst (λ (x : Machine). Sim g c o (said yes (write_report m h (M.error_range (rest g.tokens x) x) (span_of B lab) (push ERROR 0 x)))) (sym (peek_is g e l s i))
    (subst (λ (x : List Token). Sim g c o (said yes (write_report m h (M.error_range x (stand g c (peeked s))) (span_of B lab) (push ERROR 0 (stand g c (peeked s)))))) (sym (rest_is g e l (peeked s) j))
    (by_event g m h lab c (peeked s) f j _ refl))
