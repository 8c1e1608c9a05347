-- THE CALL'S END: the machine's end, the promises of the sink and of the Names' reports, and what is cleared, joined.
use Prim.Native.Nat.{ℕ, zero, suc, ◌+◌, ◌*◌, ◌/◌, ◌≤◌}
use native.Mathlib.Nat.{mod-eq_of_lt}
use native.Mathlib.Omega.{arith}
use mathlib.Core.Path.{◌≡◌, refl, sym, ap, ◌∙◌, subst}
use mathlib.Core.Bool.{Bool, true, false, cond}
use mathlib.Core.List.{List, [], ◌∷◌, ◌++◌, append-nil}
use lib.ListN.{length, take, length-append}
use Rattle.basics.specs.Word.{low}
use Rattle.definitions.specs.Layout.{TREE_ROW, ERROR_ROW, REPORT_ROW}
use Rattle.definitions.specs.Token.{Token, tokens_of, byte_count}
use Rattle.definitions.specs.Skeleton.{Skeleton}
use Rattle.definitions.specs.Place.{root, lexical_errors}
use Rattle.definitions.specs.Parent.{rows}
use Rattle.definitions.specs.Strict.{NameAt, name_numbers, names_fit}
use Rattle.definitions.specs.Report.{Room, Fit, fits, stops, scan, pushes, reports, report_numbers, pool}
use Rattle.definitions.specs.Refusal.{Refusal, unknown_entry, too_long, odd_count, bad_kind, zero_length, past_input, short_total, bad_text, too_deep, no_event_room, no_report_room, no_tree_room, number_of, place_of, Verdict, accepted, refused}
use Rattle.definitions.specs.RowCauses.{check_input}
use Rattle.definitions.specs.Grammar.{Entry, root_kind}
use Rattle.definitions.specs.Call.{Buffers, cleared, Sheets, sheets, kept, delivered, forward_mark, unless_refused, outcome, room_of, run_entry, names_of, parse}
use Rattle.laws.proofs.Input.{Checked, checked_input}
use Rattle.laws.proofs.Scan.{fits_left}
use Rattle.laws.proofs.Decode.{rows_length}
use Rattle.laws.proofs.LexicalErrors.{errors_length}
use Rattle.bounds.proofs.Numbers.{bounded}
use Rattle.machine.specs.Machine.{Machine}
use Rattle.machine.specs.Encode.{encode}
use Rattle.machine.specs.Outcome.{onto, StartsWith, NotRefused, Refused, Ends}
use Rattle.refinement.proofs.Machine.{entry_ends}
use Rattle.sink.specs.Sunk.{Sunk}
use Rattle.sink.specs.Promise.{Small, enough, WrittenOut, Placed}
use Rattle.sink.proofs.Runs.{entry_chained}
use Rattle.labels.specs.Model.{Names}
use Rattle.labels.specs.Promise.{Leaves, Follow, Stop, Named}
use Rattle.refinement.specs.Ends.{wiped, swept, refused_at, sunk_answer, last_answer, after_all, SameLengths, Parsed, AfterRun, CallsEnd}
use Rattle.refinement.proofs.Wiped.{wiped_whole, wiped_written, onto_front, held_front, held_length}
use Rattle.laws.proofs.ReportNumbers.{report_numbers_length, name_numbers_length}

-- a mark counted from the start leaves the cause as it is
forward_number : (n : ℕ) (r : Refusal) → number_of (forward_mark n r) ≡ number_of r
unfolding number_of forward_mark
forward_number n unknown_entry = refl
forward_number n too_long = refl
forward_number n (odd_count i) = refl
forward_number n (bad_kind i) = refl
forward_number n (zero_length i) = refl
forward_number n (past_input i) = refl
forward_number n (short_total i) = refl
forward_number n (bad_text i) = refl
forward_number n (too_deep m) = refl
forward_number n (no_event_room m) = refl
forward_number n (no_report_room m) = refl
forward_number n no_tree_room = refl

-- a refused call's buffers are all zero
swept_refused : (n p : ℕ) (r : Refusal) (b c : Buffers) → n ≡ number_of r → p ≡ place_of r → SameLengths b c → swept (refused_at n p) c ≡ cleared r b
swept_refused n p r b c e h s =
    let events₀ : wiped 0 c.events ≡ _ = wiped_whole b.events c.events s.events in
    let trees₀ : wiped 0 c.trees ≡ _ = wiped_whole b.trees c.trees s.trees in
    let errors₀ : wiped 0 c.errors ≡ _ = wiped_whole b.errors c.errors s.errors in
    let reports₀ : wiped 0 c.reports ≡ _ = wiped_whole b.reports c.reports s.reports in
    let pool₀ : wiped 0 c.pool ≡ _ = wiped_whole b.pool c.pool s.pool in
    rw (e, h, events₀, trees₀, errors₀, reports₀, pool₀)

-- l: the numbers to write. c: the buffer afterwards. n: how many rows of so many numbers are answered.
pub record RowsIn (size n : ℕ) (l c : List ℕ) : Type 0 where
  pub count : n ≡ length l / size
  pub whole : n * size ≡ length l
  pub numbers : take (n * size) c ≡ l

-- an accepted call's buffers hold what was written, and then zeros
swept_kept : (z : Sheets) (b c : Buffers) (t e r n : ℕ) → SameLengths b c → RowsIn TREE_ROW t z.trees c.trees → RowsIn ERROR_ROW e z.errors c.errors
    → RowsIn REPORT_ROW r z.reports c.reports → n ≡ length z.pool → take n c.pool ≡ z.pool
    → swept (record { number = 0; place = 0; tree_count = t; error_count = e; report_count = r; expectation_count = n }) c ≡ kept z b
swept_kept z b c t e r n k ft fe fr q h =
    let events₀ : wiped 0 c.events ≡ _ = wiped_whole b.events c.events k.events in
    let trees₀ : wiped (t * TREE_ROW) c.trees ≡ _ = wiped_written z.trees b.trees c.trees (t * TREE_ROW) k.trees ft.whole ft.numbers in
    let errors₀ : wiped (e * ERROR_ROW) c.errors ≡ _ = wiped_written z.errors b.errors c.errors (e * ERROR_ROW) k.errors fe.whole fe.numbers in
    let reports₀ : wiped (r * REPORT_ROW) c.reports ≡ _ = wiped_written z.reports b.reports c.reports (r * REPORT_ROW) k.reports fr.whole fr.numbers in
    let pool₀ : wiped n c.pool ≡ _ = wiped_written z.pool b.pool c.pool n k.pool q h in
    rw (events₀, trees₀, errors₀, reports₀, pool₀, ft.count, fe.count, fr.count, q)

-- a Name's report that does not fit is the only refusal among them
name_refused : (room : ℕ) (l : List NameAt) (r : Refusal) → names_fit room l ≡ refused r → (m : ℕ) × (r ≡ no_report_room m)
unfolding names_fit
name_refused room [] r e = absurd (differ e)
  where
    differ : accepted ≡ refused r → ⊥
    differ e = let x : ◌≡◌ {A = ℕ} 0 1 = cc in omega arith
name_refused zero (n ∷ l) r e = (n.first_token, sym (ap inside e))
  where
    inside : Verdict → Refusal
    inside accepted = no_tree_room
    inside (refused q) = q
name_refused (suc room) (n ∷ l) r e = name_refused room l r e

module _ (setting : ℕ) (e : Entry) (bytes tokens : List ℕ) (b : Buffers) (m : Machine) (ok : check_input bytes tokens ≡ accepted) (parsed : Parsed e tokens b m) where
  abbrev ts : List Token
  ts = tokens_of tokens

  abbrev o : Skeleton
  o = run_entry e ts

  abbrev l : List NameAt
  l = names_of setting e bytes ts

  abbrev z : Sheets
  z = sheets e ts o l

  abbrev R : List ℕ
  R = rows (root (root_kind e) o ts)

  abbrev L : List ℕ
  L = lexical_errors 0 ts

  -- the machine's end
  ends : Ends ts o b.events b.reports b.pool (scan (pushes o) (room_of b)) m
  ends = subst (λ (x : Machine). Ends ts o b.events b.reports b.pool (scan (pushes o) (room_of b)) x) (sym parsed) (entry_ends e bytes tokens b.events b.reports b.pool ok)

  parse_by : (f : Fit) → scan (pushes o) (room_of b) ≡ f → parse e setting bytes ts b ≡ outcome f e ts o l b
  unfolding parse
  parse_by f h = ap (λ (x : Fit). outcome x e ts o l b) h

  ends_by : (f : Fit) → scan (pushes o) (room_of b) ≡ f → Ends ts o b.events b.reports b.pool f m
  ends_by f h = subst (λ (x : Fit). Ends ts o b.events b.reports b.pool x m) h ends

  -- ---------------------------------------------------------------- causes 5 to 7

  refused_ends : (f : Fit) → scan (pushes o) (room_of b) ≡ f → (m.refusal ≡ 0 → ⊥) → (c : Buffers) → SameLengths b c
      → swept (refused_at m.refusal m.place) c ≡ parse e setting bytes ts b
  unfolding outcome
  refused_ends (fits x) h n c s = let a : NotRefused ts o b.events b.reports b.pool m = ends_by (fits x) h in absurd (n a.refusal)
  refused_ends (stops r) h n c s =
      let a : Refused ts r m = ends_by (stops r) h in
      swept_refused m.refusal m.place (forward_mark (length ts) r) b c (a.refusal ∙ sym (forward_number (length ts) r)) a.place s
      ∙ sym (parse_by (stops r) h)

  -- ---------------------------------------------------------------- nothing refused

  -- what the run left, and what comes of it
  pub record Went : Type 0 where
    pub left : Room
    pub fitted : scan (pushes o) (room_of b) ≡ fits left
    pub whole : NotRefused ts o b.events b.reports b.pool m
    pub parses : parse e setting bytes ts b ≡ unless_refused (names_fit left.reports l) z b

  went : (f : Fit) → scan (pushes o) (room_of b) ≡ f → m.refusal ≡ 0 → Went
  unfolding outcome
  went (fits x) h q = record { left = x; fitted = h; whole = ends_by (fits x) h; parses = parse_by (fits x) h }
  went (stops r) h q = let a : Refused ts r m = ends_by (stops r) h in absurd (omega (arith, a.some))

  -- the events that the sink and the Names' reports are given encode the skeleton
  given_events : NotRefused ts o b.events b.reports b.pool m → take m.events.count m.events.numbers ≡ encode false o
  given_events a = held_front (encode false o) b.events m.events a.events_hold

  small : Small o tokens
  small =
      let c : Checked bytes tokens = checked_input bytes tokens ok in
      record {
        numbers = omega (arith, c.numbers_limit);
        bytes = omega (arith, c.covered, c.bytes_limit);
        rows = omega (arith, c.pairs, c.numbers_limit, (bounded e ts).all_events);
      }

  -- the rows of a tree, of lexical errors and of reports are whole
  trees_in : (c : List ℕ) → c ≡ onto R b.trees → RowsIn TREE_ROW (length R / TREE_ROW) R c
  trees_in c h =
      let w : length R / TREE_ROW * TREE_ROW ≡ length R = omega (arith, rows_length (root (root_kind e) o ts) 0 0) in
      record { count = refl; whole = w; numbers = onto_front R b.trees c _ h w }

  errors_in : (c : List ℕ) → c ≡ onto L b.errors → RowsIn ERROR_ROW (length L / ERROR_ROW) L c
  errors_in c h =
      let w : length L / ERROR_ROW * ERROR_ROW ≡ length L = omega (arith, errors_length 0 ts) in
      record { count = refl; whole = w; numbers = onto_front L b.errors c _ h w }

  abbrev P : List ℕ
  P = report_numbers (length ts) (byte_count ts) 0 (reports (pushes o))

  abbrev expectations : ℕ
  expectations = length (pool (reports (pushes o)))

  abbrev Q : List ℕ
  Q = name_numbers expectations l

  P_length : length P ≡ REPORT_ROW * length (reports (pushes o))
  P_length = report_numbers_length (length ts) (byte_count ts) 0 (reports (pushes o))

  Q_length : length Q ≡ REPORT_ROW * length l
  Q_length = name_numbers_length expectations l

  -- the report rows that the run left are those that still fit
  rows_left : (g : Went) → Leaves m.reports.count g.left.reports m.reports.numbers
  rows_left g =
      let h : StartsWith P b.reports m.reports = g.whole.reports_hold in
      let f : length b.reports / REPORT_ROW ≡ g.left.reports + length (reports (pushes o)) = fits_left (pushes o) (room_of b) g.left g.fitted in
      let n : length m.reports.numbers ≡ length b.reports = held_length P b.reports m.reports h in
      record { enough = omega (arith, h.count, P_length); no_more = omega (arith, h.count, P_length) }

  -- the first pool place of the Names' reports is no large number
  pool_low : (g : Went) → low m.pool.count ≡ expectations
  pool_low g =
      let c : Checked bytes tokens = checked_input bytes tokens ok in
      let k : m.pool.count ≡ expectations = g.whole.pool_holds.count in
      let n : expectations ≤ _ = (bounded e ts).pool_so_far (pushes o) [] (sym (append-nil (pushes o))) in
      ap low k ∙ mod-eq_of_lt (omega (arith, c.pairs, c.numbers_limit))

  module _ (g : Went) (s : Sunk) (w : Names) (trees errors reports' : List ℕ) (after : AfterRun setting e bytes tokens b m s w trees errors reports') where
    abbrev c : Buffers
    c = after_all trees errors reports' m

    same_lengths : SameLengths b c
    same_lengths =
        record {
          events = held_length (encode false o) b.events m.events g.whole.events_hold;
          trees = after.trees_length;
          errors = after.errors_length;
          reports = after.reports_length;
          pool = held_length (pool (reports (pushes o))) b.pool m.pool g.whole.pool_holds;
        }

    named : Named l expectations m.reports.count m.reports.numbers w reports'
    named = subst (λ (n : ℕ). Named l n m.reports.count m.reports.numbers w reports') (pool_low g) (after.named e refl ok (given_events g.whole))

    placed : Placed (root_kind e) o tokens b.trees b.errors s trees errors
    placed = after.sunk o (given_events g.whole) (entry_chained e ts) small

    -- all reports fit, and follow those of the run
    module _ (f : Follow l expectations m.reports.count m.reports.numbers w reports') where
      abbrev h : StartsWith P b.reports m.reports
      h = g.whole.reports_hold

      -- how many report numbers there are
      abbrev n : ℕ
      n = m.reports.count + length l * REPORT_ROW

      reports_in : RowsIn REPORT_ROW (n / REPORT_ROW) (P ++ Q) reports'
      reports_in =
          let k : n ≡ length (P ++ Q) = omega (arith, length-append P Q, h.count, Q_length) in
          let whole : n / REPORT_ROW * REPORT_ROW ≡ n = omega (arith, h.count, P_length) in
          record {
            count = omega arith;
            whole = whole ∙ k;
            numbers = ap (λ (x : ℕ). take x reports') whole ∙ f.rows ∙ ap (λ (x : List ℕ). x ++ Q) (held_front P b.reports m.reports h);
          }

      sunk_ends : (x : Bool) → enough R L b.trees b.errors ≡ x
          → swept (sunk_answer s n m.pool.count) c ≡ cond x (kept z b) (cleared no_tree_room b)
      unfolding sheets
      sunk_ends true k =
          let out : WrittenOut R L b.trees b.errors s trees errors = placed.fits k in
          let q = g.whole.pool_holds in
          ap (λ (y : Sunk). swept (sunk_answer y n m.pool.count) c) out.counts
          ∙ swept_kept z b c (length R / TREE_ROW) (length L / ERROR_ROW) (n / REPORT_ROW) m.pool.count same_lengths
          (trees_in trees out.rows) (errors_in errors out.lexical) reports_in
          q.count (held_front (pool (reports (pushes o))) b.pool m.pool q)
      sunk_ends false k =
          ap (λ (y : Sunk). swept (sunk_answer y n m.pool.count) c) (placed.lacks k)
          ∙ swept_refused (number_of no_tree_room) (place_of no_tree_room) no_tree_room b c refl refl same_lengths

      delivered_ends : swept (last_answer s w m) c ≡ delivered z b
      unfolding delivered sheets
      delivered_ends =
          ap (λ (x : Names). swept (last_answer s x m) c) f.count
          ∙ sunk_ends (enough R L b.trees b.errors) refl

    by_names : (v : Verdict) → names_fit g.left.reports l ≡ v → swept (last_answer s w m) c ≡ unless_refused v z b
    unfolding unless_refused
    by_names accepted v = delivered_ends (named.fits g.left.reports (rows_left g) v)
    by_names (refused r) v =
        let q : (k : ℕ) × (r ≡ no_report_room k) = name_refused g.left.reports l r v in
        let t : Stop q.0 w = named.lacks g.left.reports q.0 (rows_left g) (v ∙ ap refused q.1) in
        ap (λ (x : Names). swept (last_answer s x m) c) t.refused_at
        ∙ (unfold number_of place_of in swept_refused (number_of (no_report_room q.0)) q.0 (no_report_room q.0) b c refl refl same_lengths)
        ∙ ap (λ (y : Refusal). cleared y b) (sym q.1)

    all_ended : swept (last_answer s w m) c ≡ parse e setting bytes ts b
    all_ended = by_names (names_fit g.left.reports l) refl ∙ sym g.parses

-- THE CALL'S END
pub calls_end : CallsEnd
calls_end setting e bytes tokens b m ok parsed =
    let gone = went setting e bytes tokens b m ok parsed (scan (pushes (run_entry e (tokens_of tokens))) (room_of b)) refl in
    record {
      refused = refused_ends setting e bytes tokens b m ok parsed (scan (pushes (run_entry e (tokens_of tokens))) (room_of b)) refl;
      events_inside = λ q. let h = (gone q).whole.events_hold in omega (arith, h.count, h.inside);
      ended = λ q. all_ended setting e bytes tokens b m ok parsed (gone q);
    }
