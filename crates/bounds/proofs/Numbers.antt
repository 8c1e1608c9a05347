-- The statements of specs/Numbers.antt.
use Prim.Native.Nat.{ℕ, ◌+◌, ◌-◌, ◌*◌, ◌≤◌, ◌<◌}
use native.Mathlib.Nat.{le_refl, div-le_self}
use native.Mathlib.Omega.{arith}
use mathlib.Core.Path.{◌≡◌, refl, ap, sym, ◌∙◌, subst}
use mathlib.Core.Bool.{Bool, true, false, not, ◌&&◌, ◌||◌, false≢true}
use mathlib.Core.List.{List, [], ◌∷◌, ◌++◌, append-nil}
use lib.Dec.{leb, eqb}
use lib.ListN.{length, length-append}
use borrow.Author.Tests.{leb-true}
use Rattle.definitions.specs.LexError as L
use Rattle.definitions.specs.Layout.{MOST_TOKEN_NUMBERS, MOST_BYTES, TWO_TO_32, TREE_ROW, ERROR_ROW, REPORT_ROW, MOST_TOKENS}
use Rattle.definitions.specs.TokenKind as K
use Rattle.definitions.specs.Token.{Token, tokens_of, byte_count}
use Rattle.definitions.specs.Grammar.{Entry}
use Rattle.definitions.specs.Skeleton.{Skeleton}
use Rattle.definitions.specs.Event.{events}
use Rattle.definitions.specs.Place.{lexical_errors}
use Rattle.definitions.specs.Parent.{rows}
use Rattle.definitions.specs.Report.{Push, pushes, reports, report_numbers, pool, Fit, fits, stops, scan}
use Rattle.definitions.specs.Strict.{name_numbers, names_fit}
use Rattle.definitions.specs.Refusal.{Refusal, unknown_entry, no_tree_room, place_of, Verdict, accepted, refused}
use Rattle.definitions.specs.RowCauses.{is_kind, check_input}
use Rattle.definitions.specs.Call.{Buffers, zeros, written, refusal, cleared, Sheets, sheets, kept, delivered, forward_mark, unless_refused, outcome, room_of, run_entry, names_of, parse, Asked, for, unknown, entry_of, checked, asked, call}
use Rattle.basics.proofs.Tests.{cond-all}
use Rattle.laws.proofs.Skeleton.{event_count_append, events_length, reports_append}
use Rattle.laws.specs.Pushes.{event_count}
use Rattle.laws.proofs.Between.{entry_reads}
use Rattle.laws.proofs.Decode.{rows_length}
use Rattle.laws.proofs.Input.{AllGood, Checked, checked_input}
use Rattle.bounds.specs.Numbers.{most_events, most_reports, most_expectations, most_rows, Bounded, RunsBounded, Below, WithinLimits, SoFar, WordsSoFar, Words, AnswerFits, Fits, NumbersFit}
use Rattle.bounds.proofs.Tables as T
use Rattle.bounds.proofs.Counts.{counted, events_cost, reports_cost}
use Rattle.bounds.proofs.Pools.{entry_listed, few_expected, pool_below}
use Rattle.bounds.proofs.Codes.{CODES, below_append}
use Rattle.bounds.proofs.CodedRuns.{entry_coded}
use Rattle.bounds.proofs.Events.{events_fit}
use Rattle.bounds.proofs.TreeRows.{Kinded, tree, few_rows, few_children, rows_below}
use Rattle.bounds.proofs.Written.{below_wider, below_zeros, AllCoded, coded_left, reports_coded, report_numbers_below, errors_most, errors_below}
use Rattle.bounds.proofs.Places.{number_small, Placed, input_placed, Stopped, scan_stopped}
use Rattle.bounds.proofs.StrictNames.{few_names, names_within, name_numbers_below, names_placed}
use Rattle.laws.proofs.ReportNumbers.{report_numbers_length, name_numbers_length}

-- ---------------------------------------------------------------- a run

module _ (e : Entry) (ts : List Token) where
  abbrev o : Skeleton
  o = run_entry e ts

  pub few_events : length (events false o) ≤ most_events (length ts)
  few_events = omega (arith, events_length false o, events_cost o, counted T.events e ts)

  few_pushed : (l m : List Push) → pushes o ≡ l ++ m → event_count l ≤ most_events (length ts)
  few_pushed l m h = omega (arith, ap event_count h ∙ event_count_append l m, events_cost o, counted T.events e ts)

  few_reported : (l m : List Push) → pushes o ≡ l ++ m → length (reports l) ≤ most_reports (length ts)
  few_reported l m h =
      let j : length (reports (pushes o)) ≡ length (reports l) + length (reports m) = ap (λ (x : List Push). length (reports x)) h ∙ simp (reports_append, length-append) in
      omega (arith, reports_cost o, counted T.reports e ts)

  few_pool : (l m : List Push) → pushes o ≡ l ++ m → length (pool (reports l)) ≤ most_expectations (length ts)
  few_pool l m h = omega (arith, few_expected (reports l) (entry_listed e ts l m h), few_reported l m h)

  -- A RUN IS BOUNDED
  pub bounded : Bounded e ts
  bounded =
      record {
        all_events = few_events;
        distances = events_fit (most_events (length ts)) (length ts) false o ts (entry_coded e ts) ((entry_reads e ts).reads ts refl) (le_refl _) few_events;
        events_so_far = few_pushed;
        reports_so_far = few_reported;
        pool_so_far = few_pool;
        tree_rows = omega (arith, rows_length (tree e ts) 0 0, few_rows e ts);
        counts = few_children e ts;
        names = λ setting bytes. omega (arith, few_names setting e bytes ts);
        names_inside = λ setting bytes. names_within setting e bytes ts;
      }

pub runs_bounded : RunsBounded
runs_bounded e ts = bounded e ts

-- ---------------------------------------------------------------- a call

kind_cases : {P : Type 0} (a b c d f : Bool) → (a && b && c || d && f) ≡ true → (a ≡ true → P) → (f ≡ true → P) → P
kind_cases true b c d f e p q = p refl
kind_cases false b c true f e p q = q e
kind_cases false b c false f e p q = absurd (false≢true e)

kind_small : (k : ℕ) → is_kind k ≡ true → k < CODES
unfolding is_kind
kind_small k e =
    kind_cases (leb k K.QuestionMark) (not (eqb k K.Unrecognized)) (not (eqb k K.Name)) (leb L.UnexpectedEndIncbin k) (leb k L.Default) e
    (λ h. omega (arith, leb-true k K.QuestionMark h)) (λ h. omega (arith, leb-true k L.Default h))

good_kinded : (ts : List Token) → AllGood ts → Kinded ts
good_kinded [] g = tt
good_kinded (t ∷ ts) g = (kind_small t.kind g.0.kind, good_kinded ts g.1)

below_written : (l b : List ℕ) → Below TWO_TO_32 l → Below TWO_TO_32 (written l b)
below_written l b h = below_append TWO_TO_32 l _ h (below_zeros TWO_TO_32 (length b - length l) (omega arith))

-- what a run has written, within cause 2's limits
pub so_far : WordsSoFar
so_far e ts w l m h =
    let n : length ts ≤ MOST_TOKENS = w.tokens in
    let i : byte_count ts ≤ MOST_BYTES = w.input in
    let a : event_count l ≤ most_events (length ts) = few_pushed e ts l m h in
    let b : length (reports l) ≤ most_reports (length ts) = few_reported e ts l m h in
    let p : length (pool (reports l)) ≤ most_expectations (length ts) = few_pool e ts l m h in
    let r : AllCoded (reports l) = coded_left (reports l) (reports m) (subst AllCoded (ap reports h ∙ reports_append l m) (reports_coded (run_entry e ts) (entry_coded e ts))) in
    record {
      events_written = omega arith;
      reports_written = omega arith;
      pool_written = omega arith;
      report_words = report_numbers_below TWO_TO_32 (length ts) (byte_count ts) (omega arith) (omega arith) (omega arith) 0 (reports l) r (omega arith);
      pool_words = below_wider CODES TWO_TO_32 (pool (reports l)) (omega arith) (pool_below (reports l) (entry_listed e ts l m h));
    }

-- what an accepted call writes
module _ (setting : ℕ) (e : Entry) (bytes : List ℕ) (ts : List Token) (limits : WithinLimits ts) (k : Kinded ts) where
  -- the report rows of the run, and those of the Names
  abbrev reported : List ℕ
  reported = report_numbers (length ts) (byte_count ts) 0 (reports (pushes (run_entry e ts)))

  abbrev judged : List ℕ
  judged = name_numbers (length (pool (reports (pushes (run_entry e ts))))) (names_of setting e bytes ts)

  -- how many numbers they are
  few_report_numbers : length (reported ++ judged) < TWO_TO_32
  few_report_numbers =
      let n : length ts ≤ MOST_TOKENS = limits.tokens in
      omega (
        arith,
        length-append reported judged,
        report_numbers_length (length ts) (byte_count ts) 0 (reports (pushes (run_entry e ts))),
        few_reported e ts (pushes (run_entry e ts)) [] (sym (append-nil (pushes (run_entry e ts)))),
        name_numbers_length (length (pool (reports (pushes (run_entry e ts))))) (names_of setting e bytes ts),
        few_names setting e bytes ts,
      )

  pub sheets_fit : (b : Buffers) → Fits (kept (sheets e ts (run_entry e ts) (names_of setting e bytes ts)) b)
  unfolding sheets
  sheets_fit b =
      let l = reports (pushes (run_entry e ts)) in
      let x = lexical_errors 0 ts in
      let n : length ts ≤ MOST_TOKENS = limits.tokens in
      let i : byte_count ts ≤ MOST_BYTES = limits.input in
      let t : length (rows (tree e ts)) ≤ TREE_ROW * most_rows (length ts) = (bounded e ts).tree_rows in
      let s : SoFar ts (pushes (run_entry e ts)) = so_far e ts limits (pushes (run_entry e ts)) [] (sym (append-nil (pushes (run_entry e ts)))) in
      record {
        answer =
            record {
              number = omega arith;
              place = omega arith;
              tree_count = omega (arith, div-le_self (length (rows (tree e ts))) TREE_ROW);
              error_count = omega (arith, errors_most 0 ts, div-le_self (length x) ERROR_ROW);
              report_count = omega (arith, few_report_numbers, div-le_self (length (reported ++ judged)) REPORT_ROW);
              expectation_count = s.pool_written;
            };
        buffers =
            record {
              events = below_zeros TWO_TO_32 (length b.events) (omega arith);
              trees = below_written (rows (tree e ts)) b.trees (rows_below TWO_TO_32 (omega arith) e ts k (omega arith) (omega arith) (omega arith));
              errors = below_written x b.errors (errors_below TWO_TO_32 0 ts (omega arith) k (omega arith));
              reports =
                  below_written (reported ++ judged) b.reports
                  (below_append TWO_TO_32 reported judged s.report_words (name_numbers_below TWO_TO_32 (length ts) (byte_count ts) (length (pool l)) (names_of setting e bytes ts) (omega arith) (omega arith) (omega arith) s.pool_written (names_within setting e bytes ts)));
              pool = below_written (pool l) b.pool s.pool_words;
            };
      }

refusal_fits : (r : Refusal) → place_of r ≤ MOST_TOKEN_NUMBERS → AnswerFits (refusal r)
refusal_fits r h = record { number = omega (arith, number_small r); place = omega (arith, h); tree_count = omega arith; error_count = omega arith; report_count = omega arith; expectation_count = omega arith }

cleared_fits : (r : Refusal) (b : Buffers) → place_of r ≤ MOST_TOKEN_NUMBERS → Fits (cleared r b)
cleared_fits r b h =
    let z : (l : List ℕ) → Below TWO_TO_32 (zeros l) = λ l. below_zeros TWO_TO_32 (length l) (omega arith) in
    record { answer = refusal_fits r h; buffers = record { events = z b.events; trees = z b.trees; errors = z b.errors; reports = z b.reports; pool = z b.pool } }

module _ (setting : ℕ) (bytes tokens : List ℕ) (b : Buffers) (w : Words b) where
  -- after the run: whether the Names fit, and then the tree
  names_fitted : (e : Entry) → check_input bytes tokens ≡ accepted
      → (v : Verdict) → Placed (length (tokens_of tokens)) v → Fits (unless_refused v (sheets e (tokens_of tokens) (run_entry e (tokens_of tokens)) (names_of setting e bytes (tokens_of tokens))) b)
  unfolding unless_refused delivered place_of
  names_fitted e a (refused r) p = let i : Checked bytes tokens = checked_input bytes tokens a in cleared_fits r b (omega (arith, p, i.pairs, i.numbers_limit))
  names_fitted e a accepted p =
      let i : Checked bytes tokens = checked_input bytes tokens a in
      let s : Sheets = sheets e (tokens_of tokens) (run_entry e (tokens_of tokens)) (names_of setting e bytes (tokens_of tokens)) in
      cond-all Fits (leb (length s.trees) (length b.trees) && leb (length s.errors) (length b.errors))
      (sheets_fit setting e bytes (tokens_of tokens) (record { tokens = omega (arith, i.pairs, i.numbers_limit); input = omega (arith, i.covered, i.bytes_limit) }) (good_kinded (tokens_of tokens) i.good) b)
      (cleared_fits no_tree_room b (omega arith))

  parse_fits : (e : Entry) → check_input bytes tokens ≡ accepted → (f : Fit) → scan (pushes (run_entry e (tokens_of tokens))) (room_of b) ≡ f
      → Fits (outcome f e (tokens_of tokens) (run_entry e (tokens_of tokens)) (names_of setting e bytes (tokens_of tokens)) b)
  unfolding outcome place_of
  parse_fits e a (stops r) q =
      let i : Checked bytes tokens = checked_input bytes tokens a in
      let s : place_of (forward_mark (length (tokens_of tokens)) r) ≤ length (tokens_of tokens) = subst (Stopped (length (tokens_of tokens))) q (scan_stopped (length (tokens_of tokens)) (pushes (run_entry e (tokens_of tokens))) (room_of b)) in
      cleared_fits (forward_mark (length (tokens_of tokens)) r) b (omega (arith, i.pairs, i.numbers_limit))
  parse_fits e a (fits z) q =
      names_fitted e a (names_fit z.reports (names_of setting e bytes (tokens_of tokens)))
      (names_placed (length (tokens_of tokens)) (byte_count (tokens_of tokens)) z.reports (names_of setting e bytes (tokens_of tokens)) (names_within setting e bytes (tokens_of tokens)))

  checked_fits : (e : Entry) (v : Verdict) → check_input bytes tokens ≡ v → Fits (checked v e setting bytes tokens b)
  unfolding checked parse
  checked_fits e accepted a = parse_fits e a _ refl
  checked_fits e (refused r) a = let p : place_of r ≤ MOST_TOKEN_NUMBERS = subst (Placed MOST_TOKEN_NUMBERS) a (input_placed bytes tokens) in record { answer = refusal_fits r (omega arith); buffers = w }

  asked_fits : (x : Asked) → Fits (asked x setting bytes tokens b)
  unfolding asked place_of
  asked_fits unknown = record { answer = refusal_fits unknown_entry (omega arith); buffers = w }
  asked_fits (for e) = checked_fits e (check_input bytes tokens) refl

-- NUMBERS FIT
pub numbers_fit : NumbersFit
unfolding call
numbers_fit n setting bytes tokens b w = asked_fits setting bytes tokens b w (entry_of n)
