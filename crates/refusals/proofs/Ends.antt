-- What is returned at each end of a call: a refusal before the parse, one in it, and an accepted call.
use Prim.Native.Nat.{ℕ, zero, suc, ◌+◌, ◌-◌, ◌*◌, ◌/◌, ◌≤◌}
use native.Mathlib.Omega.{arith}
use mathlib.Core.Path.{◌≡◌, refl, ap, ◌∙◌}
use mathlib.Core.Logic.{inl, inr}
use mathlib.Core.Bool.{Bool, true, false, cond}
use mathlib.Core.List.{List, [], ◌∷◌, ◌++◌}
use lib.Dec.{leb}
use lib.ListN.{length, length-append, replicate, length-replicate}
use borrow.Author.Tests.{leb-true}
use Rattle.definitions.specs.Layout.{TREE_ROW, ERROR_ROW, REPORT_ROW}
use Rattle.definitions.specs.Token.{tokens_of, byte_count}
use Rattle.definitions.specs.Grammar.{Entry, root_kind}
use Rattle.definitions.specs.Place.{root}
use Rattle.definitions.specs.Skeleton.{Report}
use Rattle.definitions.specs.Report.{Push, event, reported, exceeded, pushes, Room, Fit, fits, stops, one_event, one_report, scan, reports, report_numbers, pool}
use Rattle.definitions.specs.Refusal.{Refusal, unknown_entry, too_long, odd_count, bad_kind, zero_length, past_input, short_total, bad_text, too_deep, no_event_room, no_report_room, no_tree_room, number_of, place_of, accepted}
use Rattle.definitions.specs.Strict.{NameAt, name_numbers, names_fit}
use Rattle.definitions.specs.Call.{Buffers, untouched, cleared, sheets, written, kept, room_of, run_entry}
use Rattle.laws.proofs.Decode.{rows_length}
use Rattle.laws.proofs.LexicalErrors.{errors_length}
use Rattle.refusals.specs.Refusals.{entry_number, named, to_write, TreeFits}
use Rattle.refusals.specs.Answered.{Filled, Written, BeforeTheParse, InTheParse, Returns}
use Rattle.laws.proofs.ReportNumbers.{report_numbers_length, name_numbers_length}
use Rattle.laws.proofs.Scan.{stops_never}

-- ---------------------------------------------------------------- refusals

no_place : (r : Refusal) → (number_of r ≤ 2 → place_of r ≡ 0) × (number_of r ≡ 8 → place_of r ≡ 0)
unfolding number_of place_of
no_place unknown_entry = (λ h. refl, λ h. refl)
no_place too_long = (λ h. refl, λ h. refl)
no_place (odd_count i) = (λ h. absurd (omega (arith, h)), λ h. absurd (omega (arith, h)))
no_place (bad_kind i) = (λ h. absurd (omega (arith, h)), λ h. absurd (omega (arith, h)))
no_place (zero_length i) = (λ h. absurd (omega (arith, h)), λ h. absurd (omega (arith, h)))
no_place (past_input i) = (λ h. absurd (omega (arith, h)), λ h. absurd (omega (arith, h)))
no_place (short_total i) = (λ h. absurd (omega (arith, h)), λ h. absurd (omega (arith, h)))
no_place (bad_text i) = (λ h. absurd (omega (arith, h)), λ h. absurd (omega (arith, h)))
no_place (too_deep i) = (λ h. absurd (omega (arith, h)), λ h. absurd (omega (arith, h)))
no_place (no_event_room i) = (λ h. absurd (omega (arith, h)), λ h. absurd (omega (arith, h)))
no_place (no_report_room i) = (λ h. absurd (omega (arith, h)), λ h. absurd (omega (arith, h)))
no_place no_tree_room = (λ h. refl, λ h. refl)

-- the two are apart, and neither is 0
apart : (k : ℕ) → BeforeTheParse k → InTheParse k → ⊥
apart k (inl h) g = omega (arith, h.1, g.0)
apart k (inr h) g = omega (arith, h.0, g.1)

not_0 : (k : ℕ) → BeforeTheParse k → 1 ≤ k
not_0 k (inl h) = h.0
not_0 k (inr h) = omega (arith, h.0)

module _ (n setting : ℕ) (bytes tokens : List ℕ) (b : Buffers) where
  pub left_as_it_was : (r : Refusal) → BeforeTheParse (number_of r) → Returns n setting bytes tokens b (untouched r b)
  left_as_it_was r h =
      record {
        listed = inr (inl h);
        accepted = λ e. absurd (omega (arith, e, not_0 (number_of r) h));
        as_it_was = λ p. refl;
        all_zero = λ p. absurd (apart (number_of r) h p);
        no_counts = λ p. record { tree_count = refl; error_count = refl; report_count = refl; expectation_count = refl };
        no_place = no_place r;
        lengths = record { events = refl; trees = refl; errors = refl; reports = refl; pool = refl };
      }

  pub left_zero : (r : Refusal) → InTheParse (number_of r) → Returns n setting bytes tokens b (cleared r b)
  left_zero r h =
      record {
        listed = inr (inr h);
        accepted = λ e. absurd (omega (arith, e, h.0));
        as_it_was = λ p. absurd (apart (number_of r) p h);
        all_zero = λ p. record { events = refl; trees = refl; errors = refl; reports = refl; pool = refl };
        no_counts = λ p. record { tree_count = refl; error_count = refl; report_count = refl; expectation_count = refl };
        no_place = no_place r;
        lengths =
            record {
              events = length-replicate (length b.events) 0;
              trees = length-replicate (length b.trees) 0;
              errors = length-replicate (length b.errors) 0;
              reports = length-replicate (length b.reports) 0;
              pool = length-replicate (length b.pool) 0;
            };
      }

-- ---------------------------------------------------------------- an accepted call

-- the reports of what is pushed and those that fit after it, and the expectations, are no more than there is room for
abbrev InRoom : List Push → Room → ℕ → ℕ → Type 0
InRoom l y r p = (length (reports l) + y.reports ≤ r) × (length (pool (reports l)) ≤ p)

event_room : (l : List Push) (m e r p : ℕ) (k : Room → Fit) (y : Room) → ((z : Room) → k z ≡ fits y → InRoom l y z.reports z.pool) → one_event m e r p k ≡ fits y → InRoom l y r p
unfolding one_event
event_room l m zero r p k y h e = absurd (stops_never (no_event_room m) y e)
event_room l m (suc n) r p k y h e = h (record { events = n; reports = r; pool = p }) e

-- x: the report
report_room : (x : Report) (l : List Push) (m e r p : ℕ) (k : Room → Fit) (y : Room) → ((z : Room) → k z ≡ fits y → InRoom l y z.reports z.pool)
    → one_report m (length x.pool) e r p k ≡ fits y → InRoom (reported x ∷ l) y r p
unfolding one_report reports pool
report_room x l m e zero p k y h q = absurd (stops_never (no_report_room m) y q)
report_room x l m e (suc r) p k y h q = by (leb (length x.pool) p) refl q
  where
    by : (t : Bool) → leb (length x.pool) p ≡ t → cond t (k (record { events = e; reports = r; pool = p - length x.pool })) (stops (no_report_room m)) ≡ fits y
        → (suc (length (reports l)) + y.reports ≤ suc r) × (length (x.pool ++ pool (reports l)) ≤ p)
    by true w f =
        let c : length x.pool ≤ p = leb-true (length x.pool) p w in
        let g : InRoom l y r (p - length x.pool) = h (record { events = e; reports = r; pool = p - length x.pool }) f in
        (omega (arith, g.0), omega (arith, g.1, c, length-append x.pool (pool (reports l))))
    by false w f = absurd (stops_never (no_report_room m) y f)

scan_room : (l : List Push) (z y : Room) → scan l z ≡ fits y → InRoom l y z.reports z.pool
unfolding scan reports pool
scan_room [] z y h = let e : z ≡ y = cc in (rw e (omega arith), omega arith)
scan_room (event m ∷ l) z y h = event_room l m z.events z.reports z.pool (scan l) y (λ x. scan_room l x y) h
scan_room (reported r ∷ l) z y h =
    event_room (reported r ∷ l) r.mark z.events z.reports z.pool (λ x. one_report r.mark (length r.pool) x.events x.reports x.pool (scan l)) y
    (λ x. report_room r l r.mark x.events x.reports x.pool (scan l) y (λ w. scan_room l w y)) h
scan_room (exceeded m ∷ l) z y h = absurd (stops_never (too_deep m) y h)

filled : (size count : ℕ) (l was : List ℕ) → length l ≡ size * count → length l ≤ length was → Filled size count l was (written l was)
filled size count l was h g = record { whole_rows = h; fits = g; then_zeros = refl }

filled_length : (size count : ℕ) (l was is : List ℕ) → Filled size count l was is → length is ≡ length was
filled_length size count l was is f =
    ap length f.then_zeros ∙ length-append l (replicate (length was - length l) 0) ∙ omega (arith, length-replicate {A = ℕ} (length was - length l) 0, f.fits)

-- Names whose reports fit are no more than there is room for
names_room : (room : ℕ) (l : List NameAt) → names_fit room l ≡ accepted → length l ≤ room
unfolding names_fit
names_room room [] h = omega arith
names_room zero (x ∷ l) h = let q : ◌≡◌ {A = ℕ} 0 1 = cc in absurd (omega arith)
names_room (suc room) (x ∷ l) h = omega (arith, names_room room l h)

module _ (n setting : ℕ) (bytes tokens : List ℕ) (b : Buffers) where
  pub left_written : (e : Entry) → entry_number e ≡ n → (z : Room) → scan (pushes (run_entry e (tokens_of tokens))) (room_of b) ≡ fits z → names_fit z.reports (named setting e bytes tokens) ≡ accepted
      → TreeFits setting e bytes tokens b → Returns n setting bytes tokens b (kept (to_write setting e bytes tokens) b)
  unfolding sheets
  left_written e h z f v t =
      record {
        listed = inl refl;
        accepted = λ q. (e, h, w);
        as_it_was = λ p. absurd (omega (arith, not_0 0 p));
        all_zero = λ p. absurd (omega (arith, p.0));
        no_counts = λ p. absurd (omega (arith, p));
        no_place = (λ p. refl, λ p. refl);
        lengths =
            record {
              events = length-replicate (length b.events) 0;
              trees = filled_length TREE_ROW _ _ _ _ w.trees;
              errors = filled_length ERROR_ROW _ _ _ _ w.errors;
              reports = filled_length REPORT_ROW _ _ _ _ w.reports;
              pool = filled_length 1 _ _ _ _ w.pool;
            };
      }
    where
      l : List Report
      l = reports (pushes (run_entry e (tokens_of tokens)))

      x : List ℕ
      x = report_numbers (length (tokens_of tokens)) (byte_count (tokens_of tokens)) 0 l

      y : List ℕ
      y = name_numbers (length (pool l)) (named setting e bytes tokens)

      g : InRoom (pushes (run_entry e (tokens_of tokens))) z (length b.reports / REPORT_ROW) (length b.pool)
      g = scan_room (pushes (run_entry e (tokens_of tokens))) (room_of b) z f

      -- as many report rows as the run and the Names have
      s : length (x ++ y) ≡ REPORT_ROW * (length l + length (named setting e bytes tokens))
      s =
          omega (
            arith,
            length-append x y,
            report_numbers_length (length (tokens_of tokens)) (byte_count (tokens_of tokens)) 0 l,
            name_numbers_length (length (pool l)) (named setting e bytes tokens),
          )

      w : Written (to_write setting e bytes tokens) b (kept (to_write setting e bytes tokens) b)
      w =
          record {
            trees = filled TREE_ROW _ (to_write setting e bytes tokens).trees b.trees (omega (arith, rows_length (root (root_kind e) (run_entry e (tokens_of tokens)) (tokens_of tokens)) 0 0)) t.0;
            errors = filled ERROR_ROW _ (to_write setting e bytes tokens).errors b.errors (omega (arith, errors_length 0 (tokens_of tokens))) t.1;
            reports =
                filled REPORT_ROW _ (to_write setting e bytes tokens).reports b.reports (omega (arith, s))
                (omega (arith, s, g.0, names_room z.reports (named setting e bytes tokens) v));
            pool = filled 1 _ (to_write setting e bytes tokens).pool b.pool (omega arith) g.1;
            events = refl;
          }
