-- From what a call returns to its cause, and to what it leaves in the buffers: every way that a call goes, once.
use Prim.Native.Nat.{ℕ, ◌/◌}
use native.Mathlib.Omega.{arith}
use mathlib.Core.Path.{◌≡◌, refl, subst}
use mathlib.Core.Logic.{inl, inr}
use mathlib.Core.Bool.{Bool, cond, ◌&&◌}
use mathlib.Core.List.{List}
use lib.Dec.{leb}
use lib.ListN.{length}
use Rattle.definitions.specs.Layout.{TOKEN_ROW}
use Rattle.definitions.specs.Token.{Token, tokens_of}
use Rattle.definitions.specs.Grammar.{Entry}
use Rattle.definitions.specs.Report.{Room, Fit, fits, pushes, scan}
use Rattle.definitions.specs.Refusal.{Refusal, too_long, bad_text, too_deep, number_of, place_of, Verdict, accepted, ◌or_else◌, unless, check_sizes, check_texts}
use Rattle.definitions.specs.RowCauses.{check_count, check_rows, check_input}
use Rattle.definitions.specs.Refusal as R
use Rattle.definitions.specs.Strict.{names_fit}
use Rattle.definitions.specs.Call.{Buffers, Result, untouched, cleared, kept, delivered, forward_mark, unless_refused, outcome, room_of, run_entry, parse, Asked, entry_of, checked, asked, call}
use Rattle.basics.proofs.TokenRows.{tokens_length}
use Rattle.refusals.specs.First.{Each, First}
use Rattle.refusals.specs.Trace.{Happening, call_opened, event_pushed, report_written}
use Rattle.refusals.specs.Refusals.{Passes1, Sizes, Passes2, WholeRows, Passes3, GoodRow, Passes13, Passes4, Unrefused, happens, from_start, named, to_write, TreeFits, FirstMet, Passes7, Cause, unknown_entry, over_size, odd_count, bad_kind, zero_length, past_input, short_total, wrong_text, call_too_many, no_event_room, no_report_room, no_name_room, no_tree_room, none}
use Rattle.refusals.specs.Answered.{BeforeTheParse, InTheParse, Returns}
use Rattle.refusals.proofs.Climbs.{the_65th}
use Rattle.refusals.proofs.Judged.{refusal_for, Ends, all_fits, first_stops, run_ends}
use Rattle.refusals.proofs.Named.{Names, all_reported, first_left, judged_names}
use Rattle.refusals.proofs.Ends.{left_as_it_was, left_zero, left_written}
use Rattle.refusals.proofs.Tests.{Decides, holds, not_so, both, leb_decides}
use Rattle.refusals.proofs.Rows.{sizes_decides, whole_decides, Wrong, its_kind, its_length, its_end, Rows, good_rows, bad_one, too_short, judged_rows}
use Rattle.refusals.proofs.Texts.{Texts, right_texts, wrong_one, judged_texts}
use Rattle.refusals.proofs.Entries.{Asks, known, not_known, asks}

pub tree_decides : (setting : ℕ) (bytes tokens : List ℕ) (b : Buffers) (e : Entry) → Decides (TreeFits setting e bytes tokens b)
    (leb (length (to_write setting e bytes tokens).trees) (length b.trees) && leb (length (to_write setting e bytes tokens).errors) (length b.errors))
tree_decides setting bytes tokens b e = both _ _ (leb_decides _ (length b.trees)) (leb_decides _ (length b.errors))

module _ (n setting : ℕ) (bytes tokens : List ℕ) (b : Buffers) where
  abbrev pub Found : Result → Type 0
  Found x = Cause n setting bytes tokens b x.answer.number x.answer.place × Returns n setting bytes tokens b x

  -- a refusal whose cause is there, before the parse and in it
  refused_found : (r : Refusal) → BeforeTheParse (number_of r) → Cause n setting bytes tokens b (number_of r) (place_of r) → Found (untouched r b)
  refused_found r h c = (c, left_as_it_was n setting bytes tokens b r h)

  zero_found : (r : Refusal) → InTheParse (number_of r) → Cause n setting bytes tokens b (number_of r) (place_of r) → Found (cleared r b)
  zero_found r h c = (c, left_zero n setting bytes tokens b r h)

  first_found : (e : Entry) → Passes4 n bytes tokens e → (before : List Happening) (x : Happening) → First (Unrefused b) (happens e tokens) before x → Found (cleared (forward_mark (length (tokens_of tokens)) (refusal_for x)) b)
  unfolding forward_mark number_of place_of
  first_found e p before (call_opened c m) f = zero_found (too_deep (from_start tokens m)) (omega arith, omega arith)
      (call_too_many e p before m (subst (λ (k : ℕ). FirstMet e tokens b before (call_opened k m)) (the_65th b e tokens before c m f) f))
  first_found e p before (event_pushed m) f = zero_found (R.no_event_room (from_start tokens m)) (omega arith, omega arith) (no_event_room e p before m f)
  first_found e p before (report_written c m) f = zero_found (R.no_report_room (from_start tokens m)) (omega arith, omega arith) (no_report_room e p before c m f)

  tree_found : (e : Entry) → Passes7 n setting bytes tokens b e → (z : Room) → scan (pushes (run_entry e (tokens_of tokens))) (room_of b) ≡ fits z → names_fit z.reports (named setting e bytes tokens) ≡ accepted
      → (t : Bool) → Decides (TreeFits setting e bytes tokens b) t
      → Found (cond t (kept (to_write setting e bytes tokens) b) (cleared R.no_tree_room b))
  unfolding number_of place_of
  tree_found e p z q v t (holds g) = (none e p g, left_written n setting bytes tokens b e p.0.0.0.0.0 z q v g)
  tree_found e p z q v t (not_so g) = zero_found R.no_tree_room (omega arith, omega arith) (no_tree_room e p g)

  names_found : (e : Entry) → Passes4 n bytes tokens e → (z : Room) → scan (pushes (run_entry e (tokens_of tokens))) (room_of b) ≡ fits z → Each (Unrefused b) (happens e tokens)
      → (v : Verdict) → names_fit z.reports (named setting e bytes tokens) ≡ v → Names e tokens b (named setting e bytes tokens) v → Found (unless_refused v (to_write setting e bytes tokens) b)
  unfolding unless_refused delivered number_of place_of
  names_found e p z q h v w (all_reported g) = tree_found e (p, h, g) z q w _ (tree_decides setting bytes tokens b e)
  names_found e p z q h v w (first_left before x f) = zero_found (R.no_report_room x.first_token) (omega arith, omega arith) (no_name_room e p h before x f)

  run_found : (e : Entry) → Passes4 n bytes tokens e → (f : Fit) → scan (pushes (run_entry e (tokens_of tokens))) (room_of b) ≡ f → Ends b (happens e tokens) f
      → Found (outcome f e (tokens_of tokens) (run_entry e (tokens_of tokens)) (named setting e bytes tokens) b)
  unfolding outcome
  run_found e p f q (all_fits z r h) =
      names_found e p z q h (names_fit z.reports (named setting e bytes tokens)) refl (judged_names e tokens b z r (named setting e bytes tokens))
  run_found e p f q (first_stops before x h) = first_found e p before x h

  texts_found : (e : Entry) → Passes13 n bytes tokens e → (v : Verdict) → Texts bytes (tokens_of tokens) v → Found (checked v e setting bytes tokens b)
  unfolding checked parse number_of place_of
  texts_found e p v (right_texts h) = run_found e (p, h) _ refl (run_ends b e tokens)
  texts_found e p v (wrong_one before t f) = refused_found (bad_text (length before)) (inl (omega arith, omega arith)) (wrong_text e p before t f)

  wrong_found : (e : Entry) → Passes3 n bytes tokens e → (before : List Token) (t : Token) (r : Refusal) → First (GoodRow bytes) (tokens_of tokens) before t → Wrong bytes before t r
      → Found (untouched r b)
  unfolding number_of place_of
  wrong_found e p before t r f (its_kind h) = refused_found (R.bad_kind (length before)) (inr (omega arith, omega arith)) (bad_kind e p before t f h)
  wrong_found e p before t r f (its_length k h) = refused_found (R.zero_length (length before)) (inr (omega arith, omega arith)) (zero_length e p before t f k h)
  wrong_found e p before t r f (its_end k l h) = refused_found (R.past_input (length before)) (inr (omega arith, omega arith)) (past_input e p before t f k l h)

  rows_found : (e : Entry) → Passes3 n bytes tokens e → (v : Verdict) → Rows bytes (tokens_of tokens) v → Found (checked (v or_else check_texts 0 bytes (tokens_of tokens)) e setting bytes tokens b)
  unfolding checked ◌or_else◌ number_of place_of
  rows_found e p v (good_rows h c) = texts_found e (p, h, c) _ (judged_texts bytes (tokens_of tokens))
  rows_found e p v (bad_one before t r f w) = wrong_found e p before t r f w
  rows_found e p v (too_short h c) = refused_found (R.short_total (length (tokens_of tokens))) (inr (omega arith, omega arith)) (short_total e p h c)

  count_found : (e : Entry) → Passes2 n bytes tokens e → (t : Bool) → Decides (WholeRows tokens) t
      → Found (checked (unless t (R.odd_count (length tokens / TOKEN_ROW)) or_else (check_rows 0 0 (length bytes) (tokens_of tokens) or_else check_texts 0 bytes (tokens_of tokens))) e setting bytes tokens b)
  unfolding checked ◌or_else◌ number_of place_of
  count_found e p t (holds h) = rows_found e (p, h) _ (judged_rows bytes (tokens_of tokens))
  count_found e p t (not_so h) =
      refused_found (R.odd_count (length tokens / TOKEN_ROW)) (inl (omega arith, omega arith))
      (subst (Cause n setting bytes tokens b 3) (tokens_length tokens) (odd_count e p h))

  sizes_found : (e : Entry) → Passes1 n e → (t : Bool) → Decides (Sizes bytes tokens) t
      → Found (checked (unless t too_long or_else (check_count tokens or_else (check_rows 0 0 (length bytes) (tokens_of tokens) or_else check_texts 0 bytes (tokens_of tokens)))) e setting bytes tokens b)
  unfolding checked ◌or_else◌ check_count number_of place_of
  sizes_found e p t (holds h) = count_found e (p, h) _ (whole_decides tokens)
  sizes_found e p t (not_so h) = refused_found too_long (inl (omega arith, omega arith)) (over_size e p h)

  entry_found : (x : Asked) → Asks n x → Found (asked x setting bytes tokens b)
  unfolding asked check_input check_sizes number_of place_of
  entry_found x (known e p) = sizes_found e p _ (sizes_decides bytes tokens)
  entry_found x (not_known h) = refused_found R.unknown_entry (inl (omega arith, omega arith)) (unknown_entry h)

  pub found : Found (call n setting bytes tokens b)
  unfolding call
  found = entry_found (entry_of n) (asks n)
