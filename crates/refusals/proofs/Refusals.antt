-- From a cause to what is returned; and the statements of specs/Refusals.antt and specs/Answered.antt.
use Prim.Native.Nat.{ℕ, suc, ◌/◌, ◌<◌}
use native.Mathlib.Omega.{arith}
use mathlib.Core.Path.{◌≡◌, refl, sym, ap, subst₂, ◌∙◌}
use mathlib.Core.Bool.{Bool, cond}
use mathlib.Core.List.{List}
use lib.ListN.{length}
use Rattle.definitions.specs.Layout.{TOKEN_ROW}
use Rattle.definitions.specs.Token.{Token, tokens_of, byte_count}
use Rattle.definitions.specs.Grammar.{Entry}
use Rattle.definitions.specs.Report.{Room, Fit, fits, stops, pushes, scan}
use Rattle.definitions.specs.Refusal.{Refusal, too_long, bad_text, number_of, place_of, Verdict, accepted, refused, ◌or_else◌, unless, check_sizes, check_texts}
use Rattle.definitions.specs.RowCauses.{check_count, check_rows, check_input}
use Rattle.definitions.specs.Refusal as R
use Rattle.definitions.specs.Call.{Buffers, Result, untouched, cleared, kept, delivered, forward_mark, unless_refused, outcome, room_of, run_entry, parse, Asked, checked, asked, call}
use Rattle.basics.proofs.TokenRows.{tokens_length}
use Rattle.refusals.specs.First.{Each, First}
use Rattle.refusals.specs.Trace.{Happening, call_opened, event_pushed, report_written}
use Rattle.refusals.specs.Refusals.{MAX_OPEN, Passes1, Sizes, WholeRows, Passes3, GoodRow, Covers, Passes13, RightText, Passes4, Unrefused, happens, named, to_write, Passes7, Cause, unknown_entry, over_size, odd_count, bad_kind, zero_length, past_input, short_total, wrong_text, call_too_many, no_event_room, no_report_room, no_name_room, no_tree_room, none, Refusals}
use Rattle.refusals.specs.Answered.{Answered}
use Rattle.refusals.proofs.Firsts.{only_first, first_each}
use Rattle.refusals.proofs.Named.{Names, judged_names, names_pass, names_fail}
use Rattle.refusals.proofs.Judged.{refusal_for, RowsLeft, Ends, all_fits, first_stops, run_ends}
use Rattle.refusals.proofs.Tests.{decided, refuted}
use Rattle.refusals.proofs.Rows.{sizes_decides, whole_decides, Wrong, its_kind, its_length, its_end, only_wrong, Rows, good_rows, bad_one, too_short, judged_rows}
use Rattle.refusals.proofs.Texts.{Texts, right_texts, wrong_one, judged_texts}
use Rattle.refusals.proofs.Entries.{entry_eq, unknown_eq}
use Rattle.refusals.proofs.Found.{tree_decides, found}

-- ---------------------------------------------------------------- the checks

module _ (bytes tokens : List ℕ) where
  sizes_kept : Sizes bytes tokens → check_sizes bytes tokens ≡ accepted
  unfolding check_sizes
  sizes_kept h = ap (λ (t : Bool). unless t too_long) (decided _ (sizes_decides bytes tokens) h)

  sizes_broken : ¬ Sizes bytes tokens → check_sizes bytes tokens ≡ refused too_long
  unfolding check_sizes
  sizes_broken h = ap (λ (t : Bool). unless t too_long) (refuted _ (sizes_decides bytes tokens) h)

  count_kept : WholeRows tokens → check_count tokens ≡ accepted
  unfolding check_count
  count_kept h = ap (λ (t : Bool). unless t (R.odd_count (length tokens / TOKEN_ROW))) (decided _ (whole_decides tokens) h)

  count_broken : ¬ WholeRows tokens → check_count tokens ≡ refused (R.odd_count (length (tokens_of tokens)))
  unfolding check_count
  count_broken h =
      ap (λ (t : Bool). unless t (R.odd_count (length tokens / TOKEN_ROW))) (refuted _ (whole_decides tokens) h)
      ∙ ap (λ (i : ℕ). refused (R.odd_count i)) (sym (tokens_length tokens))

  rows_pass : Each (GoodRow bytes) (tokens_of tokens) → Covers bytes tokens → (v : Verdict) → Rows bytes (tokens_of tokens) v → v ≡ accepted
  rows_pass h c v (good_rows g d) = refl
  rows_pass h c v (bad_one before t r f w) = absurd (first_each (GoodRow bytes) (tokens_of tokens) before t f h)
  rows_pass h c v (too_short g d) = absurd (omega (arith, c, d))

  rows_fail : (before : List Token) (t : Token) (r : Refusal) → First (GoodRow bytes) (tokens_of tokens) before t → Wrong bytes before t r → (v : Verdict) → Rows bytes (tokens_of tokens) v → v ≡ refused r
  rows_fail before t r f w v (good_rows g d) = absurd (first_each (GoodRow bytes) (tokens_of tokens) before t f g)
  rows_fail before t r f w v (bad_one before' t' r' f' w') =
      let e = only_first (GoodRow bytes) (tokens_of tokens) before' before t' t f' f in
      ap refused (only_wrong bytes before t r' r (subst₂ (λ (l : List Token) (x : Token). Wrong bytes l x r') e.0 e.1 w') w)
  rows_fail before t r f w v (too_short g d) = absurd (first_each (GoodRow bytes) (tokens_of tokens) before t f g)

  rows_short : Each (GoodRow bytes) (tokens_of tokens) → byte_count (tokens_of tokens) < length bytes → (v : Verdict) → Rows bytes (tokens_of tokens) v → v ≡ refused (R.short_total (length (tokens_of tokens)))
  rows_short h c v (good_rows g d) = absurd (omega (arith, c, d))
  rows_short h c v (bad_one before t r f w) = absurd (first_each (GoodRow bytes) (tokens_of tokens) before t f h)
  rows_short h c v (too_short g d) = refl

  texts_pass : Each (RightText bytes) (tokens_of tokens) → (v : Verdict) → Texts bytes (tokens_of tokens) v → v ≡ accepted
  texts_pass h v (right_texts g) = refl
  texts_pass h v (wrong_one before t f) = absurd (first_each (RightText bytes) (tokens_of tokens) before t f h)

  texts_fail : (before : List Token) (t : Token) → First (RightText bytes) (tokens_of tokens) before t → (v : Verdict) → Texts bytes (tokens_of tokens) v → v ≡ refused (bad_text (length before))
  texts_fail before t f v (right_texts g) = absurd (first_each (RightText bytes) (tokens_of tokens) before t f g)
  texts_fail before t f v (wrong_one before' t' f') = ap (λ (l : List Token). refused (bad_text (length l))) (only_first (RightText bytes) (tokens_of tokens) before' before t' t f' f).0

  input_sizes : check_sizes bytes tokens ≡ refused too_long → check_input bytes tokens ≡ refused too_long
  unfolding check_input ◌or_else◌
  input_sizes h = rw h

  input_count : (r : Refusal) → check_sizes bytes tokens ≡ accepted → check_count tokens ≡ refused r → check_input bytes tokens ≡ refused r
  unfolding check_input ◌or_else◌
  input_count r h g = rw (h, g)

  input_rows : (r : Refusal) → check_sizes bytes tokens ≡ accepted → check_count tokens ≡ accepted → check_rows 0 0 (length bytes) (tokens_of tokens) ≡ refused r → check_input bytes tokens ≡ refused r
  unfolding check_input ◌or_else◌
  input_rows r h k g = rw (h, k, g)

  input_texts : (v : Verdict) → check_sizes bytes tokens ≡ accepted → check_count tokens ≡ accepted → check_rows 0 0 (length bytes) (tokens_of tokens) ≡ accepted → check_texts 0 bytes (tokens_of tokens) ≡ v → check_input bytes tokens ≡ v
  unfolding check_input ◌or_else◌
  input_texts v h k g f = rw (h, k, g, f)

-- ---------------------------------------------------------------- the run

module _ (b : Buffers) (l : List Happening) where
  run_fits : Each (Unrefused b) l → (f : Fit) → Ends b l f → (z : Room) × (f ≡ fits z) × RowsLeft b l z
  run_fits h f (all_fits z r g) = (z, refl, r)
  run_fits h f (first_stops before x g) = absurd (first_each (Unrefused b) l before x g h)

  run_stops : (before : List Happening) (x : Happening) → First (Unrefused b) l before x → (f : Fit) → Ends b l f → f ≡ stops (refusal_for x)
  run_stops before x h f (all_fits z r g) = absurd (first_each (Unrefused b) l before x h g)
  run_stops before x h f (first_stops before' x' g) = ap (λ (y : Happening). stops (refusal_for y)) (only_first (Unrefused b) l before' before x' x g h).1

module _ (n setting : ℕ) (bytes tokens : List ℕ) (b : Buffers) where
  abbrev Returned : ℕ → ℕ → Type 0
  Returned k p = ((call n setting bytes tokens b).answer.number ≡ k) × ((call n setting bytes tokens b).answer.place ≡ p)

  returned : (x : Result) → call n setting bytes tokens b ≡ x → Returned x.answer.number x.answer.place
  returned x h = (ap (λ (y : Result). y.answer.number) h, ap (λ (y : Result). y.answer.place) h)

  checks : (e : Entry) → Passes1 n e → (v : Verdict) → check_input bytes tokens ≡ v → call n setting bytes tokens b ≡ checked v e setting bytes tokens b
  unfolding call asked
  checks e p v h = ap (λ (x : Asked). asked x setting bytes tokens b) (entry_eq n e p) ∙ ap (λ (w : Verdict). checked w e setting bytes tokens b) h

  refuses : (e : Entry) → Passes1 n e → (r : Refusal) → check_input bytes tokens ≡ refused r → Returned (number_of r) (place_of r)
  unfolding checked
  refuses e p r h = returned (untouched r b) (checks e p (refused r) h)

  input_13 : (e : Entry) → Passes3 n bytes tokens e → (r : Refusal) → ((v : Verdict) → Rows bytes (tokens_of tokens) v → v ≡ refused r) → Returned (number_of r) (place_of r)
  input_13 e p r h = refuses e p.0.0 r (input_rows bytes tokens r (sizes_kept bytes tokens p.0.1) (count_kept bytes tokens p.1) (h _ (judged_rows bytes (tokens_of tokens))))

  input_4 : (e : Entry) → Passes13 n bytes tokens e → (v : Verdict) → ((w : Verdict) → Texts bytes (tokens_of tokens) w → w ≡ v) → check_input bytes tokens ≡ v
  input_4 e p v h =
      input_texts bytes tokens v (sizes_kept bytes tokens p.0.0.1) (count_kept bytes tokens p.0.1) (rows_pass bytes tokens p.1 p.2 _ (judged_rows bytes (tokens_of tokens)))
      (h _ (judged_texts bytes (tokens_of tokens)))

  runs : (e : Entry) → Passes4 n bytes tokens e → (f : Fit) → scan (pushes (run_entry e (tokens_of tokens))) (room_of b) ≡ f → call n setting bytes tokens b ≡ outcome f e (tokens_of tokens) (run_entry e (tokens_of tokens)) (named setting e bytes tokens) b
  unfolding checked parse
  runs e p f h =
      checks e p.0.0.0.0 accepted (input_4 e p.0 accepted (texts_pass bytes tokens p.1)) ∙ ap (λ (g : Fit). outcome g e (tokens_of tokens) (run_entry e (tokens_of tokens)) (named setting e bytes tokens) b) h

  stops_at : (e : Entry) → Passes4 n bytes tokens e → (before : List Happening) (x : Happening) → First (Unrefused b) (happens e tokens) before x
      → Returned (number_of (forward_mark (length (tokens_of tokens)) (refusal_for x))) (place_of (forward_mark (length (tokens_of tokens)) (refusal_for x)))
  unfolding outcome
  stops_at e p before x f =
      returned (cleared (forward_mark (length (tokens_of tokens)) (refusal_for x)) b) (runs e p (stops (refusal_for x)) (run_stops b (happens e tokens) before x f _ (run_ends b e tokens)))

  -- after the run
  passes : (e : Entry) → Passes4 n bytes tokens e → Each (Unrefused b) (happens e tokens) → (v : Verdict) → ((w : Verdict) → Names e tokens b (named setting e bytes tokens) w → w ≡ v)
      → call n setting bytes tokens b ≡ unless_refused v (to_write setting e bytes tokens) b
  unfolding outcome
  passes e p h v k =
      let g : (z : Room) × (scan (pushes (run_entry e (tokens_of tokens))) (room_of b) ≡ fits z) × RowsLeft b (happens e tokens) z = run_fits b (happens e tokens) h _ (run_ends b e tokens) in
      runs e p (fits g.0) g.1
      ∙ ap (λ (w : Verdict). unless_refused w (to_write setting e bytes tokens) b) (k _ (judged_names e tokens b g.0 g.2 (named setting e bytes tokens)))

  finishes : (e : Entry) → Passes7 n setting bytes tokens b e → call n setting bytes tokens b ≡ delivered (to_write setting e bytes tokens) b
  unfolding unless_refused
  finishes e p = passes e p.0 p.1 accepted (names_pass e tokens b (named setting e bytes tokens) p.2)

  returns : (k p : ℕ) → Cause n setting bytes tokens b k p → Returned k p
  unfolding number_of place_of forward_mark unless_refused delivered asked call
  returns k p (unknown_entry h) = returned (untouched R.unknown_entry b) (ap (λ (x : Asked). asked x setting bytes tokens b) (unknown_eq n h))
  returns k p (over_size e q h) = refuses e q too_long (input_sizes bytes tokens (sizes_broken bytes tokens h))
  returns k p (odd_count e q h) = refuses e q.0 (R.odd_count (length (tokens_of tokens))) (input_count bytes tokens _ (sizes_kept bytes tokens q.1) (count_broken bytes tokens h))
  returns k p (bad_kind e q before t f h) = input_13 e q (R.bad_kind (length before)) (rows_fail bytes tokens before t _ f (its_kind h))
  returns k p (zero_length e q before t f h z) = input_13 e q (R.zero_length (length before)) (rows_fail bytes tokens before t _ f (its_length h z))
  returns k p (past_input e q before t f h o l) = input_13 e q (R.past_input (length before)) (rows_fail bytes tokens before t _ f (its_end h o l))
  returns k p (short_total e q h c) = input_13 e q (R.short_total (length (tokens_of tokens))) (rows_short bytes tokens h c)
  returns k p (wrong_text e q before t f) = refuses e q.0.0.0 (bad_text (length before)) (input_4 e q (refused (bad_text (length before))) (texts_fail bytes tokens before t f))
  returns k p (call_too_many e q before m f) = stops_at e q before (call_opened (suc MAX_OPEN) m) f
  returns k p (no_event_room e q before m f) = stops_at e q before (event_pushed m) f
  returns k p (no_report_room e q before c m f) = stops_at e q before (report_written c m) f
  returns k p (no_name_room e q h before x f) =
      returned (cleared (R.no_report_room x.first_token) b)
      (passes e q h (refused (R.no_report_room x.first_token)) (names_fail e tokens b (named setting e bytes tokens) before x f))
  returns k p (no_tree_room e q g) =
      returned (cleared R.no_tree_room b)
      (finishes e q ∙ ap (λ (t : Bool). cond t (kept (to_write setting e bytes tokens) b) (cleared R.no_tree_room b)) (refuted _ (tree_decides setting bytes tokens b e) g))
  returns k p (none e q g) =
      returned (kept (to_write setting e bytes tokens) b)
      (finishes e q ∙ ap (λ (t : Bool). cond t (kept (to_write setting e bytes tokens) b) (cleared R.no_tree_room b)) (decided _ (tree_decides setting bytes tokens b e) g))

-- REFUSALS
pub refusals : Refusals
refusals n setting bytes tokens b k p = (λ h. subst₂ (Cause n setting bytes tokens b) h.0 h.1 (found n setting bytes tokens b).0, returns n setting bytes tokens b k p)

-- ANSWERED
pub answered : Answered
answered n setting bytes tokens b = (found n setting bytes tokens b).1
