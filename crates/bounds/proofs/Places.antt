-- The place of a refusal is no greater than the input is long.
use Prim.Native.Nat.{ℕ, zero, suc, ◌+◌, ◌-◌, ◌/◌, ◌%◌, ◌≤◌}
use native.Mathlib.Nat.{le_trans}
use native.Mathlib.Omega.{arith}
use mathlib.Core.Path.{◌≡◌, refl}
use mathlib.Core.Bool.{Bool, true, false, ◌&&◌}
use mathlib.Core.List.{List, [], ◌∷◌}
use lib.Dec.{leb, eqb}
use lib.ListN.{length, take, drop}
use borrow.Author.Tests.{leb-true}
use Rattle.definitions.specs.Layout.{TOKEN_ROW, BAD_END, MOST_TOKEN_NUMBERS, MOST_BYTES}
use Rattle.definitions.specs.Token.{Token, tokens_of}
use Rattle.definitions.specs.StaticText.{static_texts, fits_text}
use Rattle.definitions.specs.Refusal.{Refusal, unknown_entry, too_long, odd_count, bad_kind, zero_length, past_input, short_total, bad_text, too_deep, no_event_room, no_report_room, no_tree_room, number_of, place_of, Verdict, accepted, refused, ◌or_else◌, unless, check_sizes, check_texts}
use Rattle.definitions.specs.RowCauses.{check_count, is_kind, check_row, check_rows, check_input}
use Rattle.definitions.specs.Report.{Push, event, reported, exceeded, Room, Fit, fits, stops, one_event, one_report, scan}
use Rattle.definitions.specs.Call.{forward_mark}
use Rattle.basics.proofs.Tests.{cond-all, and_right}
use Rattle.basics.proofs.TokenRows.{tokens_length}
use Rattle.basics.proofs.Verdicts.{unless_holds}

pub number_small : (r : Refusal) → number_of r ≤ BAD_END
unfolding number_of
number_small unknown_entry = omega arith
number_small too_long = omega arith
number_small (odd_count i) = omega arith
number_small (bad_kind i) = omega arith
number_small (zero_length i) = omega arith
number_small (past_input i) = omega arith
number_small (short_total i) = omega arith
number_small (bad_text i) = omega arith
number_small (too_deep m) = omega arith
number_small (no_event_room m) = omega arith
number_small (no_report_room m) = omega arith
number_small no_tree_room = omega arith

-- ---------------------------------------------------------------- causes 2 to 4, and 11 to 13

abbrev pub Placed : ℕ → Verdict → Type 0
Placed p accepted = Unit {0}
Placed p (refused r) = place_of r ≤ p

unless_placed : (p : ℕ) (b : Bool) (r : Refusal) → place_of r ≤ p → Placed p (unless b r)
unless_placed p true r h = tt
unless_placed p false r h = h

or_else_placed : (p : ℕ) (v w : Verdict) → Placed p v → (v ≡ accepted → Placed p w) → Placed p (v or_else w)
unfolding ◌or_else◌
or_else_placed p accepted w h g = g refl
or_else_placed p (refused r) w h g = h

wider : (p q : ℕ) (v : Verdict) → p ≤ q → Placed p v → Placed q v
wider p q accepted h g = tt
wider p q (refused r) h g = le_trans g h

row_placed : (i start size : ℕ) (t : Token) → Placed i (check_row i start size t)
unfolding check_row place_of
row_placed i start size t =
    or_else_placed i (unless (is_kind t.kind) (bad_kind i)) _ (unless_placed i (is_kind t.kind) (bad_kind i) (omega arith))
    (λ _. or_else_placed i (unless (leb 1 t.len) (zero_length i)) _ (unless_placed i (leb 1 t.len) (zero_length i) (omega arith))
    (λ _. unless_placed i (leb (start + t.len) size) (past_input i) (omega arith)))

rows_placed : (i start size : ℕ) (ts : List Token) → Placed (i + length ts) (check_rows i start size ts)
unfolding check_rows place_of
rows_placed i start size [] = unless_placed _ (eqb start size) (short_total i) (omega arith)
rows_placed i start size (t ∷ ts) =
    let r = check_rows (suc i) (start + t.len) size ts in
    or_else_placed (i + suc (length ts)) (check_row i start size t) r (wider _ _ (check_row i start size t) (omega arith) (row_placed i start size t))
    (λ _. wider _ _ r (omega arith) (rows_placed (suc i) (start + t.len) size ts))

texts_placed : (i : ℕ) (bytes : List ℕ) (ts : List Token) → Placed (i + length ts) (check_texts i bytes ts)
unfolding check_texts place_of
texts_placed i bytes [] = tt
texts_placed i bytes (t ∷ ts) =
    cond-all (Placed (i + suc (length ts))) (fits_text static_texts t.kind (take t.len bytes)) {x = check_texts (suc i) (drop t.len bytes) ts} {y = refused (bad_text i)}
    (wider _ _ (check_texts (suc i) (drop t.len bytes) ts) (omega arith) (texts_placed (suc i) (drop t.len bytes) ts)) (omega arith)

sizes_limit : (bytes tokens : List ℕ) → check_sizes bytes tokens ≡ accepted → length tokens ≤ MOST_TOKEN_NUMBERS
unfolding check_sizes
sizes_limit bytes tokens e = leb-true _ _ (and_right (leb (length bytes) MOST_BYTES) _ (unless_holds (leb (length bytes) MOST_BYTES && leb (length tokens) MOST_TOKEN_NUMBERS) too_long e))

pub input_placed : (bytes tokens : List ℕ) → Placed MOST_TOKEN_NUMBERS (check_input bytes tokens)
unfolding check_input check_sizes check_count place_of
input_placed bytes tokens =
    or_else_placed MOST_TOKEN_NUMBERS (check_sizes bytes tokens) _ (unless_placed _ (leb (length bytes) MOST_BYTES && leb (length tokens) MOST_TOKEN_NUMBERS) too_long (omega arith))
    (λ e.
    let l : length tokens ≤ MOST_TOKEN_NUMBERS = sizes_limit bytes tokens e in
    or_else_placed MOST_TOKEN_NUMBERS (check_count tokens) _ (unless_placed _ (eqb (length tokens % TOKEN_ROW) 0) (odd_count (length tokens / TOKEN_ROW)) (omega (arith, l)))
    (λ _. or_else_placed MOST_TOKEN_NUMBERS (check_rows 0 0 (length bytes) ts) _ (wider _ _ (check_rows 0 0 (length bytes) ts) (omega (arith, l, tokens_length tokens)) (rows_placed 0 0 (length bytes) ts))
    (λ _. wider _ _ (check_texts 0 bytes ts) (omega (arith, l, tokens_length tokens)) (texts_placed 0 bytes ts))))
  where
    ts : List Token
    ts = tokens_of tokens

-- ---------------------------------------------------------------- causes 5 to 7

-- in a file of n tokens
abbrev pub Stopped : ℕ → Fit → Type 0
Stopped n (fits z) = Unit {0}
Stopped n (stops r) = place_of (forward_mark n r) ≤ n

module _ (n : ℕ) where
  event_stopped : (m e r p : ℕ) (k : Room → Fit) → ((z : Room) → Stopped n (k z)) → Stopped n (one_event m e r p k)
  unfolding one_event forward_mark place_of
  event_stopped m zero r p k h = omega arith
  event_stopped m (suc e) r p k h = h _

  report_stopped : (m c e r p : ℕ) (k : Room → Fit) → ((z : Room) → Stopped n (k z)) → Stopped n (one_report m c e r p k)
  unfolding one_report forward_mark place_of
  report_stopped m c e zero p k h = omega arith
  report_stopped m c e (suc r) p k h =
      cond-all (Stopped n) (leb c p) {x = k (record { events = e; reports = r; pool = p - c })} {y = stops (no_report_room m)} (h _) (omega arith)

  pub scan_stopped : (l : List Push) (z : Room) → Stopped n (scan l z)
  unfolding scan forward_mark place_of
  scan_stopped [] z = tt
  scan_stopped (event m ∷ l) z = event_stopped m z.events z.reports z.pool (scan l) (scan_stopped l)
  scan_stopped (reported r ∷ l) z =
      event_stopped r.mark z.events z.reports z.pool _
      (λ y. report_stopped r.mark (length r.pool) y.events y.reports y.pool (scan l) (scan_stopped l))
  scan_stopped (exceeded m ∷ l) z = omega arith
