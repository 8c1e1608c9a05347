-- A call over input that passes causes 1 to 4 and 11 to 13 is accepted, or refused in its parse: 0, or 5 to 8.
use Prim.Native.Nat.{ℕ}
use native.Mathlib.Omega.{arith}
use mathlib.Core.Path.{◌≡◌, refl}
use mathlib.Core.Logic.{◌⊎◌, inl, inr}
use mathlib.Core.List.{List}
use lib.ListN.{length}
use Rattle.definitions.specs.Token.{tokens_of}
use Rattle.definitions.specs.Grammar.{Entry}
use Rattle.definitions.specs.Refusal.{Verdict, accepted, check_sizes}
use Rattle.definitions.specs.RowCauses.{check_count, check_rows, check_input}
use Rattle.definitions.specs.Call.{Buffers, call}
use Rattle.refusals.specs.First.{Each}
use Rattle.refusals.specs.Refusals.{Passes1, Sizes, WholeRows, GoodRow, Covers, RightText, Cause, unknown_entry, over_size, odd_count, bad_kind, zero_length, past_input, short_total, wrong_text, call_too_many, no_event_room, no_report_room, no_name_room, no_tree_room, none}
use Rattle.refusals.specs.Answered.{InTheParse}
use Rattle.refusals.proofs.Firsts.{first_each}
use Rattle.refusals.proofs.Rows.{Rows, good_rows, bad_one, too_short, judged_rows}
use Rattle.refusals.proofs.Texts.{Texts, right_texts, wrong_one, judged_texts}
use Rattle.refusals.proofs.Entries.{number_1_to_4}
use Rattle.refusals.proofs.Refusals.{refusals}
use Rattle.basics.proofs.Verdicts.{or_else_left, or_else_right}
use Rattle.laws.proofs.Input.{checked_input}

abbrev pub Late : ℕ → Type 0
Late k = (k ≡ 0) ⊎ InTheParse k

module _ (n setting : ℕ) (bytes tokens : List ℕ) (b : Buffers) where
  -- what passes the checks
  record Passes : Type 0 where
    sizes : Sizes bytes tokens
    whole : WholeRows tokens
    rows : Each (GoodRow bytes) (tokens_of tokens)
    covers : Covers bytes tokens
    texts : Each (RightText bytes) (tokens_of tokens)

  rows_of : (v : Verdict) → v ≡ accepted → Rows bytes (tokens_of tokens) v → Each (GoodRow bytes) (tokens_of tokens) × Covers bytes tokens
  rows_of v e (good_rows g c) = (g, c)
  rows_of v e (bad_one before t r f w) = let x : ◌≡◌ {A = ℕ} 0 1 = cc in absurd (omega arith)
  rows_of v e (too_short g c) = let x : ◌≡◌ {A = ℕ} 0 1 = cc in absurd (omega arith)

  texts_of : (v : Verdict) → v ≡ accepted → Texts bytes (tokens_of tokens) v → Each (RightText bytes) (tokens_of tokens)
  texts_of v e (right_texts g) = g
  texts_of v e (wrong_one before t f) = let x : ◌≡◌ {A = ℕ} 0 1 = cc in absurd (omega arith)

  passes : Sizes bytes tokens → check_input bytes tokens ≡ accepted → Passes
  unfolding check_input
  passes s e =
      let c = checked_input bytes tokens e in
      let rest = or_else_right (check_count tokens) _ (or_else_right (check_sizes bytes tokens) _ e) in
      let g = rows_of _ (or_else_left (check_rows 0 0 (length bytes) (tokens_of tokens)) _ rest) (judged_rows bytes (tokens_of tokens)) in
      record {
        sizes = s;
        whole = c.pairs;
        rows = g.0;
        covers = g.1;
        texts = texts_of _ (or_else_right (check_rows 0 0 (length bytes) (tokens_of tokens)) _ rest) (judged_texts bytes (tokens_of tokens));
      }

  by_cause : (e : Entry) → Passes1 n e → Passes → (k p : ℕ) → Cause n setting bytes tokens b k p → Late k
  by_cause e h s k p (unknown_entry x) = absurd (x (number_1_to_4 n e h))
  by_cause e h s k p (over_size f q x) = absurd (x s.sizes)
  by_cause e h s k p (odd_count f q x) = absurd (x s.whole)
  by_cause e h s k p (bad_kind f q before t x w) = absurd (first_each (GoodRow bytes) (tokens_of tokens) before t x s.rows)
  by_cause e h s k p (zero_length f q before t x w z) = absurd (first_each (GoodRow bytes) (tokens_of tokens) before t x s.rows)
  by_cause e h s k p (past_input f q before t x w o z) = absurd (first_each (GoodRow bytes) (tokens_of tokens) before t x s.rows)
  by_cause e h s k p (short_total f q g x) = absurd (omega (arith, x, s.covers))
  by_cause e h s k p (wrong_text f q before t x) = absurd (first_each (RightText bytes) (tokens_of tokens) before t x s.texts)
  by_cause e h s k p (call_too_many f q before m x) = inr (omega arith, omega arith)
  by_cause e h s k p (no_event_room f q before m x) = inr (omega arith, omega arith)
  by_cause e h s k p (no_report_room f q before c m x) = inr (omega arith, omega arith)
  by_cause e h s k p (no_name_room f q g before y x) = inr (omega arith, omega arith)
  by_cause e h s k p (no_tree_room f q x) = inr (omega arith, omega arith)
  by_cause e h s k p (none f q x) = inl refl

  pub late : (e : Entry) → Passes1 n e → Sizes bytes tokens → check_input bytes tokens ≡ accepted → Late (call n setting bytes tokens b).answer.number
  late e h s c = by_cause e h (passes s c) _ _ ((refusals n setting bytes tokens b _ _).0 (refl, refl))
