-- `told_apart`: the checks of a call's input, as they were and as they are, go together; and so do the calls.
use Prim.Native.Nat.{ℕ, ◌/◌, ◌≤◌}
use native.Mathlib.Omega.{arith}
use mathlib.Core.Path.{◌≡◌, refl, ap, sym, ◌∙◌, subst, subst₂}
use mathlib.Core.Logic.{inl, inr}
use mathlib.Core.Bool.{Bool, true, false, ◌&&◌}
use mathlib.Core.List.{List}
use lib.Dec.{leb}
use lib.ListN.{length}
use Rattle.definitions.specs.Layout.{TOKEN_ROW, MOST_BYTES, MOST_TOKEN_NUMBERS}
use Rattle.definitions.specs.Token.{tokens_of}
use Rattle.definitions.specs.Grammar.{Entry}
use Rattle.definitions.specs.Refusal.{Refusal, unknown_entry, too_long, odd_count, bad_text, number_of, place_of, Verdict, accepted, refused, unless, ◌or_else◌, check_sizes, check_texts}
use Rattle.definitions.specs.RowCauses.{check_count, check_rows, check_input}
use Rattle.definitions.specs.Call.{Buffers, Result, untouched, Asked, entry_of, checked, asked, call}
use Rattle.basics.proofs.TokenRows.{tokens_length}
use Rattle.laws.proofs.Input.{checked_input}
use Rattle.refusals.specs.Refusals.{WholeRows}
use Rattle.refusals.proofs.Tests.{Decides, holds, not_so}
use Rattle.refusals.proofs.Rows.{whole_decides}
use Rattle.refusals.proofs.Texts.{Texts, right_texts, wrong_one, judged_texts}
use Rattle.refusals.proofs.Entries.{Asks, known, not_known, asks, entry_eq, unknown_eq}
use Rattle.refusals.proofs.Late.{Late, late}
use Rattle.row_causes.specs.Before.{bad_row}
use Rattle.row_causes.specs.Before as B
use Rattle.row_causes.specs.ToldApart.{OfRows, Apart, ToldApart}
use Rattle.row_causes.proofs.Rows.{Both, pass, refuse, both, odd}

-- ---------------------------------------------------------------- the checks

-- a refusal that is not of rows: 1, 2 or 4
abbrev Elsewhere : ℕ → Type 0
Elsewhere k = (1 ≤ k) × (k ≤ 4) × ¬ (k ≡ 3)

-- the verdict now and the one before
data Verdicts (tokens : List ℕ) : Verdict → Verdict → Type 0 where
  let_through : Verdicts tokens accepted accepted
  elsewhere : (r : Refusal) → Elsewhere (number_of r) → Verdicts tokens (refused r) (refused r)
  bad : (r : Refusal) → WholeRows tokens → 11 ≤ number_of r → number_of r ≤ 13 → Verdicts tokens (refused r) (refused (bad_row (place_of r)))
  odd_one : (i : ℕ) → ¬ WholeRows tokens → i ≤ length (tokens_of tokens) → Verdicts tokens (refused (odd_count (length (tokens_of tokens)))) (refused (bad_row i))

after_4 : (tokens bytes : List ℕ) (v : Verdict) → Texts bytes (tokens_of tokens) v → Verdicts tokens v v
unfolding number_of
after_4 tokens bytes v (right_texts h) = let_through
after_4 tokens bytes v (wrong_one before t f) = elsewhere (bad_text (length before)) (omega arith, omega arith, λ e. omega (arith, e))

after_rows : (tokens bytes : List ℕ) (v w : Verdict) → WholeRows tokens → Both v w
    → Verdicts tokens (v or_else check_texts 0 bytes (tokens_of tokens)) (w or_else check_texts 0 bytes (tokens_of tokens))
unfolding ◌or_else◌
after_rows tokens bytes v w p pass = after_4 tokens bytes _ (judged_texts bytes (tokens_of tokens))
after_rows tokens bytes v w p (refuse r h g) = bad r p h g

after_2 : (bytes tokens : List ℕ) (t : Bool) → Decides (WholeRows tokens) t
    → Verdicts tokens (unless t (odd_count (length tokens / TOKEN_ROW)) or_else (check_rows 0 0 (length bytes) (tokens_of tokens) or_else check_texts 0 bytes (tokens_of tokens)))
    (B.check_rows 0 (length bytes) tokens or_else check_texts 0 bytes (tokens_of tokens))
unfolding ◌or_else◌
after_2 bytes tokens t (holds h) = after_rows tokens bytes _ _ h (both 0 0 (length bytes) (length bytes) tokens (omega arith) h)
after_2 bytes tokens t (not_so h) =
    let r = odd 0 (length bytes) tokens h in
    subst₂ (λ (i : ℕ) (w : Verdict). Verdicts tokens (refused (odd_count i)) (w or_else check_texts 0 bytes (tokens_of tokens))) (tokens_length tokens) (sym r.told)
    (odd_one r.row h (omega (arith, r.inside)))

from_2 : (tokens : List ℕ) (s : Bool) (v w : Verdict) → Verdicts tokens v w → Verdicts tokens (unless s too_long or_else v) (unless s too_long or_else w)
unfolding ◌or_else◌ number_of
from_2 tokens true v w h = h
from_2 tokens false v w h = elsewhere too_long (omega arith, omega arith, λ e. omega (arith, e))

verdicts : (bytes tokens : List ℕ) → Verdicts tokens (check_input bytes tokens) (B.check_input bytes tokens)
unfolding check_input B.check_input check_sizes check_count
verdicts bytes tokens =
    from_2 tokens (leb (length bytes) MOST_BYTES && leb (length tokens) MOST_TOKEN_NUMBERS) _ _ (after_2 bytes tokens _ (whole_decides tokens))

-- ---------------------------------------------------------------- the call

late_apart : (k : ℕ) → Late k → OfRows k → ⊥
late_apart k (inl e) (inl h) = omega (arith, e, h)
late_apart k (inl e) (inr h) = omega (arith, e, h.0)
late_apart k (inr e) (inl h) = omega (arith, e.0, h)
late_apart k (inr e) (inr h) = omega (arith, e.1, h.0)

elsewhere_apart : (k : ℕ) → Elsewhere k → OfRows k → ⊥
elsewhere_apart k e (inl h) = e.2 h
elsewhere_apart k e (inr h) = omega (arith, e.1, h.0)

-- an answer that is not of rows, before and now
same_answer : (tokens : List ℕ) (b : Buffers) (x : Result) → (OfRows x.answer.number → ⊥) → Apart tokens b x x
same_answer tokens b x h =
    record {
      exactly = (λ g. absurd (h g), λ e. inl e);
      of_whole_rows = λ e g. absurd (h (inl e));
      of_odd_count = λ e g. absurd (h (inl e));
      as_it_was = λ e. absurd (h (inl e));
      others = λ g. refl;
    }

module _ (e : Entry) (setting : ℕ) (bytes tokens : List ℕ) (b : Buffers) where
  apart : (v w : Verdict) → Verdicts tokens v w → (v ≡ accepted → Late (checked accepted e setting bytes tokens b).answer.number)
      → Apart tokens b (checked w e setting bytes tokens b) (checked v e setting bytes tokens b)
  unfolding checked number_of place_of
  apart v w let_through h = same_answer tokens b (checked accepted e setting bytes tokens b) (late_apart _ (h refl))
  apart v w (elsewhere r g) h = same_answer tokens b (untouched r b) (elsewhere_apart (number_of r) g)
  apart v w (bad r p l m) h =
      record {
        exactly = (λ x. refl, λ x. inr (l, m));
        of_whole_rows = λ x q. (l, m, refl);
        of_odd_count = λ x q. absurd (q p);
        as_it_was = λ x. (refl, refl);
        others = λ x. absurd (x refl);
      }
  apart v w (odd_one i p l) h =
      record {
        exactly = (λ x. refl, λ x. inl refl);
        of_whole_rows = λ x q. absurd (p q);
        of_odd_count = λ x q. (refl, refl, l);
        as_it_was = λ x. (refl, refl);
        others = λ x. absurd (x refl);
      }

module _ (n setting : ℕ) (bytes tokens : List ℕ) (b : Buffers) where
  by_entry : (x : Asked) → Asks n x → Apart tokens b (B.call n setting bytes tokens b) (call n setting bytes tokens b)
  unfolding call asked B.call B.asked number_of
  by_entry x (not_known h) =
      let was : B.call n setting bytes tokens b ≡ untouched unknown_entry b = ap (λ (y : Asked). B.asked y setting bytes tokens b) (unknown_eq n h) in
      let now : call n setting bytes tokens b ≡ untouched unknown_entry b = ap (λ (y : Asked). asked y setting bytes tokens b) (unknown_eq n h) in
      subst₂ (Apart tokens b) (sym was) (sym now) (same_answer tokens b (untouched unknown_entry b) (elsewhere_apart 1 (omega arith, omega arith, λ e. omega (arith, e))))
  by_entry x (known e p) =
      let was : B.call n setting bytes tokens b ≡ checked (B.check_input bytes tokens) e setting bytes tokens b = ap (λ (y : Asked). B.asked y setting bytes tokens b) (entry_eq n e p) in
      let now : call n setting bytes tokens b ≡ checked (check_input bytes tokens) e setting bytes tokens b = ap (λ (y : Asked). asked y setting bytes tokens b) (entry_eq n e p) in
      subst₂ (Apart tokens b) (sym was) (sym now)
      (apart e setting bytes tokens b _ _ (verdicts bytes tokens)
      (λ ok.
      let c = checked_input bytes tokens ok in
      subst (λ (y : Result). Late y.answer.number) (now ∙ ap (λ (v : Verdict). checked v e setting bytes tokens b) ok)
      (late n setting bytes tokens b e p (c.bytes_limit, c.numbers_limit) ok)))

pub told_apart : ToldApart
told_apart n setting bytes tokens b = by_entry n setting bytes tokens b (entry_of n) (asks n)
