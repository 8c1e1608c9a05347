-- `text_answered`: a text's own refusal leaves all as it was; else it is what the call over the tokens returns.
use Prim.Native.Nat.{ℕ, ◌-◌, ◌/◌, ◌≤◌}
use native.Mathlib.Omega.{arith}
use mathlib.Core.Path.{◌≡◌, refl, sym, ap, subst₂}
use mathlib.Core.Bool.{Bool, true, false, cond}
use mathlib.Core.Logic.{inl, inr}
use mathlib.Core.List.{List}
use lib.Dec.{eqb}
use lib.ListN.{length, replicate, length-append, length-replicate}
use borrow.Author.Tests.{eq-eqb, ne_eqb}
use Rattle.definitions.specs.Lex.{lex}
use Rattle.definitions.specs.Call.{Buffers, Result, zeros, written, call}
use Rattle.definitions.specs.Text.{TextRefusal, unknown_entry, TextResult, unchanged, with_rows}
use Rattle.refusals.specs.Answered.{Filled, Returns}
use Rattle.refusals.proofs.Refusals.{answered}
use Rattle.lexing.proofs.RowsPass.{numbers_length}
use Rattle.texts.specs.TextRefusals.{Room}
use Rattle.texts.specs.TextAnswered.{BeforeTheParse, TextReturns, TextAnswered}
use Rattle.refusals.proofs.Late.{Late}
use Rattle.texts.proofs.Called.{rows, Called, not_an_entry, refused, parsed, called}
use Rattle.texts.proofs.Plain.{by_number, not_0}

-- ---------------------------------------------------------------- a text's own refusal

-- such numbers are at most 10, and none of 5 to 8
at_most : (k : ℕ) → BeforeTheParse k → k ≤ 10
at_most k (inl e) = omega (arith, e)
at_most k (inr (inl e)) = omega (arith, e)
at_most k (inr (inr (inl e))) = omega (arith, e)
at_most k (inr (inr (inr e))) = omega (arith, e)

not_5_to_8 : (k : ℕ) → BeforeTheParse k → 5 ≤ k → k ≤ 8 → ⊥
not_5_to_8 k (inl e) l m = omega (arith, e, l)
not_5_to_8 k (inr (inl e)) l m = omega (arith, e, l)
not_5_to_8 k (inr (inr (inl e))) l m = omega (arith, e, m)
not_5_to_8 k (inr (inr (inr e))) l m = omega (arith, e, m)

own : (n setting : ℕ) (bytes tokens : List ℕ) (b : Buffers) (r : TextRefusal) → TextReturns n setting bytes tokens b (unchanged r tokens b)
own n setting bytes tokens b r =
    record {
      at_most_10 = at_most _ (by_number r);
      accepted = λ e. absurd (not_0 _ (by_number r) e);
      as_it_was = λ h. (refl, refl);
      all_zero = λ l m. absurd (not_5_to_8 _ (by_number r) l m);
      no_counts = λ h. (record { tree_count = refl; error_count = refl; report_count = refl; expectation_count = refl }, refl);
      lengths = (record { events = refl; trees = refl; errors = refl; reports = refl; pool = refl }, refl);
      all_else = λ h. absurd (h (by_number r));
    }

-- ---------------------------------------------------------------- the parse

-- one that came to its end, or to a refusal of the run, is none of those
not_before : (k : ℕ) → Late k → ¬ BeforeTheParse k
not_before k (inl e) b = not_0 k b e
not_before k (inr l) b = not_5_to_8 k b l.0 l.1

late_at_most : (k : ℕ) → Late k → k ≤ 10
late_at_most k (inl e) = omega (arith, e)
late_at_most k (inr l) = omega (arith, l.1)

-- token rows and zeros after them
filled : (bytes tokens : List ℕ) → Room bytes tokens → Filled 2 (length (rows bytes) / 2) (rows bytes) tokens (written (rows bytes) tokens)
filled bytes tokens r =
    let n = numbers_length (lex bytes) in
    record { whole_rows = omega (arith, n); fits = omega (arith, n, r.1); then_zeros = refl }

-- either way the buffer stays as long as it was
as_long : (bytes tokens : List ℕ) → Room bytes tokens → (t : Bool) → length (cond t (written (rows bytes) tokens) (zeros tokens)) ≡ length tokens
as_long bytes tokens r true =
    let n = numbers_length (lex bytes) in
    let a = length-append (rows bytes) (replicate (length tokens - length (rows bytes)) 0) in
    let z = length-replicate {A = ℕ} (length tokens - length (rows bytes)) 0 in
    omega (arith, n, r.1, a, z)
as_long bytes tokens r false = length-replicate {A = ℕ} (length tokens) 0

module _ (n setting : ℕ) (bytes tokens : List ℕ) (b : Buffers) (room : Room bytes tokens) (r : Result) where
  -- a test that is known
  good : (t : Bool) → eqb r.answer.number 0 ≡ t → ((with_rows (rows bytes) tokens r).token_count ≡ cond t (length (rows bytes) / 2) 0)
      × ((with_rows (rows bytes) tokens r).tokens ≡ cond t (written (rows bytes) tokens) (zeros tokens))
  unfolding with_rows
  good t e = (
    ap (λ (x : Bool). cond x (length (rows bytes) / 2) 0) e,
    ap (λ (x : Bool). cond x (written (rows bytes) tokens) (zeros tokens)) e,
  )

  as_parsed : Returns n setting bytes (rows bytes) b r → Late r.answer.number → r ≡ call n setting bytes (rows bytes) b
      → TextReturns n setting bytes tokens b (with_rows (rows bytes) tokens r)
  unfolding with_rows
  as_parsed a l same =
      let zero-rows : 1 ≤ r.answer.number → eqb r.answer.number 0 ≡ false = λ h. ne_eqb r.answer.number 0 (λ e. omega (arith, h, e)) in
      record {
        at_most_10 = late_at_most _ l;
        accepted = λ e.
            let w = a.accepted e in
            let g = good true (eq-eqb r.answer.number 0 e) in
            (w.0, w.1, w.2, subst₂ (λ c l. Filled 2 c (rows bytes) tokens l) (sym g.0) (sym g.1) (filled bytes tokens room));
        as_it_was = λ h. absurd (not_before _ l h);
        all_zero = λ h m. (a.all_zero (h, m), (good false (zero-rows (omega (arith, h)))).1);
        no_counts = λ h. (a.no_counts h, (good false (zero-rows h)).0);
        lengths = (a.lengths, as_long bytes tokens room (eqb r.answer.number 0));
        all_else = λ h. same;
      }

pub text_answered : TextAnswered
text_answered n setting bytes tokens b = by _ (called n setting bytes tokens b)
  where
    by : (x : TextResult) → Called n setting bytes tokens b x → TextReturns n setting bytes tokens b x
    by x (not_an_entry h) = own n setting bytes tokens b unknown_entry
    by x (refused e p r c) = own n setting bytes tokens b r
    by x (parsed e p q room l) = as_parsed n setting bytes tokens b room _ (answered n setting bytes (rows bytes) b) l refl
