-- Laws of the row checks: one row, one row more, and the end of the rows.
use Rattle.std.proofs.Common.{◌≡◌, ℕ, suc, ◌+◌, ◌-◌, ◌/◌, ◌%◌, ◌≤◌, ◌<◌, true, false, ◌&&◌, List, [], ◌∷◌, length, get_or, take, drop, map, Result, Ok, Err, leb, eqb, refl, sym, subst, ◌∙◌, ap, arith}
use Rattle.std.proofs.lemmas.Slice.{between_to_end}
use Rattle.std.specs.Simd.{first_chunks}
use Rattle.std.specs.Result.{IsErrAnd}
use Rattle.std.proofs.lemmas.Bool.Decides.{nat_tests}
use lib.Seq.{drop-cons}
use lib.ListN.{drop_of_length-le, length-drop}
use borrow.Author.Tests.{le-leb, eq-eqb, ne_eqb}
use Rattle.basics.proofs.Verdicts.{rows_sound}
use Rattle.definitions.specs.Layout.{TOKEN_ROW, MOST_BYTES, MOST_TOKEN_NUMBERS}
use Rattle.definitions.specs.Token.{Token, tokens_of}
use Rattle.definitions.specs.StaticText.{static_texts, fits_text}
use Rattle.definitions.specs.Refusal.{Refusal, bad_kind, zero_length, past_input, short_total, bad_text, Verdict, accepted, refused, ◌or_else◌, too_long, odd_count, check_sizes, check_texts}
use Rattle.definitions.specs.RowCauses.{is_kind, check_count, check_row, check_rows, check_input}
use Rattle.input.specs.Checks.{cause_of, verdict_of, token_of}
use Rattle.input.specs.declared.causes.Unsound.{Unsound}

-- ---------------------------------------------------------------- rows as tokens

pub tokens_rows : (tokens : List ℕ) → map token_of (first_chunks TOKEN_ROW (length tokens / TOKEN_ROW) tokens) ≡ tokens_of tokens
unfolding tokens_of
tokens_rows [] = refl
tokens_rows (k ∷ []) = refl
tokens_rows (k ∷ n ∷ l) =
    let e : length (k ∷ n ∷ l) / TOKEN_ROW ≡ suc (length l / TOKEN_ROW) = omega arith in
    rw e (ap (λ (ts : List Token). record { kind = k; len = n } ∷ ts) (tokens_rows l))

-- the tokens of the rows from i on
abbrev pub from_row : List (List ℕ) → ℕ → List Token
from_row rows i = map token_of (drop i rows)

from_here : (rows : List (List ℕ)) (i : ℕ) → i < length rows → from_row rows i ≡ token_of (get_or rows i []) ∷ from_row rows (i + 1)
from_here rows i h =
    let s : suc i ≡ i + 1 = omega arith in
    ap (map token_of) (drop-cons rows i [] h) ∙ ap (λ (j : ℕ). token_of (get_or rows i []) ∷ from_row rows j) s

past_end : (rows : List (List ℕ)) (i : ℕ) → length rows ≤ i → from_row rows i ≡ []
past_end rows i h = ap (map token_of) (drop_of_length-le rows h)

-- ---------------------------------------------------------------- causes 11 to 13

module _ (i start left k n : ℕ) where
  pub row_kind_bad : is_kind k ≡ false → refused (bad_kind i) ≡ check_row i start (start + left) (record { kind = k; len = n })
  unfolding check_row ◌or_else◌
  row_kind_bad e = rw e

  pub row_empty : is_kind k ≡ true → n ≡ 0 → refused (zero_length i) ≡ check_row i start (start + left) (record { kind = k; len = n })
  unfolding check_row ◌or_else◌
  row_empty e z = rw (e, z)

  pub row_too_far : is_kind k ≡ true → (n ≡ 0 → ⊥) → left < n → refused (past_input i) ≡ check_row i start (start + left) (record { kind = k; len = n })
  unfolding check_row ◌or_else◌
  row_too_far e z l = let a : leb 1 n ≡ true = grind (arith, nat_tests) in let b : leb (start + n) (start + left) ≡ false = grind (arith, nat_tests) in rw (e, a, b)

  pub row_good : is_kind k ≡ true → (n ≡ 0 → ⊥) → n ≤ left → accepted ≡ check_row i start (start + left) (record { kind = k; len = n })
  unfolding check_row ◌or_else◌
  row_good e z l = let a : leb 1 n ≡ true = grind (arith, nat_tests) in let b : leb (start + n) (start + left) ≡ true = grind (arith, nat_tests) in rw (e, a, b)

-- what `check_row` of the code asks
pub ruleset row_verdicts = (row_kind_bad, row_empty, row_too_far, row_good)

-- the rows from i on, where so many bytes are not yet covered
abbrev pub checked : ℕ → List (List ℕ) → ℕ → ℕ → Verdict
checked size rows i left = check_rows i (size - left) size (from_row rows i)

module _ (size : ℕ) (rows : List (List ℕ)) (i left : ℕ) (h : i < length rows) (a : left ≤ size) where
  pub row_refused : (r : Refusal) → ((start : ℕ) → refused r ≡ check_row i start (start + left) (token_of (get_or rows i []))) → refused r ≡ checked size rows i left
  unfolding check_rows ◌or_else◌
  row_refused r e =
      let s : size - left + left ≡ size = omega arith in
      let f : refused r ≡ check_row i (size - left) size (token_of (get_or rows i [])) = rw s at (e (size - left)) in
      rw (from_here rows i h, ← f)

  pub row_passed : (rest : ℕ) → ((start : ℕ) → accepted ≡ check_row i start (start + left) (token_of (get_or rows i []))) → rest + (token_of (get_or rows i [])).len ≡ left
      → checked size rows (i + 1) rest ≡ checked size rows i left
  unfolding check_rows ◌or_else◌
  row_passed rest e g =
      let s : size - left + left ≡ size = omega arith in
      let f : accepted ≡ check_row i (size - left) size (token_of (get_or rows i [])) = rw s at (e (size - left)) in
      let t : size - rest ≡ size - left + (token_of (get_or rows i [])).len = omega arith in
      let n : i + 1 ≡ suc i = omega arith in
      rw (from_here rows i h, ← f, t) (ap (λ (j : ℕ). check_rows j (size - left + (token_of (get_or rows i [])).len) size (from_row rows (i + 1))) n)

module _ (size : ℕ) (rows : List (List ℕ)) (i left : ℕ) (h : length rows ≤ i) (a : left ≤ size) where
  pub rows_short : i ≤ length rows → (left ≡ 0 → ⊥) → refused (short_total (length rows)) ≡ checked size rows i left
  unfolding check_rows
  rows_short b z = let e : length rows ≡ i = omega arith in let f : eqb (size - left) size ≡ false = grind (arith, nat_tests) in rw (past_end rows i h, f, e)

  pub rows_covered : left ≡ 0 → accepted ≡ checked size rows i left
  unfolding check_rows
  rows_covered z = let f : eqb (size - left) size ≡ true = grind (arith, nat_tests) in rw (past_end rows i h, f)

-- an error that `?` hands on is the one that it found
pub handed_on : {A : Type 0} (r : Result A Unsound) (e : Unsound) → IsErrAnd r (λ x. x ≡ e) → verdict_of r ≡ refused (cause_of e)
handed_on (Ok x) e h = absurd h
handed_on (Err x) e h = ap (λ y. refused (cause_of y)) h

-- ---------------------------------------------------------------- cause 4

-- what the loop over texts knows at row i, where `rest` are the bytes from its token on
pub record AtText (rows : List (List ℕ)) (bytes : List ℕ) (i : ℕ) (rest : List ℕ) : Type 0 where
  pub inside : length rest ≤ length bytes
  pub passes : check_rows 0 0 (length bytes) (map token_of rows) ≡ accepted → checked (length bytes) rows i (length rest) ≡ accepted
  pub as_all : check_texts i rest (from_row rows i) ≡ check_texts 0 bytes (map token_of rows)

pub text_first : (rows : List (List ℕ)) (bytes : List ℕ) → AtText rows bytes 0 bytes
text_first rows bytes = let e : length bytes - length bytes ≡ 0 = omega arith in record { inside = omega arith; passes = λ h. rw e h; as_all = refl }

module _ (rows : List (List ℕ)) (bytes : List ℕ) (i : ℕ) (rest : List ℕ) (h : i < length rows) (a : AtText rows bytes i rest) where
  abbrev t : Token
  t = token_of (get_or rows i [])

  -- where the rows pass, row i ends inside the input, and the rows after it pass
  passed : check_rows 0 0 (length bytes) (map token_of rows) ≡ accepted → (t.len ≤ length rest) × (checked (length bytes) rows (i + 1) (length rest - t.len) ≡ accepted)
  passed p =
      let s : suc i ≡ i + 1 = omega arith in
      let g = rows_sound i (length bytes - length rest) (length bytes) t (from_row rows (i + 1)) (ap (check_rows i (length bytes - length rest) (length bytes)) (sym (from_here rows i h)) ∙ a.passes p) in
      let b : t.len ≤ length rest = omega (arith, a.inside, g.0.inside) in
      let e : length bytes - length rest + t.len ≡ length bytes - (length rest - t.len) = omega (arith, a.inside, b) in
      (b, ap (λ (start : ℕ). check_rows (i + 1) start (length bytes) (from_row rows (i + 1))) (sym e) ∙ (ap (λ (j : ℕ). check_rows j (length bytes - length rest + t.len) (length bytes) (from_row rows (i + 1))) (sym s) ∙ g.1))

  after : t.len ≤ length rest → fits_text static_texts t.kind (take t.len rest) ≡ true → AtText rows bytes (i + 1) (drop t.len rest)
  unfolding check_texts
  after b f =
      let s : suc i ≡ i + 1 = omega arith in
      let n : length (drop t.len rest) ≡ length rest - t.len = length-drop t.len rest in
      record {
        inside = omega (arith, a.inside, n);
        passes = λ p. rw n (passed p).1;
        as_all = ap (λ (j : ℕ). check_texts j (drop t.len rest) (from_row rows (i + 1))) (sym s) ∙ (rw (from_here rows i h, f) at a.as_all);
      }

  pub text_next : t.len ≤ length rest → fits_text static_texts t.kind (take t.len rest) ≡ true → AtText rows bytes (i + 1) (take (length rest - t.len) (drop t.len rest))
  text_next b f = subst (AtText rows bytes (i + 1)) (sym (between_to_end rest t.len (length rest) (omega arith))) (after b f)

  pub text_bad : check_rows 0 0 (length bytes) (map token_of rows) ≡ accepted → (t.len ≤ length rest → fits_text static_texts t.kind (take t.len rest) ≡ false) → refused (bad_text i) ≡ check_texts 0 bytes (map token_of rows)
  unfolding check_texts
  text_bad p f = rw (from_here rows i h, f (passed p).0) at a.as_all

pub text_end : (rows : List (List ℕ)) (bytes : List ℕ) (i : ℕ) (rest : List ℕ) → length rows ≤ i → AtText rows bytes i rest → accepted ≡ check_texts 0 bytes (map token_of rows)
unfolding check_texts
text_end rows bytes i rest h a = rw (past_end rows i h) at a.as_all

-- ---------------------------------------------------------------- all causes, in their order

module _ (bytes tokens : List ℕ) where
  pub long_input : (leb (length bytes) MOST_BYTES && leb (length tokens) MOST_TOKEN_NUMBERS) ≡ false → refused too_long ≡ check_input bytes tokens
  unfolding check_input check_sizes ◌or_else◌
  long_input e = rw e

  module _ (few : length bytes ≤ MOST_BYTES) (short : length tokens ≤ MOST_TOKEN_NUMBERS) where
    after_sizes : check_input bytes tokens ≡ (check_count tokens or_else check_rows 0 0 (length bytes) (tokens_of tokens) or_else check_texts 0 bytes (tokens_of tokens))
    unfolding check_input check_sizes ◌or_else◌
    after_sizes = rw (le-leb (length bytes) MOST_BYTES few, le-leb (length tokens) MOST_TOKEN_NUMBERS short)

    pub odd_input : (n : ℕ) → n ≡ length tokens / TOKEN_ROW → (length tokens % TOKEN_ROW ≡ 0 → ⊥) → refused (odd_count n) ≡ check_input bytes tokens
    unfolding check_count ◌or_else◌
    odd_input n e z = rw (after_sizes, ne_eqb (length tokens % TOKEN_ROW) 0 z, e)

    module _ (rows : List (List ℕ)) (whole : rows ≡ first_chunks TOKEN_ROW (length tokens / TOKEN_ROW) tokens) (even : length tokens % TOKEN_ROW ≡ 0) where
      same_tokens : map token_of rows ≡ tokens_of tokens
      same_tokens = ap (map token_of) whole ∙ tokens_rows tokens

      after_count : check_input bytes tokens ≡ (check_rows 0 0 (length bytes) (map token_of rows) or_else check_texts 0 bytes (map token_of rows))
      unfolding check_count ◌or_else◌
      after_count = rw (after_sizes, eq-eqb (length tokens % TOKEN_ROW) 0 even, same_tokens)

      pub rows_refused : (r : Refusal) → refused r ≡ check_rows 0 0 (length bytes) (map token_of rows) → refused r ≡ check_input bytes tokens
      unfolding ◌or_else◌
      rows_refused r e = rw (after_count, ← e)

      pub rows_passed : (v : Verdict) → accepted ≡ check_rows 0 0 (length bytes) (map token_of rows) → v ≡ check_texts 0 bytes (map token_of rows) → v ≡ check_input bytes tokens
      unfolding ◌or_else◌
      rows_passed v e f = rw (after_count, ← e, f)

-- ---------------------------------------------------------------- cause 2 at its limits

pub bytes_at_the_limit : (bytes tokens : List ℕ) → length bytes ≡ MOST_BYTES → length tokens ≤ MOST_TOKEN_NUMBERS → check_sizes bytes tokens ≡ accepted
unfolding check_sizes
bytes_at_the_limit bytes tokens e h = rw (e, le-leb (length tokens) MOST_TOKEN_NUMBERS h)

pub bytes_over_the_limit : (bytes tokens : List ℕ) → length bytes ≡ MOST_BYTES + 1 → check_sizes bytes tokens ≡ refused too_long
unfolding check_sizes
bytes_over_the_limit bytes tokens e = rw (e)
