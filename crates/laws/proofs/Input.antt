-- What the checks of a call's input say, causes 2 to 4 and 11 to 13: limits, kinds, lengths, that the rows cover the
-- input exactly, and fixed texts.
use Prim.Native.Nat.{ℕ, suc, ◌+◌, ◌*◌, ◌%◌, ◌≤◌}
use native.Mathlib.Omega.{arith}
use mathlib.Core.Path.{◌≡◌}
use mathlib.Core.Bool.{true, ◌&&◌}
use mathlib.Core.List.{List, [], ◌∷◌}
use lib.Dec.{leb, eqb}
use lib.ListN.{length, take, drop}
use borrow.Author.Tests.{leb-true, eqb-true}
use Rattle.definitions.specs.Layout.{TOKEN_ROW, MOST_TOKEN_NUMBERS, MOST_BYTES}
use Rattle.definitions.specs.Token.{Token, tokens_of, byte_count}
use Rattle.definitions.specs.StaticText.{static_texts, fits_text}
use Rattle.definitions.specs.Refusal.{too_long, short_total, bad_text, accepted, check_sizes, check_texts}
use Rattle.definitions.specs.RowCauses.{check_count, is_kind, check_rows, check_input}
use Rattle.basics.proofs.Tests.{and_left, and_right}
use Rattle.basics.proofs.TokenRows.{tokens_length}
use Rattle.basics.proofs.Verdicts.{cond_accepted, or_else_left, or_else_right, unless_holds, rows_sound}

-- a token of a kind that may be input, at least one byte long
pub record Good (t : Token) : Type 0 where
  pub kind : is_kind t.kind ≡ true
  pub len : 1 ≤ t.len

abbrev pub AllGood : List Token → Type 0
AllGood [] = Unit {0}
AllGood (t ∷ ts) = Good t × AllGood ts

-- each token's bytes fit the text of its kind
abbrev pub TextsFit : List ℕ → List Token → Type 0
TextsFit bytes [] = Unit {0}
TextsFit bytes (t ∷ ts) = (fits_text static_texts t.kind (take t.len bytes) ≡ true) × TextsFit (drop t.len bytes) ts

-- what they leave
pub record Checked (bytes tokens : List ℕ) : Type 0 where
  pub bytes_limit : length bytes ≤ MOST_BYTES
  pub numbers_limit : length tokens ≤ MOST_TOKEN_NUMBERS
  -- rows come in pairs, and cover the input exactly
  pub pairs : length tokens ≡ TOKEN_ROW * length (tokens_of tokens)
  pub covered : byte_count (tokens_of tokens) ≡ length bytes
  pub good : AllGood (tokens_of tokens)
  pub texts : TextsFit bytes (tokens_of tokens)

-- causes 11 to 13, from any row on
record RowsPass (start size : ℕ) (ts : List Token) : Type 0 where
  covered : start + byte_count ts ≡ size
  good : AllGood ts

rows_pass : (i start size : ℕ) (ts : List Token) → check_rows i start size ts ≡ accepted → RowsPass start size ts
unfolding check_rows byte_count
rows_pass i start size [] e = let z : start ≡ size = eqb-true start size (unless_holds (eqb start size) (short_total i) e) in record { covered = omega (arith, z); good = tt }
rows_pass i start size (t ∷ ts) e =
    let h = rows_sound i start size t ts e in
    let g : RowsPass (start + t.len) size ts = rows_pass (suc i) (start + t.len) size ts h.1 in
    record { covered = omega (arith, g.covered); good = (record { kind = h.0.kind; len = h.0.not_empty }, g.good) }

texts_fit : (i : ℕ) (bytes : List ℕ) (ts : List Token) → check_texts i bytes ts ≡ accepted → TextsFit bytes ts
unfolding check_texts
texts_fit i bytes [] e = tt
texts_fit i bytes (t ∷ ts) e =
    let h : (fits_text static_texts t.kind (take t.len bytes) ≡ true) × (check_texts (suc i) (drop t.len bytes) ts ≡ accepted) =
    cond_accepted (fits_text static_texts t.kind (take t.len bytes)) (check_texts (suc i) (drop t.len bytes) ts) (bad_text i) e in
    (h.0, texts_fit (suc i) (drop t.len bytes) ts h.1)

-- INPUT THAT PASSED causes 2 to 4, and 11 to 13
pub checked_input : (bytes tokens : List ℕ) → check_input bytes tokens ≡ accepted → Checked bytes tokens
unfolding check_input check_sizes check_count
checked_input bytes tokens e =
    let sizes : (leb (length bytes) MOST_BYTES && leb (length tokens) MOST_TOKEN_NUMBERS) ≡ true = unless_holds _ too_long (or_else_left (check_sizes bytes tokens) _ e) in
    let after_2 = or_else_right (check_sizes bytes tokens) _ e in
    let even : length tokens % TOKEN_ROW ≡ 0 = eqb-true _ _ (unless_holds (eqb (length tokens % TOKEN_ROW) 0) _ (or_else_left (check_count tokens) _ after_2)) in
    let after-3 = or_else_right (check_count tokens) _ after_2 in
    let g : RowsPass 0 (length bytes) (tokens_of tokens) = rows_pass 0 0 (length bytes) (tokens_of tokens) (or_else_left (check_rows 0 0 (length bytes) (tokens_of tokens)) _ after-3) in
    record {
      bytes_limit = leb-true _ _ (and_left _ _ sizes);
      numbers_limit = leb-true _ _ (and_right (leb (length bytes) MOST_BYTES) _ sizes);
      pairs = omega (arith, even, tokens_length tokens);
      covered = omega (arith, g.covered);
      good = g.good;
      texts = texts_fit 0 bytes (tokens_of tokens) (or_else_right (check_rows 0 0 (length bytes) (tokens_of tokens)) _ after-3);
    }
