-- TEXT ANSWERED: what a call over a text returns, by its number, and what every lent buffer then holds. It excludes a
-- token buffer that is written before 10 is known, rows left behind at 5 to 8, and an odd last number that is not zero.
use Rattle.std.specs.Prelude.{ℕ, ◌≤◌, ◌≡◌, ◌⊎◌, List, length}
use Rattle.definitions.specs.Grammar.{Entry}
use Rattle.definitions.specs.Lex.{lex}
use Rattle.definitions.specs.Call.{Buffers, Result, zeros, call}
use Rattle.definitions.specs.Text.{numbers_of, TextResult, text_call}
use Rattle.refusals.specs.Refusals.{entry_number, to_write}
use Rattle.refusals.specs.Answered.{Filled, Written, AllZero, SameLengths, NoCounts}

-- what a call over the tokens returns too: all but the token rows
abbrev pub parsed : TextResult → Result
parsed r = record { answer = r.answer; buffers = r.buffers }

-- 1, 2, 9, 10: "these leave every buffer unchanged"
abbrev pub BeforeTheParse : ℕ → Type 0
BeforeTheParse number = (number ≡ 1) ⊎ ((number ≡ 2) ⊎ ((number ≡ 9) ⊎ (number ≡ 10)))

-- n, setting, bytes, tokens, b: what a call is given. r: what it returns.
pub record TextReturns (n setting : ℕ) (bytes tokens : List ℕ) (b : Buffers) (r : TextResult) : Type 0 where
  pub at_most_10 : r.answer.number ≤ 10
  pub accepted : r.answer.number ≡ 0 → (e : Entry) × (entry_number e ≡ n)
      × Written (to_write setting e bytes (numbers_of (lex bytes))) b (parsed r)
      × Filled 2 r.token_count (numbers_of (lex bytes)) tokens r.tokens
  pub as_it_was : BeforeTheParse r.answer.number → (r.buffers ≡ b) × (r.tokens ≡ tokens)
  pub all_zero : 5 ≤ r.answer.number → r.answer.number ≤ 8 → AllZero b (parsed r) × (r.tokens ≡ zeros tokens)
  pub no_counts : 1 ≤ r.answer.number → NoCounts (parsed r) × (r.token_count ≡ 0)
  pub lengths : SameLengths b (parsed r) × (length r.tokens ≡ length tokens)
  -- "all else is that of the tokens": where the parse was come to, by whatever number
  pub all_else : ¬ BeforeTheParse r.answer.number → parsed r ≡ call n setting bytes (numbers_of (lex bytes)) b

abbrev pub TextAnswered : Type 0
TextAnswered =
    (n setting : ℕ) (bytes tokens : List ℕ) (b : Buffers)
    → TextReturns n setting bytes tokens b (text_call n setting bytes tokens b)
