-- TOLD APART: what 4/14 changes of an answer, and what it leaves. A call is refused with 3, 11, 12 or 13 now exactly if
-- it was refused with 3 before. Its place is document 01's, but for an odd count with an earlier bad row. Every other
-- call is answered as it was. It excludes 4 before 13, a bad row that is let through, a sound one that is refused, an
-- odd count after the rows, and another place.
use Rattle.std.specs.Prelude.{ℕ, ◌≤◌, ◌≡◌, ◌↔◌, ◌⊎◌, List, length}
use Rattle.definitions.specs.Token.{tokens_of}
use Rattle.definitions.specs.Call.{Buffers, Result}
use Rattle.definitions.specs.Call as Call
use Rattle.refusals.specs.Refusals.{WholeRows}
use Rattle.row_causes.specs.Before as Before

-- 3, 11, 12 or 13
abbrev pub OfRows : ℕ → Type 0
OfRows number = (number ≡ 3) ⊎ ((11 ≤ number) × (number ≤ 13))

-- tokens, b: the numbers and the buffers that a call is given. was, now: what it returned and what it returns. Numbers
-- are `WholeRows` where none is left over (refusals/specs/Refusals.antt).
pub record Apart (tokens : List ℕ) (b : Buffers) (was now : Result) : Type 0 where
  pub exactly : OfRows now.answer.number ↔ (was.answer.number ≡ 3)
  -- one of 11 to 13, with document 01's place
  pub of_whole_rows : was.answer.number ≡ 3 → WholeRows tokens
      → (11 ≤ now.answer.number) × (now.answer.number ≤ 13) × (now.answer.place ≡ was.answer.place)
  -- 3, with the count of whole rows: document 01's place too, unless that was an earlier bad row
  pub of_odd_count : was.answer.number ≡ 3 → ¬ WholeRows tokens
      → (now.answer.number ≡ 3) × (now.answer.place ≡ length (tokens_of tokens)) × (was.answer.place ≤ now.answer.place)
  pub as_it_was : was.answer.number ≡ 3 → (now.buffers ≡ b) × (was.buffers ≡ b)
  pub others : ¬ (was.answer.number ≡ 3) → now ≡ was

abbrev pub ToldApart : Type 0
ToldApart =
    (n setting : ℕ) (bytes tokens : List ℕ) (b : Buffers)
    → Apart tokens b (Before.call n setting bytes tokens b) (Call.call n setting bytes tokens b)
