-- ANSWERED: what any call returns, by its number, and what every lent buffer then holds. It excludes a number that is
-- not listed, buffers left unwritten or half written, a refusal that leaves something in them, and counts that differ
-- from the rows written.
use Rattle.std.specs.Prelude.{ℕ, ◌-◌, ◌*◌, ◌≤◌, ◌≡◌, ◌⊎◌, List, ◌++◌, length, replicate}
use Rattle.definitions.specs.Layout.{TREE_ROW, ERROR_ROW, REPORT_ROW}
use Rattle.definitions.specs.Grammar.{Entry}
use Rattle.definitions.specs.Call.{Buffers, Result, Sheets, zeros}
use Rattle.definitions.specs.Call as Call
use Rattle.refusals.specs.Refusals.{entry_number, to_write}

-- a buffer that holds these numbers and then zeros: whole rows of a size, as many as the answer says
pub record Filled (size count : ℕ) (numbers was is : List ℕ) : Type 0 where
  pub whole_rows : length numbers ≡ size * count
  pub fits : length numbers ≤ length was
  pub then_zeros : is ≡ numbers ++ replicate (length was - length numbers) 0

-- what an accepted call leaves, where s is to be written
pub record Written (s : Sheets) (b : Buffers) (r : Result) : Type 0 where
  pub trees : Filled TREE_ROW r.answer.tree_count s.trees b.trees r.buffers.trees
  pub errors : Filled ERROR_ROW r.answer.error_count s.errors b.errors r.buffers.errors
  pub reports : Filled REPORT_ROW r.answer.report_count s.reports b.reports r.buffers.reports
  pub pool : Filled 1 r.answer.expectation_count s.pool b.pool r.buffers.pool
  pub events : r.buffers.events ≡ zeros b.events

-- what a refusal from 5 on leaves
pub record AllZero (b : Buffers) (r : Result) : Type 0 where
  pub events : r.buffers.events ≡ zeros b.events
  pub trees : r.buffers.trees ≡ zeros b.trees
  pub errors : r.buffers.errors ≡ zeros b.errors
  pub reports : r.buffers.reports ≡ zeros b.reports
  pub pool : r.buffers.pool ≡ zeros b.pool

pub record SameLengths (b : Buffers) (r : Result) : Type 0 where
  pub events : length r.buffers.events ≡ length b.events
  pub trees : length r.buffers.trees ≡ length b.trees
  pub errors : length r.buffers.errors ≡ length b.errors
  pub reports : length r.buffers.reports ≡ length b.reports
  pub pool : length r.buffers.pool ≡ length b.pool

pub record NoCounts (r : Result) : Type 0 where
  pub tree_count : r.answer.tree_count ≡ 0
  pub error_count : r.answer.error_count ≡ 0
  pub report_count : r.answer.report_count ≡ 0
  pub expectation_count : r.answer.expectation_count ≡ 0

-- the numbers of a refusal that comes before the parse begins, and of one that comes in it
abbrev pub BeforeTheParse : ℕ → Type 0
BeforeTheParse number = ((1 ≤ number) × (number ≤ 4)) ⊎ ((11 ≤ number) × (number ≤ 13))

abbrev pub InTheParse : ℕ → Type 0
InTheParse number = (5 ≤ number) × (number ≤ 8)

-- n, setting, bytes, tokens, b: what a call is given. r: what it returns. Refusals by the documents' numbers, written
-- out as in Refusals.antt.
pub record Returns (n setting : ℕ) (bytes tokens : List ℕ) (b : Buffers) (r : Result) : Type 0 where
  pub listed : (r.answer.number ≡ 0) ⊎ (BeforeTheParse r.answer.number ⊎ InTheParse r.answer.number)
  pub accepted : r.answer.number ≡ 0 → (e : Entry) × (entry_number e ≡ n) × Written (to_write setting e bytes tokens) b r
  pub as_it_was : BeforeTheParse r.answer.number → r.buffers ≡ b
  pub all_zero : InTheParse r.answer.number → AllZero b r
  pub no_counts : 1 ≤ r.answer.number → NoCounts r
  -- a place other than 0 comes with 3 to 7 and 11 to 13 only
  pub no_place : (r.answer.number ≤ 2 → r.answer.place ≡ 0) × (r.answer.number ≡ 8 → r.answer.place ≡ 0)
  pub lengths : SameLengths b r

abbrev pub Answered : Type 0
Answered =
    (n setting : ℕ) (bytes tokens : List ℕ) (b : Buffers)
    → Returns n setting bytes tokens b (Call.call n setting bytes tokens b)
