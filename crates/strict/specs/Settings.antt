-- TWO SETTINGS, AND THE SAME TREE. Document 02, 1/14: "Partners want a strict setting beside the old one. It leaves the
-- tree alone and adds message 8 .. These reports .. follow all others". Of any call in any setting, beside the old
-- setting's call with the same input and the same buffers. It excludes a third setting, a strict setting that changes a
-- tree, a lexical error, a report of the old one or its expectations, and one that refuses where the old setting does
-- not, but for want of room for a report.
use Rattle.std.specs.Prelude.{ℕ, ◌*◌, ◌≤◌, ◌≡◌, List, ◌⊎◌, take}
use Rattle.definitions.specs.Layout.{REPORT_ROW}
use Rattle.definitions.specs.Call.{Buffers, Result, call}

-- every number but 0 is the strict setting
abbrev pub OneStrictSetting : Type 0
OneStrictSetting =
    (n s t : ℕ) (bytes tokens : List ℕ) (b : Buffers) → (s ≡ 0 → ⊥) → (t ≡ 0 → ⊥)
    → call n s bytes tokens b ≡ call n t bytes tokens b

-- ---------------------------------------------------------------- it leaves the tree alone

-- the numbers of the first c report rows
abbrev pub first_rows : ℕ → Result → List ℕ
first_rows c r = take (REPORT_ROW * c) r.buffers.reports

-- a result r, beside the old setting's
pub record SameTree (r old : Result) : Type 0 where
  -- the old setting accepts too
  pub number : old.answer.number ≡ 0
  pub place : old.answer.place ≡ r.answer.place
  -- every number of these
  pub events : old.buffers.events ≡ r.buffers.events
  pub trees : old.buffers.trees ≡ r.buffers.trees
  pub errors : old.buffers.errors ≡ r.buffers.errors
  pub pool : old.buffers.pool ≡ r.buffers.pool
  pub tree_count : old.answer.tree_count ≡ r.answer.tree_count
  pub error_count : old.answer.error_count ≡ r.answer.error_count
  pub expectation_count : old.answer.expectation_count ≡ r.answer.expectation_count
  -- the old setting's reports are the first ones of this one's
  pub no_fewer : old.answer.report_count ≤ r.answer.report_count
  pub first_reports : first_rows old.answer.report_count old ≡ first_rows old.answer.report_count r

-- for every accepted call
abbrev pub LeavesTreeAlone : Type 0
LeavesTreeAlone =
    (n s : ℕ) (bytes tokens : List ℕ) (b : Buffers) → (call n s bytes tokens b).answer.number ≡ 0
    → SameTree (call n s bytes tokens b) (call n 0 bytes tokens b)

-- ---------------------------------------------------------------- refusals

-- one with a number other than 7 is the old setting's, answer and every buffer
abbrev pub SameRefusals : Type 0
SameRefusals =
    (n s : ℕ) (bytes tokens : List ℕ) (b : Buffers) → ((call n s bytes tokens b).answer.number ≡ 0 → ⊥)
    → ((call n s bytes tokens b).answer.number ≡ 7 → ⊥)
    → call n 0 bytes tokens b ≡ call n s bytes tokens b

-- where the old setting refuses, so does any, with the same answer and buffers; but where it gives 8, another may
-- give 7
abbrev pub OldRefusals : Type 0
OldRefusals =
    (n s : ℕ) (bytes tokens : List ℕ) (b : Buffers) → ((call n 0 bytes tokens b).answer.number ≡ 0 → ⊥)
    → (call n s bytes tokens b ≡ call n 0 bytes tokens b)
    ⊎ (((call n 0 bytes tokens b).answer.number ≡ 8) × ((call n s bytes tokens b).answer.number ≡ 7))
