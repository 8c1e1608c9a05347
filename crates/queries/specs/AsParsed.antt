-- BOTH PARSE FIRST. Document 02, 5/14: "with the parser's refusals; a list that doesn't fit is refusal 8." What any
-- query answers and leaves, by what the parse of the same source file answers and leaves. It excludes a cause of its own, a
-- list left as it was where it does not fit, counts or buffers that differ from the parse's, and a list that is not
-- cleared after its numbers.
use Rattle.std.specs.Prelude.{ℕ, ◌-◌, ◌≤◌, ◌<◌, ◌≡◌, List, ◌++◌, length, replicate}
use Rattle.definitions.specs.Token.{tokens_of}
use Rattle.definitions.specs.Call.{Buffers, Answer, Result, zeros, call}
use Rattle.definitions.specs.Caret.{Query, listed, source_tree, ListResult, query_call}
use Rattle.refusals.specs.Answered.{BeforeTheParse, InTheParse}

-- number 8, place 0, no counts
pub record NoRoom (a : Answer) : Type 0 where
  pub number : a.number ≡ 8
  pub place : a.place ≡ 0
  pub tree_count : a.tree_count ≡ 0
  pub error_count : a.error_count ≡ 0
  pub report_count : a.report_count ≡ 0
  pub expectation_count : a.expectation_count ≡ 0

pub record AllZero (b c : Buffers) : Type 0 where
  pub events : c.events ≡ zeros b.events
  pub trees : c.trees ≡ zeros b.trees
  pub errors : c.errors ≡ zeros b.errors
  pub reports : c.reports ≡ zeros b.reports
  pub pool : c.pool ≡ zeros b.pool

-- b, list: the buffers that were lent. l: the rows that are to be listed. r: what the parse returns. x: what the query
-- returns.
pub record EndsAsParsed (b : Buffers) (list l : List ℕ) (r : Result) (x : ListResult) : Type 0 where
  -- refused by the parse: the same refusal, and no list; its buffer is as the others are
  pub refused : (r.answer.number ≡ 0 → ⊥)
      → (x.answer ≡ r.answer) × ((x.list_count ≡ 0) × (x.buffers ≡ r.buffers))
  pub left_alone : BeforeTheParse r.answer.number → x.list ≡ list
  pub cleared : InTheParse r.answer.number → x.list ≡ zeros list
  -- accepted, and the list fits: all else is as the parse leaves it, and zeros follow the list
  pub kept : r.answer.number ≡ 0 → length l ≤ length list
      → (x.answer ≡ r.answer) × ((x.buffers ≡ r.buffers)
      × ((x.list_count ≡ length l) × (x.list ≡ l ++ replicate (length list - length l) 0)))
  -- accepted, and the list does not fit
  pub full : r.answer.number ≡ 0 → length list < length l
      → NoRoom x.answer × (AllZero b x.buffers × ((x.list_count ≡ 0) × (x.list ≡ zeros list)))

-- for any numbers and buffers
abbrev pub AsParsed : Type 0
AsParsed =
    (q : Query) (setting : ℕ) (bytes tokens : List ℕ) (b : Buffers) (list : List ℕ)
    → EndsAsParsed b list (listed q (length bytes) (source_tree (tokens_of tokens))) (call 1 setting bytes tokens b)
    (query_call q setting bytes tokens b list)

-- A list for as many numbers as the tree has rows is never too short: it fits wherever the tree does.
abbrev pub RowsSuffice : Type 0
RowsSuffice =
    (q : Query) (setting : ℕ) (bytes tokens : List ℕ) (b : Buffers) (list : List ℕ)
    → (call 1 setting bytes tokens b).answer.number ≡ 0
    → (call 1 setting bytes tokens b).answer.tree_count ≤ length list
    → (query_call q setting bytes tokens b list).answer.number ≡ 0
