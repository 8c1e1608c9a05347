-- THE PARTS IN A RANGE, said of the rows that the query leaves in its buffers. It excludes a part that only touches the
-- range, one that is missed, listed twice or out of order, and one that is not at the top level.
use Rattle.std.specs.Prelude.{ℕ, ◌≤◌, ◌<◌, ◌≡◌, ◌⊎◌, List, [], ◌∷◌}
use Rattle.definitions.specs.Call.{Buffers}
use Rattle.definitions.specs.Caret.{range, query_call}
use Rattle.rows.specs.ResultRows.{Row}
use Rattle.rows.specs.RowTree.{Child, HasByte}
use Rattle.queries.specs.UnderCaret.{rows_left, on_list}

-- a number on a list
abbrev pub On : ℕ → List ℕ → Type 0
On i [] = ⊥
On i (x ∷ l) = (i ≡ x) ⊎ On i l

-- each number is less than the next, so that none is there twice
abbrev pub Ascending : List ℕ → Type 0
Ascending [] = Unit {0}
Ascending (x ∷ []) = Unit {0}
Ascending (x ∷ y ∷ l) = (x < y) × Ascending (y ∷ l)

-- a row has a byte in a range, "its end excluded"
pub record Shares (l : List Row) (from to i : ℕ) : Type 0 where
  pub byte : ℕ
  pub after_start : from ≤ byte
  pub before_end : byte < to
  pub has : HasByte l i byte

-- "lists, by number too, the top-level parts that share a byte with a range, its end excluded, in order"
pub record PartsListed (l : List Row) (from to : ℕ) (rows : List ℕ) : Type 0 where
  -- a part, which is a child of the root, is listed exactly if it shares a byte
  pub part : (i : ℕ) → On i rows → Child l 0 i
  pub shares : (i : ℕ) → On i rows → Shares l from to i
  pub all : (i : ℕ) → Child l 0 i → Shares l from to i → On i rows
  pub in_order : Ascending rows
  -- an empty or reversed range shares no byte
  pub nothing : to ≤ from → rows ≡ []

-- for every accepted query
abbrev pub PartsAnswered : Type 0
PartsAnswered =
    (from to setting : ℕ) (bytes tokens : List ℕ) (b : Buffers) (list : List ℕ)
    → (query_call (range from to) setting bytes tokens b list).answer.number ≡ 0
    → PartsListed (rows_left (query_call (range from to) setting bytes tokens b list)) from to
    (on_list (query_call (range from to) setting bytes tokens b list))
