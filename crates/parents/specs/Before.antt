-- The tree rows as they were before request 7/14, of four numbers each, beside those of today: the fifth number is all
-- that is new.
use Rattle.std.specs.Prelude.{ℕ, ◌≡◌, List, [], ◌∷◌, ◌++◌, length, take}
use Rattle.definitions.specs.Layout.{TREE_PARENT, NODE, LEAF}
use Rattle.definitions.specs.Token.{tokens_of, byte_count}
use Rattle.definitions.specs.Grammar.{Entry, root_kind}
use Rattle.definitions.specs.Place.{Tree, nil, leaf, subtree, root, width, count}
use Rattle.definitions.specs.Call.{Buffers, for, entry_of, run_entry, call}
use Rattle.rows.specs.ResultRows.{Row, tree_rows}

-- class, kind, width, count, in preorder
unfoldable pub rows_before : Tree → List ℕ
unfolding byte_count width count
rows_before nil = []
rows_before (leaf k ts f) = LEAF ∷ k ∷ byte_count ts ∷ length ts ∷ rows_before f
rows_before (subtree k c f) = NODE ∷ k ∷ width c ∷ count c ∷ (rows_before c ++ rows_before f)

-- the numbers of rows up to the parent's
unfoldable pub first_four : List Row → List ℕ
first_four [] = []
first_four (r ∷ l) = take TREE_PARENT r ++ first_four l

-- for every accepted call: its rows without their parents are those that it wrote before
abbrev pub OnlyParentsNew : Type 0
OnlyParentsNew =
    (n setting : ℕ) (bytes tokens : List ℕ) (b : Buffers) → (call n setting bytes tokens b).answer.number ≡ 0
    → (e : Entry) × (entry_of n ≡ for e)
    × (first_four (tree_rows (call n setting bytes tokens b))
    ≡ rows_before (root (root_kind e) (run_entry e (tokens_of tokens)) (tokens_of tokens)))
