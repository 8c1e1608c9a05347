-- The statements on ` a;`: the rows that the call leaves meet them, and rows with one wrong number do not.
use Prim.Native.Nat.{ℕ}
use native.Mathlib.Omega.{arith}
use mathlib.Core.Path.{◌≡◌, refl, subst}
use mathlib.Core.List.{List, [], ◌∷◌}
use lib.ListN.{replicate}
use Rattle.definitions.specs.Call.{Buffers, Result, call}
use Rattle.rows.specs.ResultRows.{Row, tree_rows, cut_rows}
use Rattle.rows.specs.RowTree.{span}
use Rattle.parents.specs.Upwards.{up, NamesUp, naming, holder, Upwards}
use Rattle.parents.specs.Before.{first_four}
use Rattle.parents.proofs.Upwards.{parents}

-- ---------------------------------------------------------------- ` a;`

abbrev lent : Buffers
lent = record { events = replicate 60 7; trees = replicate 30 7; errors = []; reports = []; pool = [] }

abbrev accepted : Result
accepted = call 1 0 (32 ∷ 97 ∷ 59 ∷ []) (0 ∷ 1 ∷ 27 ∷ 1 ∷ 29 ∷ 1 ∷ []) lent

-- the root, the space, a property, its Name and its semicolon; the parents of the last two are given
abbrev with_parents : ℕ → ℕ → List Row
with_parents p q =
    (0 ∷ 0 ∷ 3 ∷ 2 ∷ 0 ∷ []) ∷ (1 ∷ 0 ∷ 1 ∷ 1 ∷ 0 ∷ []) ∷ (0 ∷ 16 ∷ 2 ∷ 2 ∷ 0 ∷ []) ∷ (1 ∷ 26 ∷ 1 ∷ 1 ∷ p ∷ []) ∷ (1 ∷ 29 ∷ 1 ∷ 1 ∷ q ∷ []) ∷ []

abbrev rows : List Row
rows = with_parents 2 2

rows_are : tree_rows accepted ≡ rows
unfolding tree_rows cut_rows call
rows_are = refl

-- the premise is met, and so the claim holds of them
is_accepted : accepted.answer.number ≡ 0
unfolding call
is_accepted = refl

claimed : Upwards rows
claimed = subst Upwards rows_are (parents 1 0 _ _ lent is_accepted)

-- computed: two steps up from the semicolon is the root; three rows name the root, its own name among them, two the
-- property and none the space; the last row before each row whose subtree holds it; the rows as they were
computed_up : (up rows 2 4 ≡ 0) × (up rows 1 4 ≡ 2) × (up rows 3 4 ≡ 0)
unfolding up
computed_up = (refl, refl, refl)

computed_counts : (naming 0 rows ≡ 3) × (naming 1 rows ≡ 0) × (naming 2 rows ≡ 2)
unfolding naming
computed_counts = (refl, refl, refl)

computed_holders : (holder rows 1 1 ≡ 0) × (holder rows 2 2 ≡ 0) × (holder rows 3 3 ≡ 2) × (holder rows 4 4 ≡ 2)
unfolding holder span
computed_holders = (refl, refl, refl, refl)

computed_before : first_four rows ≡ 0 ∷ 0 ∷ 3 ∷ 2 ∷ 1 ∷ 0 ∷ 1 ∷ 1 ∷ 0 ∷ 16 ∷ 2 ∷ 2 ∷ 1 ∷ 26 ∷ 1 ∷ 1 ∷ 1 ∷ 29 ∷ 1 ∷ 1 ∷ []
unfolding first_four
computed_before = refl

-- the rows that the caret lists in the Name, the root aside; a chain that leaves the property out is none
computed_chain : NamesUp rows 0 (2 ∷ 3 ∷ [])
unfolding NamesUp
computed_chain = (refl, (refl, tt))

row_left_out : NamesUp rows 0 (3 ∷ []) → ⊥
unfolding NamesUp
row_left_out h = omega (arith, h.0)

-- ---------------------------------------------------------------- rows that are excluded

-- the row before in the place of the parent: the semicolon names the Name, which has no children
row_before : Upwards (with_parents 2 3) → ⊥
row_before u = omega (arith, (u.names_child 4 (omega arith) (omega arith)).among)

-- a distance: the Name is one row after its parent, and names row 1
a_distance : Upwards (with_parents 1 2) → ⊥
a_distance u = omega (arith, (u.names_child 3 (omega arith) (omega arith)).among)

-- where the parent's numbers start in the buffer
an_index : Upwards (with_parents 10 10) → ⊥
an_index u = omega (arith, u.earlier 3 (omega arith) (omega arith))

-- an ancestor: the property then has two children, and one row names it
an_ancestor : Upwards (with_parents 2 0) → ⊥
unfolding naming
an_ancestor u = omega (arith, u.counts 2)

-- itself
itself : Upwards (with_parents 3 2) → ⊥
itself u = omega (arith, u.earlier 3 (omega arith) (omega arith))

-- a root that does not name itself
root_names_another : Upwards ((0 ∷ 0 ∷ 1 ∷ 1 ∷ 1 ∷ []) ∷ (1 ∷ 0 ∷ 1 ∷ 1 ∷ 0 ∷ []) ∷ []) → ⊥
root_names_another u = omega (arith, u.root.1)

-- a child too many, and one too few
child_invented : Upwards ((0 ∷ 0 ∷ 1 ∷ 2 ∷ 0 ∷ []) ∷ (1 ∷ 0 ∷ 1 ∷ 1 ∷ 0 ∷ []) ∷ []) → ⊥
unfolding naming
child_invented u = omega (arith, u.counts 0)

child_lost : Upwards ((0 ∷ 0 ∷ 1 ∷ 0 ∷ 0 ∷ []) ∷ (1 ∷ 0 ∷ 1 ∷ 1 ∷ 0 ∷ []) ∷ []) → ⊥
unfolding naming
child_lost u = omega (arith, u.counts 0)

-- no row at all
no_root : Upwards [] → ⊥
no_root u = omega (arith, u.root.0)
