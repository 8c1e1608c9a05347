-- The rows of a tree without their parents are those that it had before.
use Prim.Native.Nat.{ℕ, suc, ◌+◌}
use mathlib.Core.Path.{◌≡◌, refl, ap, sym, ◌∙◌}
use mathlib.Core.List.{List, [], ◌∷◌, ◌++◌, append_assoc}
use lib.ListN.{length, take}
use Rattle.definitions.specs.Layout.{TREE_PARENT, NODE, LEAF}
use Rattle.definitions.specs.Token.{Token, tokens_of, byte_count}
use Rattle.definitions.specs.Grammar.{root_kind}
use Rattle.definitions.specs.Place.{Tree, nil, leaf, subtree, root, width, count, row_count}
use Rattle.definitions.specs.Call.{run_entry, names_of}
use Rattle.laws.proofs.Accepted.{Accepted, accepted_call}
use Rattle.rows.specs.ResultRows.{Row, tree_rows}
use Rattle.rows.proofs.Written.{rows_of}
use Rattle.parents.specs.Before.{rows_before, first_four, OnlyParentsNew}
use Rattle.parents.proofs.Upwards.{written}

four_append : (l m : List Row) → first_four (l ++ m) ≡ first_four l ++ first_four m
unfolding first_four
four_append [] m = refl
four_append (r ∷ l) m = ap (take TREE_PARENT r ++◌) (four_append l m) ∙ sym (append_assoc (take TREE_PARENT r) (first_four l) (first_four m))

four_rows : (f : Tree) (p i : ℕ) → first_four (rows_of p i f) ≡ rows_before f
unfolding first_four rows_of rows_before
four_rows nil p i = refl
four_rows (leaf k ts f) p i = ap (λ (l : List ℕ). LEAF ∷ k ∷ byte_count ts ∷ length ts ∷ l) (four_rows f p (suc i))
four_rows (subtree k c f) p i =
    let n = suc i + row_count c in
    ap (λ (l : List ℕ). NODE ∷ k ∷ width c ∷ count c ∷ l)
    (four_append (rows_of i (suc i) c) (rows_of p n f) ∙ (λ j. four_rows c i (suc i) j ++ four_rows f p n j))

-- ONLY THE PARENTS ARE NEW
pub only_parents_new : OnlyParentsNew
only_parents_new n setting bytes tokens b h =
    let a : Accepted n setting bytes tokens b = accepted_call n setting bytes tokens b h in
    let ts : List Token = tokens_of tokens in
    let t = root (root_kind a.entry) (run_entry a.entry ts) ts in (
      a.entry,
      a.asked_for,
      ap first_four (ap tree_rows a.returns ∙ written a.entry ts (names_of setting a.entry bytes ts) b) ∙ four_rows t 0 0,
    )
