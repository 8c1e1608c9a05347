-- The rows of a tree, written from two row numbers on: all that differs is the parents, which move as the numbers do,
-- and the root's, which stays.
use Prim.Native.Nat.{ℕ, suc, ◌+◌, ◌<◌}
use native.Mathlib.Omega.{arith}
use mathlib.Core.Path.{◌≡◌, refl}
use mathlib.Core.List.{List, [], ◌∷◌}
use Rattle.definitions.specs.Place.{Tree, nil, leaf, subtree, row_count}
use Rattle.rows.specs.ResultRows.{Row}
use Rattle.rows.proofs.Written.{rows_of}
use Rattle.recovery.specs.Recovery.{Moved, Pairwise, none, more, ParentMoved, TreeMoved}
use Rattle.recovery.specs.Recovery as R
use Rattle.recovery.proofs.LaterNames.{pairwise_append}

-- two row numbers that are parents: both the root's, or moved by b less a
pub data Moves (a b p q : ℕ) : Type 0 where
  stays : p ≡ 0 → q ≡ 0 → Moves a b p q
  goes : (p ≡ 0 → ⊥) → (q ≡ 0 → ⊥) → Moved a b p q → Moves a b p q

module _ (a b : ℕ) where
  abbrev Alike : List Row → List Row → Type 0
  Alike = Pairwise (TreeMoved a b)

  -- a row, with its parent moved
  moved_row : (c k w n p q : ℕ) → Moves a b p q → TreeMoved a b (c ∷ k ∷ w ∷ n ∷ p ∷ []) (c ∷ k ∷ w ∷ n ∷ q ∷ [])
  moved_row c k w n p q (stays e f) = record { same_class = refl; same_kind = refl; same_width = refl; same_count = refl; parent_moves = R.root e f }
  moved_row c k w n p q (goes e f m) = record { same_class = refl; same_kind = refl; same_width = refl; same_count = refl; parent_moves = R.row e f m }

  -- under parents p and q, from row numbers i and j on, which are no root's
  pub rows_moved : (f : Tree) (p q i j : ℕ) → Moves a b p q → Moved a b i j → 0 < i → 0 < j → Alike (rows_of p i f) (rows_of q j f)
  unfolding rows_of
  rows_moved nil p q i j m e x y = none
  rows_moved (leaf k ts f) p q i j m e x y =
      more (moved_row _ k _ _ p q m) (rows_moved f p q (suc i) (suc j) m (omega arith) (omega arith) (omega arith))
  rows_moved (subtree k c f) p q i j m e x y =
      more (moved_row _ k _ _ p q m)
      (pairwise_append (TreeMoved a b) (rows_of i (suc i) c) (rows_of j (suc j) c) _ _
      (rows_moved c i j (suc i) (suc j) (goes (λ z. omega arith) (λ z. omega arith) e) (omega arith) (omega arith) (omega arith))
      (rows_moved f p q (suc i + row_count c) (suc j + row_count c) m (omega arith) (omega arith) (omega arith)))
