-- The last leaf: where every leaf has a byte, the rows that have the last byte are the chain to the last leaf.
use Prim.Native.Nat.{ℕ, suc, ◌+◌, ◌-◌, ◌<◌}
use native.Mathlib.Omega.{arith}
use mathlib.Core.Path.{◌≡◌, refl, ap, sym, ◌∙◌}
use mathlib.Core.Bool.{Bool, true, false}
use mathlib.Core.List.{List, [], ◌∷◌, ◌++◌, append_assoc, append-nil}
use lib.Dec.{ltb}
use borrow.Author.Tests.{ltb-true, ltb-false, lt-ltb, le-ltb}
use Rattle.definitions.specs.Token.{byte_count}
use Rattle.definitions.specs.Place.{Tree, nil, leaf, subtree, width, row_count}
use Rattle.definitions.specs.Caret.{LeafAt, leaves_at, chain_to_last}
use Rattle.rows.specs.ResultRows.{Row}
use Rattle.rows.specs.OnePass.{holding}
use Rattle.rows.proofs.Written.{rows_of}
use Rattle.rows.proofs.Passes.{holding_at, holding_past, above_one}

-- every leaf has a byte
unfoldable pub LeavesWide : Tree → Type 0
unfolding byte_count
LeavesWide nil = Unit {0}
LeavesWide (leaf k ts f) = (0 < byte_count ts) × LeavesWide f
LeavesWide (subtree k c f) = LeavesWide c × LeavesWide f

-- without a byte there is no leaf
pub no_leaf : (f : Tree) (above : List ℕ) (i start : ℕ) → LeavesWide f → width f ≡ 0 → leaves_at above i start f ≡ []
unfolding LeavesWide leaves_at width
no_leaf nil above i start h e = refl
no_leaf (leaf k ts f) above i start h e = let p = h.0 in absurd (omega arith)
no_leaf (subtree k c f) above i start h e =
    rw (no_leaf c (above ++ (i ∷ [])) (suc i) start h.0 (omega arith)) (no_leaf f above (suc i + row_count c) (start + width c) h.1 (omega arith))

last_append : (c : List ℕ) (l m : List LeafAt) → chain_to_last c (l ++ m) ≡ chain_to_last (chain_to_last c l) m
unfolding chain_to_last
last_append c [] m = refl
last_append c (x ∷ l) m = last_append x.chain l m

pub last_holding : (f : Tree) (p : ℕ) (c₀ above : List ℕ) (i start : ℕ) (l : List Row) → LeavesWide f → 0 < width f
    → chain_to_last c₀ (leaves_at above i start f) ≡ above ++ holding i (width f - 1) (rows_of p i f ++ l)
unfolding LeavesWide leaves_at chain_to_last width rows_of holding
last_holding nil p c₀ above i start l h g = absurd (omega arith)
last_holding (leaf k ts f) p c₀ above i start l h g =
    go (ltb 0 (width f)) refl (λ q. last_holding f p (above ++ (i ∷ [])) above (suc i) (start + byte_count ts) l h.1 q)
  where
    go : (b : Bool) → ltb 0 (width f) ≡ b
        → (0 < width f → chain_to_last (above ++ (i ∷ [])) (leaves_at above (suc i) (start + byte_count ts) f) ≡ above ++ holding (suc i) (width f - 1) (rows_of p (suc i) f ++ l))
        → chain_to_last c₀ (leaves_at above i start (leaf k ts f)) ≡ above ++ holding i (width (leaf k ts f) - 1) (rows_of p i (leaf k ts f) ++ l)
    go true e rec =
        let q = ltb-true 0 (width f) e in
        let w = h.0 in
        rw (le-ltb (byte_count ts + width f - 1) (byte_count ts) (omega arith))
        (rec q ∙ ap (above ++◌) (holding_at (rows_of p (suc i) f ++ l) refl (omega arith)))
    go false e rec =
        let q = ltb-false 0 (width f) e in
        let w = h.0 in
        rw (no_leaf f above (suc i) (start + byte_count ts) h.1 (omega arith), lt-ltb (byte_count ts + width f - 1) (byte_count ts) (omega arith)) refl
last_holding (subtree k c f) p c₀ above i start l h g =
    go (ltb 0 (width f)) refl
    (λ q. last_holding c i c₀ (above ++ (i ∷ [])) (suc i) start (rows_of p (suc i + row_count c) f ++ l) h.0 q)
    (λ x q. last_holding f p x above (suc i + row_count c) (start + width c) l h.1 q)
  where
    go : (b : Bool) → ltb 0 (width f) ≡ b
        → (0 < width c → chain_to_last c₀ (leaves_at (above ++ (i ∷ [])) (suc i) start c) ≡ (above ++ (i ∷ [])) ++ holding (suc i) (width c - 1) (rows_of i (suc i) c ++ (rows_of p (suc i + row_count c) f ++ l)))
        → ((x : List ℕ) → 0 < width f → chain_to_last x (leaves_at above (suc i + row_count c) (start + width c) f) ≡ above ++ holding (suc i + row_count c) (width f - 1) (rows_of p (suc i + row_count c) f ++ l))
        → chain_to_last c₀ (leaves_at above i start (subtree k c f)) ≡ above ++ holding i (width (subtree k c f) - 1) (rows_of p i (subtree k c f) ++ l)
    go true e inner after =
        let q = ltb-true 0 (width f) e in
        let inside = leaves_at (above ++ (i ∷ [])) (suc i) start c in
        rw (le-ltb (width c + width f - 1) (width c) (omega arith))
        (last_append c₀ inside (leaves_at above (suc i + row_count c) (start + width c) f)
        ∙ after (chain_to_last c₀ inside) q
        ∙ ap (above ++◌)
        (sym
        (ap (holding (suc i) (width c + width f - 1 - 0)) (append_assoc (rows_of i (suc i) c) (rows_of p (suc i + row_count c) f) l)
        ∙ holding_past c i (suc i) (width c + width f - 1 - 0) (rows_of p (suc i + row_count c) f ++ l) (omega arith)
        ∙ holding_at (rows_of p (suc i + row_count c) f ++ l) refl (omega arith))))
    go false e inner after =
        let q = ltb-false 0 (width f) e in
        let x : width c + width f - 1 ≡ width c - 1 = omega arith in
        rw (no_leaf f above (suc i + row_count c) (start + width c) h.1 (omega arith), lt-ltb (width c + width f - 1) (width c) (omega arith))
        (ap (chain_to_last c₀) (append-nil (leaves_at (above ++ (i ∷ [])) (suc i) start c))
        ∙ inner (omega arith)
        ∙ above_one above i _
        ∙ ap (λ (y : List ℕ). above ++ (i ∷ y)) (holding_at (rows_of i (suc i) c ++ (rows_of p (suc i + row_count c) f ++ l)) refl (sym x))
        ∙ ap (λ (y : List Row). above ++ (i ∷ holding (suc i) (width c + width f - 1) y)) (sym (append_assoc (rows_of i (suc i) c) (rows_of p (suc i + row_count c) f) l)))
