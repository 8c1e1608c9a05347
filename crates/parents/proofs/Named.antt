-- Each row of a tree but the root is a child of the row that it names, and so the way up from any row ends at the root.
use Prim.Native.Nat.{ℕ, zero, suc, ◌+◌, ◌≤◌, ◌<◌}
use native.Mathlib.Omega.{arith}
use mathlib.Core.Path.{◌≡◌, refl, ap, sym, subst}
use mathlib.Core.Bool.{Bool, true, false}
use mathlib.Core.List.{List, [], ◌∷◌}
use lib.Dec.{ltb}
use lib.ListN.{length}
use borrow.Author.Tests.{ltb-true, ltb-false}
use Rattle.definitions.specs.Place.{Tree, nil, leaf, subtree, row_count}
use Rattle.rows.specs.ResultRows.{Row, parent}
use Rattle.rows.specs.RowTree.{subtree_end, Child, Chain}
use Rattle.rows.proofs.Written.{rows_of, rows_counted}
use Rattle.rows.proofs.Spans.{one_parent, child_after, child_inside, row_inside}
use Rattle.rows.proofs.Placed.{Placed, leaf_stands, leaf_child, after_leaf, node_stands, node_child, under_node, after_node, under_root}
use Rattle.parents.specs.Upwards.{parent_of, up, NamesUp}

-- row j is a child of the row that it names
abbrev Named : List Row → ℕ → Type 0
Named all j = Child all (parent_of all j) j

named_as : (all : List Row) (p j : ℕ) → parent_of all j ≡ p → Child all p j → Named all j
named_as all p j e h = subst (λ (x : ℕ). Child all x j) (sym e) h

-- the parts of a tree among all rows
named : (all : List Row) (f : Tree) (l : List Row) (s p before : ℕ) → Placed all f l s p before → (j : ℕ) → s ≤ j → j < s + row_count f → Named all j
unfolding row_count
named all nil l s p before w j h g = absurd (omega arith)
named all (leaf k ts f) l s p before w j h g =
    go (ltb s j) refl (λ x. named all f l (suc s) p (suc before) (after_leaf all k ts f l s p before w) j (omega (arith, x)) (omega (arith, g)))
  where
    go : (b : Bool) → ltb s j ≡ b → (s < j → Named all j) → Named all j
    go true e rec = rec (ltb-true s j e)
    go false e rec =
        let x = ltb-false s j e in
        let z : s ≡ j = omega (arith, x, h) in
        subst (Named all) z (named_as all p s (ap parent (leaf_stands all k ts f l s p before w).is) (leaf_child all k ts f l s p before w))
named all (subtree k c f) l s p before w j h g =
    go (ltb s j) (ltb j (suc s + row_count c)) refl refl
    (λ x y. named all c _ (suc s) s 0 (under_node all k c f l s p before w) j (omega (arith, x)) y)
    (λ y. named all f l (suc s + row_count c) p (suc before) (after_node all k c f l s p before w) j y (omega (arith, g)))
  where
    go : (a b : Bool) → ltb s j ≡ a → ltb j (suc s + row_count c) ≡ b → (s < j → j < suc s + row_count c → Named all j) → (suc s + row_count c ≤ j → Named all j) → Named all j
    go false b e d inner after =
        let x = ltb-false s j e in
        let z : s ≡ j = omega (arith, x, h) in
        subst (Named all) z (named_as all p s (ap parent (node_stands all k c f l s p before w).is) (node_child all k c f l s p before w))
    go true true e d inner after = inner (ltb-true s j e) (ltb-true j (suc s + row_count c) d)
    go true false e d inner after = after (ltb-false j (suc s + row_count c) d)

-- EACH ROW BUT THE ROOT, under a root
pub names_child : (k : ℕ) (t : Tree) (c : ℕ) → 0 < c → c < length (rows_of 0 0 (subtree k t nil)) → Child (rows_of 0 0 (subtree k t nil)) (parent_of (rows_of 0 0 (subtree k t nil)) c) c
unfolding row_count
names_child k t c h g = named (rows_of 0 0 (subtree k t nil)) t [] 1 0 0 (under_root k t) c h (let n = rows_counted (subtree k t nil) 0 0 in omega (arith, n, g))

-- ---------------------------------------------------------------- what follows

-- rows of which each but the first is a child of the row that it names
abbrev pub AllNamed : List Row → Type 0
AllNamed l = (c : ℕ) → 0 < c → c < length l → Child l (parent_of l c) c

module _ (l : List Row) (all : AllNamed l) where
  pub child_names : (p c : ℕ) → Child l p c → parent_of l c ≡ p
  child_names p c h = one_parent l (parent_of l c) p c (all c (let x = child_after l p c h in omega (arith, x)) h.exists) h

  pub earlier : (c : ℕ) → 0 < c → c < length l → parent_of l c < c
  earlier c h g = child_after l (parent_of l c) c (all c h g)

  pub inside : (c : ℕ) → 0 < c → c < length l → (c < subtree_end l (parent_of l c)) × (subtree_end l c ≤ subtree_end l (parent_of l c))
  inside c h g =
      let x = child_inside l (parent_of l c) c (all c h g) in
      let y = row_inside l c g in
      (omega (arith, x, y), x)

  pub chains : (p i : ℕ) (rest : List ℕ) → Chain l p rest i → NamesUp l p rest
  unfolding Chain NamesUp
  chains p i [] h = tt
  chains p i (c ∷ rest) h = (child_names p c h.0, chains c i rest h.1)

  -- n: a bound on the row's number
  climbs : (n c : ℕ) → c ≤ n → c < length l → (m : ℕ) × (m ≤ c) × (up l m c ≡ 0)
  unfolding up
  climbs zero zero h g = (0, omega arith, refl)
  climbs zero (suc c) h g = absurd (omega arith)
  climbs (suc n) zero h g = (0, omega arith, refl)
  climbs (suc n) (suc c) h g =
      let e = earlier (suc c) (omega arith) g in
      let r = climbs n (parent_of l (suc c)) (omega (arith, e, h)) (omega (arith, e, g)) in
      (suc r.0, omega (arith, e, r.1), r.2)

  pub to_root : (c : ℕ) → c < length l → (n : ℕ) × (n ≤ c) × (up l n c ≡ 0)
  to_root c h = climbs c c (omega arith) h
