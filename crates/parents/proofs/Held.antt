-- The last row before a child whose subtree holds it is its parent: what stands between the two are whole subtrees.
use Prim.Native.Nat.{ℕ, zero, suc, ◌+◌, ◌-◌, ◌≤◌, ◌<◌}
use native.Mathlib.Omega.{arith}
use mathlib.Core.Path.{◌≡◌, refl, ap, ◌∙◌}
use mathlib.Core.Bool.{Bool, true, false}
use mathlib.Core.List.{List}
use lib.Dec.{ltb}
use lib.ListN.{drop}
use lib.Seq.{drop-drop}
use borrow.Author.Tests.{ltb-true, ltb-false, lt-ltb, le-ltb}
use Rattle.rows.specs.ResultRows.{Row}
use Rattle.rows.specs.RowTree.{span, subtree_end, Child}
use Rattle.rows.proofs.Spans.{span_inside, child_after, child_inside, row_inside}
use Rattle.parents.specs.Upwards.{holder}

module _ (l : List Row) (p c : ℕ) (h : Child l p c) where
  -- a subtree between a parent and its child ends before the child
  between : (q : ℕ) → p < q → q < c → subtree_end l q ≤ c
  between q x y =
      let under = drop (suc p) l in
      let j : ℕ = q - suc p in
      let a : j < span h.before under = omega (arith, h.is, x, y) in
      let b : j + span 1 (drop j under) ≤ span h.before under = span_inside h.before j under a in
      let s : suc p + j ≡ q = omega (arith, x) in
      let d : span 1 (drop j under) ≡ span 1 (drop q l) = ap (span 1) (drop-drop j (suc p) l ∙ ap (λ (k : ℕ). drop k l) s) in
      omega (arith, b, d, h.is, s)

  held : (n : ℕ) → p < n → n ≤ c → holder l c n ≡ p
  unfolding holder
  held zero x y = absurd (omega arith)
  held (suc n) x y = go (ltb p n) refl (λ g. held n g (omega (arith, y)))
    where
      go : (b : Bool) → ltb p n ≡ b → (p < n → holder l c n ≡ p) → holder l c (suc n) ≡ p
      go true e rec =
          let g = ltb-true p n e in
          rw (le-ltb c (subtree_end l n) (between n g (omega (arith, y)))) (rec g)
      go false e rec =
          let g = ltb-false p n e in
          let z : n ≡ p = omega (arith, g, x) in
          let i = child_inside l p c h in
          let r = row_inside l c h.exists in
          rw (z, lt-ltb c (subtree_end l p) (omega (arith, i, r)))

  -- THE PARENT
  pub parent_holds : holder l c c ≡ p
  parent_holds = held c (child_after l p c h) (omega arith)
