-- The rows that have a byte are a chain from the root to a leaf that has it: by induction over the tree whose rows they
-- are, each part of which stands among all rows as a child of the row above.
use Prim.Native.Nat.{ℕ, suc, ◌+◌, ◌-◌, ◌<◌}
use native.Mathlib.Omega.{arith}
use mathlib.Core.Path.{◌≡◌, refl, ap, sym, ◌∙◌, subst}
use mathlib.Core.Bool.{Bool, true, false}
use mathlib.Core.List.{List, ◌++◌, append_assoc}
use lib.Dec.{ltb}
use borrow.Author.Tests.{ltb-true, ltb-false}
use Rattle.definitions.specs.Token.{byte_count}
use Rattle.definitions.specs.Place.{Tree, nil, leaf, subtree, width, row_count}
use Rattle.rows.specs.ResultRows.{Row}
use Rattle.rows.specs.RowTree.{Chain, first_byte, HasByte, IsLeaf}
use Rattle.rows.specs.OnePass.{holding}
use Rattle.rows.proofs.Written.{rows_of}
use Rattle.rows.proofs.Placed.{Placed, leaf_child, leaf_is, leaf_width, after_leaf, leaf_next, node_child, under_node, same_start, after_node, node_next}
use Rattle.rows.proofs.Passes.{holding_at, holding_past}

-- rows below row p lead to a leaf that has a byte
pub record Leads (all : List Row) (p byte : ℕ) (rest : List ℕ) : Type 0 where
  pub end_leaf : ℕ
  pub chain : Chain all p rest end_leaf
  pub is_leaf : IsLeaf all end_leaf
  pub has : HasByte all end_leaf byte

leads_at : (all : List Row) (p x y : ℕ) (rest : List ℕ) → x ≡ y → Leads all p x rest → Leads all p y rest
leads_at all p x y rest e h = subst (λ (n : ℕ). Leads all p n rest) e h

pub leads : (all : List Row) (f : Tree) (l : List Row) (s p before left : ℕ) → Placed all f l s p before → left < width f
    → Leads all p (first_byte all s + left) (holding s left (rows_of p s f ++ l))
unfolding rows_of holding width Chain
leads all nil l s p before left w h = absurd (omega arith)
leads all (leaf k ts f) l s p before left w h =
    go (ltb left (byte_count ts)) refl
    (λ x. leads all f l (suc s) p (suc before) (left - byte_count ts) (after_leaf all k ts f l s p before w) x)
  where
    go : (b : Bool) → ltb left (byte_count ts) ≡ b
        → (left - byte_count ts < width f → Leads all p (first_byte all (suc s) + (left - byte_count ts)) (holding (suc s) (left - byte_count ts) (rows_of p (suc s) f ++ l)))
        → Leads all p (first_byte all s + left) (holding s left (rows_of p s (leaf k ts f) ++ l))
    go true e rec =
        let x = ltb-true left (byte_count ts) e in
        rw e record {
          end_leaf = s;
          chain = (leaf_child all k ts f l s p before w, refl);
          is_leaf = leaf_is all k ts f l s p before w;
          has = (omega arith, (let n = leaf_width all k ts f l s p before w in omega (arith, n, x)));
        }
    go false e rec =
        let x = ltb-false left (byte_count ts) e in
        let n = leaf_next all k ts f l s p before w in
        rw e (leads_at all p _ _ _ (omega (arith, n, x)) (rec (omega (arith, h, x))))
leads all (subtree k c f) l s p before left w h =
    go (ltb left (width c)) refl
    (λ x. leads all c (rows_of p (suc s + row_count c) f ++ l) (suc s) s 0 left (under_node all k c f l s p before w) x)
    (λ x. leads all f l (suc s + row_count c) p (suc before) (left - width c) (after_node all k c f l s p before w) x)
  where
    go : (b : Bool) → ltb left (width c) ≡ b
        → (left < width c → Leads all s (first_byte all (suc s) + left) (holding (suc s) left (rows_of s (suc s) c ++ (rows_of p (suc s + row_count c) f ++ l))))
        → (left - width c < width f → Leads all p (first_byte all (suc s + row_count c) + (left - width c)) (holding (suc s + row_count c) (left - width c) (rows_of p (suc s + row_count c) f ++ l)))
        → Leads all p (first_byte all s + left) (holding s left (rows_of p s (subtree k c f) ++ l))
    go true e inner after =
        let r = inner (ltb-true left (width c) e) in
        let n = same_start all k c f l s p before w in
        let same : holding (suc s) left (rows_of s (suc s) c ++ (rows_of p (suc s + row_count c) f ++ l)) ≡ holding (suc s) left ((rows_of s (suc s) c ++ rows_of p (suc s + row_count c) f) ++ l) = ap (holding (suc s) left) (sym (append_assoc (rows_of s (suc s) c) (rows_of p (suc s + row_count c) f) l)) in
        let q : Leads all s (first_byte all s + left) (holding (suc s) left ((rows_of s (suc s) c ++ rows_of p (suc s + row_count c) f) ++ l)) =
        subst (Leads all s (first_byte all s + left)) same (leads_at all s _ _ _ (omega (arith, n)) r) in
        rw e record { end_leaf = q.end_leaf; chain = (node_child all k c f l s p before w, q.chain); is_leaf = q.is_leaf; has = q.has }
    go false e inner after =
        let x = ltb-false left (width c) e in
        let n = node_next all k c f l s p before w in
        let same : holding (suc s + row_count c) (left - width c) (rows_of p (suc s + row_count c) f ++ l) ≡ holding (suc s) (left - 0) ((rows_of s (suc s) c ++ rows_of p (suc s + row_count c) f) ++ l) =
        sym
        (ap (holding (suc s) (left - 0)) (append_assoc (rows_of s (suc s) c) (rows_of p (suc s + row_count c) f) l)
        ∙ holding_past c s (suc s) (left - 0) (rows_of p (suc s + row_count c) f ++ l) (omega (arith, x))
        ∙ holding_at (rows_of p (suc s + row_count c) f ++ l) refl (omega arith)) in
        rw e (subst (Leads all p (first_byte all s + left)) same (leads_at all p _ _ _ (omega (arith, n, x)) (after (omega (arith, h, x)))))
