-- The tree rows: how many there are, and that every number in them is small if the kinds and the whole are.
use Prim.Native.Nat.{ℕ, suc, ◌+◌, ◌≤◌, ◌<◌}
use native.Mathlib.Omega.{arith}
use mathlib.Core.Path.{◌≡◌, refl, ap, sym, subst}
use mathlib.Core.List.{List, [], ◌∷◌, ◌++◌}
use lib.ListN.{length, drop, length-append}
use Rattle.definitions.specs.TokenKind as K
use Rattle.definitions.specs.Token.{Token, is_error, seen, trivia, drop_trivia, past, byte_count}
use Rattle.definitions.specs.Skeleton.{Skeleton, done, token, name, node, ignored, report, over}
use Rattle.definitions.specs.Grammar.{Entry, SourceFile, ReferenceNoamp, PropValues, Cells, root_kind}
use Rattle.definitions.specs.Place.{Tree, nil, leaf, subtree, ◌⊕◌, lead, front, after, place, root, width, count, row_count}
use Rattle.definitions.specs.Parent.{rows, rows_under}
use Rattle.definitions.specs.Call.{run_entry}
use Rattle.laws.specs.Lossless.{KindOf, one_token, a_name}
use Rattle.basics.proofs.Tests.{cond-all}
use Rattle.laws.proofs.Tree.{leaves, width_leaves}
use Rattle.laws.proofs.Between.{entry_reads}
use Rattle.laws.proofs.Names.{entry_names}
use Rattle.laws.proofs.Leaves.{Right, right_root}
use Rattle.laws.proofs.Lossless.{lossless}
use Rattle.bounds.specs.Numbers.{Below, most_rows, CountsWithin}
use Rattle.bounds.proofs.Tables as T
use Rattle.bounds.proofs.Paid.{cost}
use Rattle.bounds.proofs.Counts.{counted}
use Rattle.bounds.proofs.Codes.{CODES, Coded, below_append}
use Rattle.bounds.proofs.CodedRuns.{entry_coded}

-- ---------------------------------------------------------------- how many

-- the nodes of a tree
branches : Tree → ℕ
branches nil = 0
branches (leaf k ts f) = branches f
branches (subtree k c f) = suc (branches c + branches f)

branches_beside : (f g : Tree) → branches (f ⊕ g) ≡ branches f + branches g
unfolding branches ◌⊕◌
branches_beside nil g = omega arith
branches_beside (leaf k ts f) g = branches_beside f g
branches_beside (subtree k c f) g = omega (arith, branches_beside f g)

no_branches : (ts : List Token) → branches (lead ts) ≡ 0
unfolding branches lead
no_branches [] = refl
no_branches (t ∷ ts) = cond-all (λ (f : Tree). branches f ≡ 0) (trivia t) {x = leaf t.kind (t ∷ []) (lead ts)} {y = nil} (no_branches ts) refl

no_branch : (ts : List Token) → branches (front ts) ≡ 0
unfolding branches front
no_branch [] = refl
no_branch (t ∷ ts) = refl

-- a node for each completed marker
branches_place : (o : Skeleton) (ts : List Token) → branches (place o ts) ≤ cost (T.price T.nodes) o
unfolding place cost branches ◌⊕◌
branches_place done ts = omega arith
branches_place (token t m o) ts = simp (branches_beside, no_branches, no_branch) (omega (arith, branches_place o (past (drop_trivia ts))))
branches_place (name raw m o) ts = simp (branches_beside, no_branches) (omega (arith, branches_place o (drop (length raw) (drop_trivia ts))))
branches_place (node k m m' a i o) ts =
    let u = drop_trivia ts in
    let v = after a u in
    simp (branches_beside, no_branches) (omega (arith, branches_place a u, branches_place i v, branches_place o (after i v)))
branches_place (ignored m m' a i o) ts =
    let v = after a ts in
    simp branches_beside (omega (arith, branches_place a ts, branches_place i v, branches_place o (after i v)))
branches_place (report r o) ts = omega (arith, branches_place o ts)
branches_place (over m o) ts = branches_place o ts

pub some_token : (k : ℕ) (raw : List Token) → KindOf k raw → 1 ≤ length raw
some_token k _ (one_token t e) = omega arith
some_token k _ (a_name t ts e n) = omega arith

-- no leaf is without a token
row_count_le : (t : Tree) → Right t → row_count t ≤ length (leaves t) + branches t
unfolding row_count Right leaves branches
row_count_le nil r = omega arith
row_count_le (leaf k raw f) r = simp length-append (omega (arith, some_token k raw r.0, row_count_le f r.1))
row_count_le (subtree k c f) r = simp length-append (omega (arith, row_count_le c r.0, row_count_le f r.1))

abbrev pub tree : Entry → List Token → Tree
tree e ts = root (root_kind e) (run_entry e ts) ts

pub tree_right : (e : Entry) (ts : List Token) → Right (tree e ts)
tree_right e ts = right_root (root_kind e) (run_entry e ts) ts ((entry_reads e ts).reads ts refl) (entry_names e ts)

-- HOW MANY ROWS
pub few_rows : (e : Entry) (ts : List Token) → row_count (tree e ts) ≤ most_rows (length ts)
unfolding root branches
few_rows e ts =
    let a : row_count (tree e ts) ≤ length (leaves (tree e ts)) + branches (tree e ts) = row_count_le (tree e ts) (tree_right e ts) in
    let b : branches (place (run_entry e ts) ts ⊕ lead (after (run_entry e ts) ts)) ≡ branches (place (run_entry e ts) ts) + branches (lead (after (run_entry e ts) ts)) = branches_beside (place (run_entry e ts) ts) (lead (after (run_entry e ts) ts)) in
    omega (arith, ap length (lossless e ts), no_branches (after (run_entry e ts) ts), branches_place (run_entry e ts) ts, counted T.nodes e ts)

-- ---------------------------------------------------------------- the numbers in them

-- each node's kind is small
NodesCoded : Tree → Type 0
NodesCoded nil = Unit {0}
NodesCoded (leaf k ts f) = NodesCoded f
NodesCoded (subtree k c f) = (k < CODES) × NodesCoded c × NodesCoded f

nodes_beside : (f g : Tree) → NodesCoded f → NodesCoded g → NodesCoded (f ⊕ g)
unfolding NodesCoded ◌⊕◌
nodes_beside nil g h i = i
nodes_beside (leaf k ts f) g h i = nodes_beside f g h i
nodes_beside (subtree k c f) g h i = (h.0, h.1, nodes_beside f g h.2 i)

nodes_lead : (ts : List Token) → NodesCoded (lead ts)
unfolding NodesCoded lead
nodes_lead [] = tt
nodes_lead (t ∷ ts) = cond-all NodesCoded (trivia t) {x = leaf t.kind (t ∷ []) (lead ts)} {y = nil} (nodes_lead ts) tt

nodes_front : (ts : List Token) → NodesCoded (front ts)
unfolding NodesCoded front
nodes_front [] = tt
nodes_front (t ∷ ts) = tt

nodes_place : (o : Skeleton) (ts : List Token) → Coded o → NodesCoded (place o ts)
unfolding NodesCoded place Coded ◌⊕◌
nodes_place done ts c = tt
nodes_place (token t m o) ts c = nodes_beside (lead ts) _ (nodes_lead ts) (nodes_beside (front (drop_trivia ts)) _ (nodes_front (drop_trivia ts)) (nodes_place o _ c))
nodes_place (name raw m o) ts c = nodes_beside (lead ts) _ (nodes_lead ts) (nodes_place o _ c)
nodes_place (node k m m' a i o) ts c = nodes_beside (lead ts) _ (nodes_lead ts) (c.0, nodes_beside (place a _) _ (nodes_place a _ c.1) (nodes_place i _ c.2), nodes_place o _ c.3)
nodes_place (ignored m m' a i o) ts c = nodes_beside (place a ts) _ (nodes_place a ts c.0) (nodes_beside (place i _) _ (nodes_place i _ c.1) (nodes_place o _ c.2))
nodes_place (report r o) ts c = nodes_place o ts c.1
nodes_place (over m o) ts c = nodes_place o ts c

root_small : (e : Entry) → root_kind e < CODES
unfolding root_kind
root_small SourceFile = omega arith
root_small ReferenceNoamp = omega arith
root_small PropValues = omega arith
root_small Cells = omega arith

-- each token's kind is small
abbrev pub Kinded : List Token → Type 0
Kinded [] = Unit {0}
Kinded (t ∷ ts) = (t.kind < CODES) × Kinded ts

kinded_append : (ts us : List Token) → Kinded (ts ++ us) → Kinded ts × Kinded us
kinded_append [] us h = (tt, h)
kinded_append (t ∷ ts) us h = let g = kinded_append ts us h.1 in ((h.0, g.0), g.1)

seen_small : (t : Token) → t.kind < CODES → seen t < CODES
unfolding seen
seen_small t h = cond-all (λ (k : ℕ). k < CODES) (is_error t.kind) {x = K.Unrecognized} {y = t.kind} (omega arith) h

leaf_small : (k : ℕ) (raw : List Token) → KindOf k raw → Kinded raw → k < CODES
leaf_small k _ (one_token t e) h = subst (λ (x : ℕ). x < CODES) (sym e) (seen_small t h.0)
leaf_small k _ (a_name t ts e n) h = omega arith

pub count_le : (t : Tree) → count t ≤ row_count t
unfolding count row_count
count_le nil = omega arith
count_le (leaf k ts f) = omega (arith, count_le f)
count_le (subtree k c f) = omega (arith, count_le f)

tree_coded : (e : Entry) (ts : List Token) → NodesCoded (tree e ts)
unfolding NodesCoded root
tree_coded e ts = (root_small e, nodes_beside (place (run_entry e ts) ts) (lead (after (run_entry e ts) ts)) (nodes_place (run_entry e ts) ts (entry_coded e ts)) (nodes_lead (after (run_entry e ts) ts)), tt)

-- m: a bound on the number of raw tokens and on the number of rows
counts_within : (m : ℕ) (t : Tree) → length (leaves t) ≤ m → row_count t ≤ m → CountsWithin m t
unfolding leaves row_count
counts_within m nil l c = tt
counts_within m (leaf k raw f) l c =
    let h : length raw + length (leaves f) ≤ m = simp length-append at l in
    (omega arith, counts_within m f (omega arith) (omega arith))
counts_within m (subtree k i f) l c =
    let h : length (leaves i) + length (leaves f) ≤ m = simp length-append at l in
    (omega (arith, count_le i), counts_within m i (omega arith) (omega arith), counts_within m f (omega arith) (omega arith))

-- HOW MANY CHILDREN
pub few_children : (e : Entry) (ts : List Token) → CountsWithin (most_rows (length ts)) (tree e ts)
few_children e ts = counts_within (most_rows (length ts)) (tree e ts) (rw lossless (omega arith)) (few_rows e ts)

-- b: a bound on the width, on the number of raw tokens and on the number of rows
module _ (b : ℕ) (most : CODES ≤ b) where
  tree_below : (t : Tree) (p i : ℕ) → Right t → NodesCoded t → Kinded (leaves t) → width t < b → length (leaves t) < b → p < b → i + row_count t ≤ b → Below b (rows_under p i t)
  unfolding rows_under Right NodesCoded leaves width row_count
  tree_below nil p i r n k w l u c = tt
  tree_below (leaf x raw f) p i r n k w l u c =
      let g : Kinded raw × Kinded (leaves f) = kinded_append raw (leaves f) k in
      let h : length raw + length (leaves f) < b = simp length-append at l in
      let j : x < CODES = leaf_small x raw r.0 g.0 in
      (omega arith, (omega arith, (omega arith, (omega arith, (u, tree_below f p (suc i) r.1 n g.1 (omega arith) (omega arith) u (omega arith))))))
  tree_below (subtree x d f) p i r n k w l u c =
      let g : Kinded (leaves d) × Kinded (leaves f) = kinded_append (leaves d) (leaves f) k in
      let h : length (leaves d) + length (leaves f) < b = simp length-append at l in
      let m = suc i + row_count d in
      let j : x < CODES = n.0 in
      let y : Below b (rows_under i (suc i) d) = tree_below d i (suc i) r.0 n.1 g.0 (omega arith) (omega arith) (omega arith) (omega arith) in
      let z : Below b (rows_under p m f) = tree_below f p m r.1 n.2 g.1 (omega arith) (omega arith) u (omega arith) in
      (omega arith, (omega arith, (omega arith, (omega (arith, count_le d), (u, below_append b (rows_under i (suc i) d) (rows_under p m f) y z)))))

  -- EVERY NUMBER IN THE TREE ROWS
  pub rows_below : (e : Entry) (ts : List Token) → Kinded ts → byte_count ts < b → length ts < b → most_rows (length ts) ≤ b → Below b (rows (tree e ts))
  rows_below e ts k w l c =
      tree_below (tree e ts) 0 0 (tree_right e ts) (tree_coded e ts)
      (subst Kinded (sym (lossless e ts)) k)
      (rw (width_leaves, lossless) w)
      (rw lossless l)
      (omega arith)
      (omega (arith, few_rows e ts))
