-- A part of a tree among all rows: where its rows stand, and as children of which row. Its laws step over a leaf,
-- into a node and past a node, so an induction over the tree needs no other fact about row numbers.
use Prim.Native.Nat.{ℕ, suc, ◌+◌, ◌≤◌}
use native.Mathlib.Omega.{arith}
use mathlib.Core.Path.{◌≡◌, refl, ap, sym, ◌∙◌}
use mathlib.Core.List.{List, [], ◌∷◌, ◌++◌, append_assoc}
use lib.ListN.{length, drop}
use lib.Seq.{drop-drop}
use Rattle.definitions.specs.Layout.{NODE, LEAF}
use Rattle.definitions.specs.Token.{byte_count}
use Rattle.definitions.specs.Place.{Tree, nil, leaf, subtree, width, count, row_count}
use Rattle.definitions.specs.Parent.{tree_row}
use Rattle.laws.proofs.Tree.{width_leaves}
use Rattle.rows.specs.ResultRows.{Row, class, raw_bytes, over_leaves}
use Rattle.rows.specs.ResultRows as S
use Rattle.rows.specs.RowTree.{row, children, span, Child, first_byte, end_byte, IsLeaf}
use Rattle.rows.specs.OnePass.{own}
use Rattle.rows.proofs.Written.{rows_of, rows_counted, bytes_counted}
use Rattle.rows.proofs.Spans.{span_none, span_rows, span_add}
use Rattle.rows.proofs.Bytes.{Stands, stands, first_next, first_jump, drop_jump}

-- among all rows: parts of a tree that start at row s, as children of row p of which so many stand before them
pub record Placed (all : List Row) (f : Tree) (l : List Row) (s p before : ℕ) : Type 0 where
  pub here : drop s all ≡ rows_of p s f ++ l
  pub child : s ≡ suc p + span before (drop (suc p) all)
  pub among : before + count f ≤ children (row all p)

-- the first part, a leaf, and the parts after it
module _ (all : List Row) (k : ℕ) (ts : List _) (f : Tree) (l : List Row) (s p before : ℕ) (w : Placed all (leaf k ts f) l s p before) where
  abbrev pub leaf_row : Row
  leaf_row = tree_row LEAF k (byte_count ts) (length ts) p []

  pub leaf_stands : Stands all s leaf_row (rows_of p (suc s) f ++ l)
  unfolding rows_of
  leaf_stands = stands all s leaf_row (rows_of p (suc s) f ++ l) w.here

  front : drop s all ≡ leaf_row ∷ (rows_of p (suc s) f ++ l)
  unfolding rows_of
  front = w.here

  pub leaf_child : Child all p s
  unfolding count
  leaf_child = record { exists = leaf_stands.there; before = before; among = omega (arith, w.among); is = w.child }

  pub leaf_before : leaf_child.before ≡ before
  unfolding leaf_child
  leaf_before = refl

  pub leaf_is : IsLeaf all s
  leaf_is = (leaf_stands.there, ap class leaf_stands.is)

  pub leaf_width : end_byte all s ≡ first_byte all s + byte_count ts
  leaf_width = ap (λ (r : Row). first_byte all s + S.width r) leaf_stands.is

  pub after_leaf : Placed all f l (suc s) p (suc before)
  unfolding count span
  after_leaf =
      let under = drop (suc p) all in
      let d : drop (span before under) under ≡ leaf_row ∷ (rows_of p (suc s) f ++ l) = drop-drop (span before under) (suc p) all ∙ ap (λ (n : ℕ). drop n all) (sym w.child) ∙ front in
      let e : span (before + 1) under ≡ span before under + span 1 (drop (span before under) under) = span_add before 1 under in
      let g : span 1 (drop (span before under) under) ≡ suc (span (0 + 0) (rows_of p (suc s) f ++ l)) = ap (span 1) d in
      let z : span (0 + 0) (rows_of p (suc s) f ++ l) ≡ 0 = span_none (rows_of p (suc s) f ++ l) in
      let n : span (before + 1) under ≡ span (suc before) under = (let x : before + 1 ≡ suc before = omega arith in ap (λ (m : ℕ). span m under) x) in
      record { here = leaf_stands.after; child = omega (arith, w.child, e, g, z, n); among = omega (arith, w.among) }

  pub leaf_next : first_byte all (suc s) ≡ first_byte all s + byte_count ts
  leaf_next = first_next all s leaf_stands.there ∙ ap (λ (r : Row). first_byte all s + own r) leaf_stands.is

-- the first part, a node, what is under it, and the parts after it
module _ (all : List Row) (k : ℕ) (c f : Tree) (l : List Row) (s p before : ℕ) (w : Placed all (subtree k c f) l s p before) where
  abbrev pub node_row : Row
  node_row = tree_row NODE k (width c) (count c) p []

  node_front : drop s all ≡ node_row ∷ (rows_of s (suc s) c ++ (rows_of p (suc s + row_count c) f ++ l))
  unfolding rows_of
  node_front = w.here ∙ ap (node_row ∷◌) (append_assoc (rows_of s (suc s) c) (rows_of p (suc s + row_count c) f) l)

  pub node_stands : Stands all s node_row (rows_of s (suc s) c ++ (rows_of p (suc s + row_count c) f ++ l))
  node_stands = stands all s node_row (rows_of s (suc s) c ++ (rows_of p (suc s + row_count c) f ++ l)) node_front

  pub node_child : Child all p s
  unfolding count
  node_child = record { exists = node_stands.there; before = before; among = omega (arith, w.among); is = w.child }

  pub node_before : node_child.before ≡ before
  unfolding node_child
  node_before = refl

  pub node_width : end_byte all s ≡ first_byte all s + width c
  node_width = ap (λ (r : Row). first_byte all s + S.width r) node_stands.is

  pub under_node : Placed all c (rows_of p (suc s + row_count c) f ++ l) (suc s) s 0
  under_node =
      let e : children (row all s) ≡ count c = ap children node_stands.is in
      let z = span_none (drop (suc s) all) in
      record { here = node_stands.after; child = omega (arith, z); among = omega (arith, e) }

  pub same_start : first_byte all (suc s) ≡ first_byte all s
  same_start =
      let e : first_byte all (suc s) ≡ first_byte all s + 0 = first_next all s node_stands.there ∙ ap (λ (r : Row). first_byte all s + own r) node_stands.is in
      omega (arith, e)

  pub after_node : Placed all f l (suc s + row_count c) p (suc before)
  unfolding count span
  after_node =
      let under = drop (suc p) all in
      let d : drop (span before under) under ≡ node_row ∷ (rows_of s (suc s) c ++ (rows_of p (suc s + row_count c) f ++ l)) = drop-drop (span before under) (suc p) all ∙ ap (λ (n : ℕ). drop n all) (sym w.child) ∙ node_front in
      let e : span (before + 1) under ≡ span before under + span 1 (drop (span before under) under) = span_add before 1 under in
      let g : span 1 (drop (span before under) under) ≡ suc (span (count c + 0) (rows_of s (suc s) c ++ (rows_of p (suc s + row_count c) f ++ l))) = ap (span 1) d in
      let r : span (count c + 0) (rows_of s (suc s) c ++ (rows_of p (suc s + row_count c) f ++ l)) ≡ row_count c + span 0 (rows_of p (suc s + row_count c) f ++ l) = span_rows c s (suc s) 0 (rows_of p (suc s + row_count c) f ++ l) in
      let z : span 0 (rows_of p (suc s + row_count c) f ++ l) ≡ 0 = span_none (rows_of p (suc s + row_count c) f ++ l) in
      let n : span (before + 1) under ≡ span (suc before) under = (let x : before + 1 ≡ suc before = omega arith in ap (λ (m : ℕ). span m under) x) in
      record {
        here = ap (λ (n : ℕ). drop (suc s + n) all) (sym (rows_counted c s (suc s))) ∙ drop_jump all (suc s) (rows_of s (suc s) c) (rows_of p (suc s + row_count c) f ++ l) node_stands.after;
        child = omega (arith, w.child, e, g, r, z, n);
        among = omega (arith, w.among);
      }

  pub node_next : first_byte all (suc s + row_count c) ≡ first_byte all s + width c
  node_next =
      let e : first_byte all (suc s + length (rows_of s (suc s) c)) ≡ first_byte all (suc s) + raw_bytes (rows_of s (suc s) c) = first_jump all (suc s) (rows_of s (suc s) c) (rows_of p (suc s + row_count c) f ++ l) node_stands.after in
      let b : raw_bytes (rows_of s (suc s) c) ≡ width c = bytes_counted c s (suc s) ∙ sym (width_leaves c) in
      let n : first_byte all (suc s + row_count c) ≡ first_byte all (suc s + length (rows_of s (suc s) c)) = ap (λ (m : ℕ). first_byte all (suc s + m)) (sym (rows_counted c s (suc s))) in
      omega (arith, e, b, n, same_start)

-- ---------------------------------------------------------------- under a root

module _ (k : ℕ) (c : Tree) where
  pub root_count : children (row (rows_of 0 0 (subtree k c nil)) 0) ≡ count c
  unfolding rows_of
  root_count = refl

  pub under_root : Placed (rows_of 0 0 (subtree k c nil)) c [] 1 0 0
  unfolding rows_of
  under_root =
      let z = span_none (drop 1 (rows_of 0 0 (subtree k c nil))) in
      record { here = refl; child = omega (arith, z); among = omega (arith, root_count) }

  pub first_one : first_byte (rows_of 0 0 (subtree k c nil)) 1 ≡ 0
  unfolding rows_of over_leaves
  first_one = refl
