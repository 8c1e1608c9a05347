-- Under the caret, of the rows of a file's tree: inside the file, at its end, in an empty file and past the end.
use Prim.Native.Nat.{ℕ, zero, suc, ◌+◌, ◌-◌, ◌≤◌, ◌<◌}
use native.Mathlib.Omega.{arith}
use mathlib.Core.Path.{◌≡◌, refl, sym, ◌∙◌, subst}
use mathlib.Core.Bool.{Bool, true, false}
use mathlib.Core.List.{List, [], ◌∷◌, ◌++◌}
use lib.Dec.{ltb}
use borrow.Author.Tests.{ltb-true, ltb-false, lt-ltb, le-ltb, eq-eqb, ne_eqb}
use Rattle.definitions.specs.Layout.{LEAF}
use Rattle.definitions.specs.Place.{Tree, nil, leaf, subtree, width, row_count}
use Rattle.definitions.specs.Caret.{caret}
use Rattle.rows.specs.ResultRows.{Row, class, raw_bytes}
use Rattle.rows.specs.ResultRows as S
use Rattle.rows.specs.RowTree.{row, first_byte, HasByte, IsLeaf}
use Rattle.rows.specs.OnePass.{holding, found}
use Rattle.rows.proofs.Written.{rows_of}
use Rattle.rows.proofs.Spans.{one_chain}
use Rattle.rows.proofs.Bytes.{leaf_ends, leaf_within}
use Rattle.rows.proofs.Last.{LeavesWide}
use Rattle.queries.specs.UnderCaret.{ToLeaf, UnderCaret}
use Rattle.rows.proofs.Placed.{under_root, first_one}
use Rattle.queries.proofs.Leads.{Leads, leads}

-- ---------------------------------------------------------------- leaves

-- two leaves with one byte are one
one_leaf : (l : List Row) (i j byte : ℕ) → IsLeaf l i → IsLeaf l j → HasByte l i byte → HasByte l j byte → i ≡ j
one_leaf l i j byte x y a b = go (ltb i j) (ltb j i) refl refl
  where
    go : (s t : Bool) → ltb i j ≡ s → ltb j i ≡ t → i ≡ j
    go true t e f = let z = leaf_ends l i j x (ltb-true i j e) in absurd (omega (arith, z, a.1, b.0))
    go false true e f = let z = leaf_ends l j i y (ltb-true j i f) in absurd (omega (arith, z, b.1, a.0))
    go false false e f = omega (arith, ltb-false i j e, ltb-false j i f)

-- each leaf among rows has a byte
abbrev WideRows : List Row → Type 0
WideRows [] = Unit {0}
WideRows (r ∷ l) = (class r ≡ LEAF → 0 < S.width r) × WideRows l

wide_append : (l m : List Row) → WideRows l → WideRows m → WideRows (l ++ m)
wide_append [] m h g = g
wide_append (r ∷ l) m h g = (h.0, wide_append l m h.1 g)

wide_rows : (f : Tree) (p i : ℕ) → LeavesWide f → WideRows (rows_of p i f)
unfolding LeavesWide rows_of
wide_rows nil p i h = tt
wide_rows (leaf k ts f) p i h = (λ e. h.0, wide_rows f p (suc i) h.1)
wide_rows (subtree k c f) p i h =
    (λ e. absurd (omega (arith, e)), wide_append (rows_of i (suc i) c) (rows_of p (suc i + row_count c) f) (wide_rows c i (suc i) h.0) (wide_rows f p (suc i + row_count c) h.1))

wide_at : (l : List Row) (i : ℕ) → WideRows l → IsLeaf l i → 0 < S.width (row l i)
wide_at [] i h x = absurd (let z = x.0 in omega (arith, z))
wide_at (r ∷ l) zero h x = h.0 x.1
wide_at (r ∷ l) (suc i) h x = wide_at l i h.1 (let z = x.0 in omega (arith, z), x.1)

-- ---------------------------------------------------------------- a file's tree

module _ (k : ℕ) (c : Tree) (size : ℕ) (e : raw_bytes (rows_of 0 0 (subtree k c nil)) ≡ size) (wt : width (subtree k c nil) ≡ size) (wide : LeavesWide (subtree k c nil)) where
  abbrev all : List Row
  all = rows_of 0 0 (subtree k c nil)

  -- the root has every byte
  root_holds : (byte : ℕ) → byte < size → holding 0 byte all ≡ 0 ∷ holding 1 byte (rows_of 0 1 c ++ [])
  unfolding rows_of holding width
  root_holds byte h = rw (lt-ltb byte (width c) (omega (arith, h, wt))) refl

  to_byte : (byte : ℕ) → byte < size → Leads all 0 byte (holding 1 byte (rows_of 0 1 c ++ []))
  unfolding width
  to_byte byte h =
      let z : first_byte all 1 + byte ≡ byte = (let f = first_one k c in omega (arith, f)) in
      subst (λ (n : ℕ). Leads all 0 n (holding 1 byte (rows_of 0 1 c ++ []))) z (leads all c [] 1 0 0 byte (under_root k c) (omega (arith, h, wt)))

  module _ (offset : ℕ) (rows : List ℕ) (is : rows ≡ found (caret offset) size all) where
    -- the byte whose leaf it is: at the end of the file the last one
    to_leaf : (byte : ℕ) → byte < size → rows ≡ holding 0 byte all → (offset < size → byte ≡ offset) → (offset ≡ size → suc byte ≡ size) → ToLeaf all size offset rows
    to_leaf byte h r inside end =
        let p = to_byte byte h in
        let j = p.end_leaf in
        record {
          below = holding 1 byte (rows_of 0 1 c ++ []);
          from_root = r ∙ root_holds byte h;
          leaf = j;
          is_leaf = p.is_leaf;
          chain = p.chain;
          only_one = λ other x. one_chain all 0 j (holding 1 byte (rows_of 0 1 c ++ [])) other p.chain x;
          owns = λ x. subst (HasByte all j) (inside (omega (arith, x))) p.has;
          alone = λ x i y z. one_leaf all i j offset y p.is_leaf z (subst (HasByte all j) (inside x) p.has);
          last = λ x i y. not_after (end x) i y;
          ends = λ x. (let a = leaf_within all j p.is_leaf in omega (arith, a, p.has.1, e, end x));
        }
      where
        p' : Leads all 0 byte (holding 1 byte (rows_of 0 1 c ++ []))
        p' = to_byte byte h

        not_after : suc byte ≡ size → (i : ℕ) → IsLeaf all i → i ≤ p'.end_leaf
        not_after end i y = go (ltb p'.end_leaf i) refl
          where
            go : (t : Bool) → ltb p'.end_leaf i ≡ t → i ≤ p'.end_leaf
            go true f =
                let a = leaf_ends all p'.end_leaf i p'.is_leaf (ltb-true _ _ f) in
                let b = leaf_within all i y in
                let w = wide_at all i (wide_rows (subtree k c nil) 0 0 wide) y in
                absurd (omega (arith, a, b, w, p'.has.1, e, end))
            go false f = ltb-false _ _ f

    inside_file : offset < size → ToLeaf all size offset rows
    unfolding found
    inside_file h = to_leaf offset h (is ∙ rw (lt-ltb offset size h) refl) (λ x. refl) (λ x. absurd (omega (arith, h, x)))

    at_file_end : 0 < size → offset ≡ size → ToLeaf all size offset rows
    unfolding found
    at_file_end p h =
        to_leaf (size - 1) (omega (arith, p)) (is ∙ rw (le-ltb offset size (omega (arith, h)), eq-eqb offset size h, ne_eqb size 0 (λ x. omega (arith, p, x))) refl)
        (λ x. absurd (omega (arith, h, x))) (λ x. omega (arith, p))

    -- WHAT IS UNDER THE CARET
    pub under_caret : UnderCaret all size offset rows
    unfolding found
    under_caret =
        record {
          there = λ p h. by (ltb offset size) refl p h;
          empty = λ p h. is ∙ rw (le-ltb offset size (omega (arith, p)), eq-eqb offset size (h ∙ sym p), eq-eqb size 0 p) refl;
          past = λ h. is ∙ rw (le-ltb offset size (omega (arith, h)), ne_eqb offset size (λ x. omega (arith, h, x))) refl;
        }
      where
        by : (t : Bool) → ltb offset size ≡ t → 0 < size → offset ≤ size → ToLeaf all size offset rows
        by true f p h = inside_file (ltb-true offset size f)
        by false f p h = at_file_end p (let z = ltb-false offset size f in omega (arith, h, z))
