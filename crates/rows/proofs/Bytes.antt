-- The bytes of rows: where a row starts, and that leaves follow one another without a gap.
use Prim.Native.Nat.{ℕ, suc, ◌+◌, ◌-◌, ◌≤◌, ◌<◌}
use native.Mathlib.Omega.{arith}
use mathlib.Core.Path.{◌≡◌, refl, ap, sym, ◌∙◌}
use mathlib.Core.List.{List, [], ◌∷◌, ◌++◌}
use lib.ListN.{length, take, drop, get_or, length-drop, take-append-drop}
use lib.Seq.{drop-cons, drop-drop, take-suc, take-add, take-append_seam, drop-append_seam}
use borrow.Author.Tests.{eq-eqb}
use Rattle.basics.proofs.Lists.{first_same, rest_same}
use Rattle.definitions.specs.Layout.{LEAF}
use Rattle.rows.specs.ResultRows.{Row, class, width, over_leaves, raw_bytes}
use Rattle.rows.specs.RowTree.{row, first_byte, end_byte, IsLeaf}
use Rattle.rows.specs.OnePass.{own}
use Rattle.rows.proofs.Written.{over_append}

-- a row that stands at the front of what is left after so many
pub record Stands (l : List Row) (i : ℕ) (r : Row) (m : List Row) : Type 0 where
  pub there : i < length l
  pub is : row l i ≡ r
  pub after : drop (suc i) l ≡ m

pub stands : (l : List Row) (i : ℕ) (r : Row) (m : List Row) → drop i l ≡ r ∷ m → Stands l i r m
stands l i r m e =
    let n = length-drop i l in
    let k : length (drop i l) ≡ suc (length m) = ap length e in
    let h : i < length l = omega (arith, n, k) in
    let f : get_or l i [] ∷ drop (suc i) l ≡ r ∷ m = sym (drop-cons l i [] h) ∙ e in
    record { there = h; is = first_same f; after = rest_same f }

-- the next row starts where this one does, or ends if it is a leaf
pub first_next : (l : List Row) (i : ℕ) → i < length l → first_byte l (suc i) ≡ first_byte l i + own (row l i)
unfolding over_leaves
first_next l i h =
    let e : take (suc i) l ≡ take i l ++ (row l i ∷ []) = take-suc l i [] h in
    let f : raw_bytes (take i l ++ (row l i ∷ [])) ≡ raw_bytes (take i l) + raw_bytes (row l i ∷ []) = over_append width (take i l) (row l i ∷ []) in
    let g : raw_bytes (take (suc i) l) ≡ raw_bytes (take i l ++ (row l i ∷ [])) = ap raw_bytes e in
    omega (arith, f, g)

-- past some rows
pub first_jump : (l : List Row) (i : ℕ) (x y : List Row) → drop i l ≡ x ++ y → first_byte l (i + length x) ≡ first_byte l i + raw_bytes x
unfolding over_leaves
first_jump l i x y e =
    ap raw_bytes (take-add i (length x) l ∙ ap (λ (m : List Row). take i l ++ take (length x) m) e ∙ ap (take i l ++◌) (take-append_seam x y))
    ∙ over_append width (take i l) x

pub drop_jump : (l : List Row) (i : ℕ) (x y : List Row) → drop i l ≡ x ++ y → drop (i + length x) l ≡ y
drop_jump l i x y e = sym (drop-drop (length x) i l) ∙ ap (drop (length x)) e ∙ drop-append_seam x y

-- no row starts before an earlier one, nor after all leaves
pub first_later : (l : List Row) (i j : ℕ) → i ≤ j → first_byte l i ≤ first_byte l j
unfolding over_leaves
first_later l i j h =
    let e : take (i + (j - i)) l ≡ take i l ++ take (j - i) (drop i l) = take-add i (j - i) l in
    let n : i + (j - i) ≡ j = omega arith in
    let f : raw_bytes (take j l) ≡ raw_bytes (take i l) + raw_bytes (take (j - i) (drop i l)) =
    ap (λ (k : ℕ). raw_bytes (take k l)) (sym n) ∙ ap raw_bytes e ∙ over_append width (take i l) (take (j - i) (drop i l)) in
    omega (arith, f)

pub first_within : (l : List Row) (i : ℕ) → first_byte l i ≤ raw_bytes l
unfolding over_leaves
first_within l i =
    let f : raw_bytes l ≡ raw_bytes (take i l) + raw_bytes (drop i l) = ap raw_bytes (sym (take-append-drop i l)) ∙ over_append width (take i l) (drop i l) in
    omega (arith, f)

-- a leaf's bytes are its own
pub own_leaf : (r : Row) → class r ≡ LEAF → own r ≡ width r
own_leaf r e = rw (eq-eqb (class r) LEAF e) refl

-- A LEAF ENDS before any later row starts
pub leaf_ends : (l : List Row) (i j : ℕ) → IsLeaf l i → i < j → end_byte l i ≤ first_byte l j
leaf_ends l i j h k =
    let a = first_next l i h.0 in
    let b = own_leaf (row l i) h.1 in
    let c = first_later l (suc i) j k in
    omega (arith, a, b, c)

pub leaf_within : (l : List Row) (i : ℕ) → IsLeaf l i → end_byte l i ≤ raw_bytes l
leaf_within l i h =
    let a = first_next l i h.0 in
    let b = own_leaf (row l i) h.1 in
    let c = first_within l (suc i) in
    omega (arith, a, b, c)
