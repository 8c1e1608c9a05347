-- Subtrees in rows: what so many of them span, that one inside another ends no later, and that a row is the child of
-- one row at most.
use Prim.Native.Nat.{ℕ, zero, suc, ◌+◌, ◌-◌, ◌≤◌, ◌<◌}
use native.Mathlib.Omega.{arith}
use mathlib.Core.Path.{◌≡◌, refl, ap, sym, ◌∙◌, subst}
use mathlib.Core.Bool.{Bool, true, false}
use mathlib.Core.List.{List, [], ◌∷◌, ◌++◌, append_assoc}
use lib.Dec.{ltb}
use lib.ListN.{length, drop, length-drop}
use lib.Seq.{drop-cons, drop-drop}
use borrow.Author.Tests.{ltb-true, ltb-false}
use Rattle.definitions.specs.Place.{Tree, nil, leaf, subtree, count, row_count}
use Rattle.rows.specs.ResultRows.{Row}
use Rattle.rows.specs.RowTree.{row, children, span, subtree_end, Child, Chain}
use Rattle.rows.proofs.Written.{rows_of}

span_at : {m n : ℕ} (l : List Row) → m ≡ n → span m l ≡ span n l
span_at l e = rw e

-- none spans no row
pub span_none : (l : List Row) → span 0 l ≡ 0
unfolding span
span_none [] = refl
span_none (r ∷ l) = refl

-- the rows of a tree are the subtrees of its parts
pub span_rows : (f : Tree) (p i : ℕ) (n : ℕ) (l : List Row) → span (count f + n) (rows_of p i f ++ l) ≡ row_count f + span n l
unfolding rows_of span count row_count
span_rows nil p i n l = span_at l (omega arith) ∙ (let z : span n l ≡ 0 + span n l = omega arith in z)
span_rows (leaf k ts f) p i n l =
    let e : suc (count f) + n ≡ suc (count f + n) = omega arith in
    let g : span (0 + (count f + n)) (rows_of p (suc i) f ++ l) ≡ row_count f + span n l = span_at (rows_of p (suc i) f ++ l) (omega arith) ∙ span_rows f p (suc i) n l in
    span_at (rows_of p i (leaf k ts f) ++ l) e ∙ ap suc g ∙ (let z : suc (row_count f + span n l) ≡ suc (row_count f) + span n l = omega arith in z)
span_rows (subtree k c f) p i n l =
    let e : suc (count f) + n ≡ suc (count f + n) = omega arith in
    let g : span (count c + (count f + n)) ((rows_of i (suc i) c ++ rows_of p (suc i + row_count c) f) ++ l) ≡ row_count c + (row_count f + span n l) =
    ap (span (count c + (count f + n))) (append_assoc (rows_of i (suc i) c) (rows_of p (suc i + row_count c) f) l)
    ∙ span_rows c i (suc i) (count f + n) (rows_of p (suc i + row_count c) f ++ l)
    ∙ ap (row_count c +◌) (span_rows f p (suc i + row_count c) n l) in
    span_at (rows_of p i (subtree k c f) ++ l) e ∙ ap suc g ∙ (let z : suc (row_count c + (row_count f + span n l)) ≡ suc (row_count c + row_count f) + span n l = omega arith in z)

-- more subtrees span no fewer rows, and no more than there are
pub span_more : (m n : ℕ) (l : List Row) → span m l ≤ span (m + n) l
unfolding span
span_more m n [] = omega arith
span_more zero n (r ∷ l) = omega arith
span_more (suc m) n (r ∷ l) =
    let e : suc m + n ≡ suc (m + n) = omega arith in
    let h = span_more (children r + m) n l in
    let g : span (children r + m + n) l ≡ span (children r + (m + n)) l = span_at l (omega arith) in
    rw e (omega (arith, h, g))

pub span_within : (n : ℕ) (l : List Row) → span n l ≤ length l
unfolding span
span_within n [] = omega arith
span_within zero (r ∷ l) = omega arith
span_within (suc n) (r ∷ l) = let h = span_within (children r + n) l in omega arith

-- one subtree more spans a row more, if there is one
pub span_next : (n : ℕ) (l : List Row) → span n l < length l → span n l < span (suc n) l
unfolding span
span_next n [] h = absurd (omega arith)
span_next zero (r ∷ l) h = omega arith
span_next (suc n) (r ∷ l) h =
    let p = span_next (children r + n) l (omega arith) in
    let g : span (suc (children r + n)) l ≡ span (children r + suc n) l = span_at l (omega arith) in
    omega (arith, p, g)

-- a subtree that starts among some ends among them
pub span_inside : (n i : ℕ) (l : List Row) → i < span n l → i + span 1 (drop i l) ≤ span n l
unfolding span
span_inside n i [] h = absurd (omega arith)
span_inside zero i (r ∷ l) h = absurd (omega arith)
span_inside (suc n) zero (r ∷ l) h =
    let p = span_more (children r + 0) n l in
    let g : span (children r + 0 + n) l ≡ span (children r + n) l = span_at l (omega arith) in
    omega (arith, p, g)
span_inside (suc n) (suc i) (r ∷ l) h = let p = span_inside (children r + n) i l (omega arith) in omega (arith, p)

-- the subtree of a row there is: the row, and its children's subtrees
pub span_row : (l : List Row) (i : ℕ) → i < length l → span 1 (drop i l) ≡ suc (span (children (row l i)) (drop (suc i) l))
unfolding span
span_row l i h = ap (span 1) (drop-cons l i [] h) ∙ ap suc (span_at (drop (suc i) l) (omega arith))

-- ---------------------------------------------------------------- children

pub child_after : (l : List Row) (p c : ℕ) → Child l p c → p < c
child_after l p c h = omega (arith, h.is)

-- a child's parent is no later than another row of which it is a child
not_before : (l : List Row) (p q c : ℕ) → Child l p c → Child l q c → p < q → ⊥
not_before l p q c x y h =
    let m = x.before in
    let n = y.before in
    let L = drop (suc q) l in
    let j : ℕ = q - suc p in
    let a : j < span m (drop (suc p) l) = omega (arith, x.is, child_after l q c y, h) in
    let b : j + span 1 (drop j (drop (suc p) l)) ≤ span m (drop (suc p) l) = span_inside m j (drop (suc p) l) a in
    let s : suc p + j ≡ q = omega (arith, h) in
    let d : drop j (drop (suc p) l) ≡ drop q l = drop-drop j (suc p) l ∙ ap (λ (k : ℕ). drop k l) s in
    let e : span 1 (drop j (drop (suc p) l)) ≡ suc (span (children (row l q)) L) = ap (span 1) d ∙ span_row l q (omega (arith, child_after l q c y, y.exists)) in
    let f : span n L < span (suc n) L = span_next n L (let z = length-drop (suc q) l in omega (arith, z, y.is, y.exists)) in
    let more : ℕ = children (row l q) - suc n in
    let g : span (suc n) L ≤ span (suc n + more) L = span_more (suc n) more L in
    let k : span (suc n + more) L ≡ span (children (row l q)) L = span_at L (omega (arith, y.among)) in
    omega (arith, x.is, y.is, b, e, f, g, k, h)

-- ONE PARENT
pub one_parent : (l : List Row) (p q c : ℕ) → Child l p c → Child l q c → p ≡ q
one_parent l p q c x y = go (ltb p q) (ltb q p) refl refl
  where
    go : (a b : Bool) → ltb p q ≡ a → ltb q p ≡ b → p ≡ q
    go true b e f = absurd (not_before l p q c x y (ltb-true p q e))
    go false true e f = absurd (not_before l q p c y x (ltb-true q p f))
    go false false e f = omega (arith, ltb-false p q e, ltb-false q p f)

-- ---------------------------------------------------------------- chains

-- so many subtrees, and then more
pub span_add : (m n : ℕ) (l : List Row) → span (m + n) l ≡ span m l + span n (drop (span m l) l)
unfolding span
span_add m n [] = let z : 0 ≡ 0 + span n (drop (span m []) []) = (let y : span n (drop (span m []) []) ≡ 0 = refl in omega (arith, y)) in z
span_add zero n (r ∷ l) = let z : 0 + n ≡ n = omega arith in span_at (r ∷ l) z ∙ (let y : span n (r ∷ l) ≡ 0 + span n (r ∷ l) = omega arith in y)
span_add (suc m) n (r ∷ l) =
    let e : suc m + n ≡ suc (m + n) = omega arith in
    let f : children r + (m + n) ≡ children r + m + n = omega arith in
    span_at (r ∷ l) e ∙ ap suc (span_at l f ∙ span_add (children r + m) n l)
    ∙ (let z : suc (span (children r + m) l + span n (drop (span (children r + m) l) l)) ≡ suc (span (children r + m) l) + span n (drop (span (children r + m) l) l) = omega arith in z)

module _ (l : List Row) (p c : ℕ) (h : Child l p c) where
  abbrev under : List Row
  under = drop (suc p) l

  parent_there : p < length l
  parent_there = omega (arith, h.exists, child_after l p c h)

  -- a child's subtree ends where one more of its parent's subtrees does
  pub child_end : subtree_end l c ≡ suc p + span (suc h.before) under
  child_end =
      let n = h.before in
      let d : drop c l ≡ drop (span n under) under = ap (λ (k : ℕ). drop k l) h.is ∙ sym (drop-drop (span n under) (suc p) l) in
      let e : span (n + 1) under ≡ span n under + span 1 (drop (span n under) under) = span_add n 1 under in
      let f : span (n + 1) under ≡ span (suc n) under = span_at under (omega arith) in
      let g : span 1 (drop c l) ≡ span 1 (drop (span n under) under) = ap (span 1) d in
      omega (arith, e, f, g, h.is)

  parent_end : subtree_end l p ≡ suc p + span (children (row l p)) under
  parent_end = let e = span_row l p parent_there in omega (arith, e)

  -- A CHILD'S SUBTREE is inside its parent's
  pub child_inside : subtree_end l c ≤ subtree_end l p
  child_inside =
      let n = h.before in
      let more : ℕ = children (row l p) - suc n in
      let e = span_more (suc n) more under in
      let f : span (suc n + more) under ≡ span (children (row l p)) under = span_at under (omega (arith, h.among)) in
      omega (arith, e, f, child_end, parent_end)

-- an earlier child's subtree ends before a later child
pub children_apart : (l : List Row) (p c d : ℕ) (x : Child l p c) (y : Child l p d) → x.before < y.before → subtree_end l c ≤ d
children_apart l p c d x y h =
    let under = drop (suc p) l in
    let more : ℕ = y.before - suc x.before in
    let e = span_more (suc x.before) more under in
    let f : span (suc x.before + more) under ≡ span y.before under = span_at under (omega (arith, h)) in
    let g = child_end l p c x in
    omega (arith, e, f, g, y.is)

-- a row there is lies in its own subtree
pub row_inside : (l : List Row) (i : ℕ) → i < length l → i < subtree_end l i
row_inside l i h = let e = span_row l i h in omega (arith, e)

-- what a chain leads to lies in the subtree that it starts from
pub chain_inside : (l : List Row) (p i : ℕ) (rest : List ℕ) → p < length l → Chain l p rest i → (p ≤ i) × (i < subtree_end l p)
unfolding Chain
chain_inside l p i [] h e = (omega (arith, e), subst (λ (k : ℕ). k < subtree_end l p) e (row_inside l p h))
chain_inside l p i (c ∷ rest) h x =
    let a = chain_inside l c i rest x.0.exists x.1 in
    let b = child_inside l p c x.0 in
    (omega (arith, a.0, child_after l p c x.0), omega (arith, a.1, b))

-- two children of one row that lead to one row are the same
same_child : (l : List Row) (p c d i : ℕ) (x : Child l p c) (y : Child l p d) → (c ≤ i) × (i < subtree_end l c) → (d ≤ i) × (i < subtree_end l d) → c ≡ d
same_child l p c d i x y a b = go (ltb x.before y.before) (ltb y.before x.before) refl refl
  where
    go : (s t : Bool) → ltb x.before y.before ≡ s → ltb y.before x.before ≡ t → c ≡ d
    go true t e f = let z = children_apart l p c d x y (ltb-true _ _ e) in absurd (omega (arith, z, a.1, b.0))
    go false true e f = let z = children_apart l p d c y x (ltb-true _ _ f) in absurd (omega (arith, z, b.1, a.0))
    go false false e f =
        let k : x.before ≡ y.before = omega (arith, ltb-false x.before y.before e, ltb-false y.before x.before f) in
        x.is ∙ ap (λ (n : ℕ). suc p + span n (drop (suc p) l)) k ∙ sym y.is

-- ONE CHAIN leads from a row to another
pub one_chain : (l : List Row) (p i : ℕ) (rest other : List ℕ) → Chain l p rest i → Chain l p other i → other ≡ rest
unfolding Chain
one_chain l p i [] [] x y = refl
one_chain l p i [] (d ∷ other) x y = let a = chain_inside l d i other y.0.exists y.1 in absurd (omega (arith, x, a.0, child_after l p d y.0))
one_chain l p i (c ∷ rest) [] x y = let a = chain_inside l c i rest x.0.exists x.1 in absurd (omega (arith, y, a.0, child_after l p c x.0))
one_chain l p i (c ∷ rest) (d ∷ other) x y =
    let e : d ≡ c = same_child l p d c i y.0 x.0 (chain_inside l d i other y.0.exists y.1) (chain_inside l c i rest x.0.exists x.1) in
    (λ j. e j ∷ one_chain l c i rest other x.1 (subst (λ (k : ℕ). Chain l k other i) e y.1) j)
