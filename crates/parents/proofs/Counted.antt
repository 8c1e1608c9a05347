-- How many rows of a tree name a row: as many as it has children.
use Prim.Native.Nat.{ℕ, zero, suc, ◌+◌, ◌<◌}
use native.Mathlib.Omega.{arith}
use mathlib.Core.Path.{◌≡◌, refl, ap, sym}
use mathlib.Core.Bool.{Bool, true, false, cond}
use mathlib.Core.List.{List, [], ◌∷◌, ◌++◌, append-nil}
use lib.Dec.{eqb}
use lib.ListN.{length, drop}
use borrow.Author.Tests.{eq-eqb, ne_eqb}
use Rattle.definitions.specs.Place.{Tree, nil, leaf, subtree, count, row_count}
use Rattle.rows.specs.ResultRows.{Row}
use Rattle.rows.specs.RowTree.{row, children}
use Rattle.rows.proofs.Written.{rows_of, rows_counted}
use Rattle.parents.specs.Upwards.{naming}

naming_append : (p : ℕ) (l m : List Row) → naming p (l ++ m) ≡ naming p l + naming p m
unfolding naming
naming_append p [] m = let z : naming p m ≡ 0 + naming p m = omega arith in z
naming_append p (r ∷ l) m = let h = naming_append p l m in omega (arith, h)

-- the children of row q, looked for among rows of which the first has number i
unfoldable own_children : ℕ → ℕ → List Row → ℕ
own_children q i [] = 0
own_children q i (r ∷ l) = cond (eqb i q) (children r) 0 + own_children q (suc i) l

own_append : (q i : ℕ) (l m : List Row) → own_children q i (l ++ m) ≡ own_children q i l + own_children q (i + length l) m
unfolding own_children
own_append q i [] m = let z : i + 0 ≡ i = omega arith in rw z (let y : own_children q i m ≡ 0 + own_children q i m = omega arith in y)
own_append q i (r ∷ l) m =
    let h = own_append q (suc i) l m in
    let z : own_children q (suc i + length l) m ≡ own_children q (i + suc (length l)) m = (let y : suc i + length l ≡ i + suc (length l) = omega arith in ap (λ (n : ℕ). own_children q n m) y) in
    omega (arith, h, z)

one_more : (b : Bool) (n : ℕ) → cond b (suc n) 0 ≡ cond b 1 0 + cond b n 0
one_more true n = omega arith
one_more false n = omega arith

nothing : (b : Bool) → ◌≡◌ {A = ℕ} (cond b 0 0) 0
nothing true = refl
nothing false = refl

-- PARTS SIDE BY SIDE name the row that they are under, and are named by what is under them
names_counted : (f : Tree) (q p i : ℕ) → naming q (rows_of p i f) ≡ cond (eqb p q) (count f) 0 + own_children q i (rows_of p i f)
unfolding naming own_children rows_of count row_count
names_counted nil q p i = let z = nothing (eqb p q) in omega (arith, z)
names_counted (leaf k ts f) q p i =
    let h = names_counted f q p (suc i) in
    let m = one_more (eqb p q) (count f) in
    let z = nothing (eqb i q) in
    omega (arith, h, m, z)
names_counted (subtree k c f) q p i =
    let C : List Row = rows_of i (suc i) c in
    let F : List Row = rows_of p (suc i + row_count c) f in
    let hc = names_counted c q i (suc i) in
    let hf = names_counted f q p (suc i + row_count c) in
    let m = one_more (eqb p q) (count f) in
    let n = naming_append q C F in
    let o = own_append q (suc i) C F in
    let e : own_children q (suc i + length C) F ≡ own_children q (suc i + row_count c) F = ap (λ (x : ℕ). own_children q (suc i + x) F) (rows_counted c i (suc i)) in
    omega (arith, hc, hf, m, n, o, e)

-- ---------------------------------------------------------------- a row's own

own_before : (l : List Row) (q i : ℕ) → q < i → own_children q i l ≡ 0
unfolding own_children
own_before [] q i h = refl
own_before (r ∷ l) q i h = rw (ne_eqb i q (λ e. omega (arith, e, h))) (let z = own_before l q (suc i) (omega (arith, h)) in omega (arith, z))

own_at : (l : List Row) (i j : ℕ) → own_children (i + j) i l ≡ children (row l j)
unfolding own_children
own_at [] i j = refl
own_at (r ∷ l) i zero =
    let e : i + 0 ≡ i = omega arith in
    rw (eq-eqb i (i + 0) (sym e)) (let z = own_before l (i + 0) (suc i) (omega arith) in omega (arith, z))
own_at (r ∷ l) i (suc j) =
    let e : i + suc j ≡ suc i + j = omega arith in
    rw (ne_eqb i (i + suc j) (λ x. omega (arith, x)))
    (let z = own_at l (suc i) j in let y : own_children (i + suc j) (suc i) l ≡ own_children (suc i + j) (suc i) l = ap (λ (n : ℕ). own_children n (suc i) l) e in omega (arith, z, y))

-- AS MANY AS NAME IT, under a root
pub counts : (k : ℕ) (t : Tree) (q : ℕ) → children (row (rows_of 0 0 (subtree k t nil)) q) ≡ naming q (drop 1 (rows_of 0 0 (subtree k t nil)))
unfolding rows_of own_children
counts k t q =
    let all : List Row = rows_of 0 0 (subtree k t nil) in
    let e : own_children (0 + q) 0 all ≡ children (row all q) = own_at all 0 q in
    let z : own_children (0 + q) 0 all ≡ own_children q 0 all = (let y : 0 + q ≡ q = omega arith in ap (λ (n : ℕ). own_children n 0 all) y) in
    let n : naming q (rows_of 0 1 t ++ []) ≡ naming q (rows_of 0 1 t) = ap (naming q) (append-nil (rows_of 0 1 t)) in
    let o : own_children q 1 (rows_of 0 1 t ++ []) ≡ own_children q 1 (rows_of 0 1 t) = ap (own_children q 1) (append-nil (rows_of 0 1 t)) in
    let h = names_counted t q 0 1 in
    omega (arith, e, z, n, o, h)
