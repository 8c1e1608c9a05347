-- Tree rows read from numbers: row by row from an index on, and where there is one.
use Prim.Native.Nat.{ℕ, zero, suc, ◌+◌, ◌*◌, ◌/◌, ◌≤◌}
use native.Mathlib.Omega.{arith}
use native.Mathlib.Nat.{one-mul, zero-mul}
use mathlib.Core.Path.{◌≡◌, refl, ap, ◌∙◌}
use mathlib.Core.Bool.{cond}
use mathlib.Core.List.{List, [], ◌∷◌}
use lib.Dec.{eqb}
use lib.ListN.{length, get_or, drop, length-drop}
use lib.Seq.{drop-cons, drop-nil}
use Rattle.definitions.specs.Layout.{TREE_ROW, TREE_KIND, TREE_WIDTH, TREE_COUNT, TREE_PARENT, LEAF}
use Rattle.rows.specs.ResultRows.{Row}
use Rattle.rows.specs.OnePass.{tree_rows_of}
use Rattle.rows.proofs.Written.{flat, Wide}

-- the row whose first number has an index
abbrev pub row_from : List ℕ → ℕ → Row
row_from l i = get_or l i 0 ∷ get_or l (i + TREE_KIND) 0 ∷ get_or l (i + TREE_WIDTH) 0 ∷ get_or l (i + TREE_COUNT) 0 ∷ get_or l (i + TREE_PARENT) 0 ∷ []

pub rows_cons : (l : List ℕ) (i : ℕ) → i + TREE_ROW ≤ length l → tree_rows_of (drop i l) ≡ row_from l i ∷ tree_rows_of (drop (i + TREE_ROW) l)
unfolding tree_rows_of
rows_cons l i h =
    let e : drop i l ≡ get_or l i 0 ∷ drop (suc i) l = drop-cons l i 0 (omega arith) in
    let f : drop (suc i) l ≡ get_or l (suc i) 0 ∷ drop (suc (suc i)) l = drop-cons l (suc i) 0 (omega arith) in
    let g : drop (suc (suc i)) l ≡ get_or l (suc (suc i)) 0 ∷ drop (suc (suc (suc i))) l = drop-cons l (suc (suc i)) 0 (omega arith) in
    let k : drop (suc (suc (suc i))) l ≡ get_or l (suc (suc (suc i))) 0 ∷ drop (suc (suc (suc (suc i)))) l = drop-cons l (suc (suc (suc i))) 0 (omega arith) in
    let q : drop (suc (suc (suc (suc i)))) l ≡ get_or l (suc (suc (suc (suc i)))) 0 ∷ drop (suc (suc (suc (suc (suc i))))) l = drop-cons l (suc (suc (suc (suc i)))) 0 (omega arith) in
    let a : suc i ≡ i + 1 = omega arith in
    let b : suc (suc i) ≡ i + 2 = omega arith in
    let c : suc (suc (suc i)) ≡ i + 3 = omega arith in
    let d : suc (suc (suc (suc i))) ≡ i + 4 = omega arith in
    let z : suc (suc (suc (suc (suc i)))) ≡ i + 5 = omega arith in
    ap tree_rows_of
    (e
    ∙ ap (get_or l i 0 ∷◌)
    (f
    ∙ ap (get_or l (suc i) 0 ∷◌)
    (g
    ∙ ap (get_or l (suc (suc i)) 0 ∷◌)
    (k
    ∙ ap (get_or l (suc (suc (suc i))) 0 ∷◌) q))))
    ∙ (λ j. (get_or l i 0 ∷ get_or l (a j) 0 ∷ get_or l (b j) 0 ∷ get_or l (c j) 0 ∷ get_or l (d j) 0 ∷ []) ∷ tree_rows_of (drop (z j) l))

-- as many as there are whole
pub rows_number : (l : List ℕ) → length (tree_rows_of l) ≡ length l / TREE_ROW
unfolding tree_rows_of
rows_number [] = refl
rows_number (a ∷ []) = refl
rows_number (a ∷ b ∷ []) = refl
rows_number (a ∷ b ∷ c ∷ []) = refl
rows_number (a ∷ b ∷ c ∷ d ∷ []) = refl
rows_number (a ∷ b ∷ c ∷ d ∷ e ∷ l) = ap suc (rows_number l) ∙ omega arith

-- where there is a row there are its numbers
pub rows_some : (l : List ℕ) (i : ℕ) (r : Row) (m : List Row) → tree_rows_of (drop i l) ≡ r ∷ m → i + TREE_ROW ≤ length l
unfolding tree_rows_of
rows_some l i r m e =
    let z = length-drop i l in
    let n : length (tree_rows_of (drop i l)) ≡ length (drop i l) / TREE_ROW = rows_number (drop i l) in
    let k : length (tree_rows_of (drop i l)) ≡ suc (length m) = ap length e in
    omega (arith, z, n, k)

pub rows_drop : (n : ℕ) (l : List ℕ) → tree_rows_of (drop (TREE_ROW * n) l) ≡ drop n (tree_rows_of l)
unfolding tree_rows_of
rows_drop zero l = refl
rows_drop (suc n) [] = ap tree_rows_of (drop-nil {A = ℕ} (TREE_ROW * suc n))
rows_drop (suc n) (a ∷ []) = let e : TREE_ROW * suc n ≡ suc (suc (suc (suc (suc (TREE_ROW * n))))) = omega arith in ap (λ (k : ℕ). tree_rows_of (drop k (a ∷ []))) e
rows_drop (suc n) (a ∷ b ∷ []) = let e : TREE_ROW * suc n ≡ suc (suc (suc (suc (suc (TREE_ROW * n))))) = omega arith in ap (λ (k : ℕ). tree_rows_of (drop k (a ∷ b ∷ []))) e
rows_drop (suc n) (a ∷ b ∷ c ∷ []) = let e : TREE_ROW * suc n ≡ suc (suc (suc (suc (suc (TREE_ROW * n))))) = omega arith in ap (λ (k : ℕ). tree_rows_of (drop k (a ∷ b ∷ c ∷ []))) e
rows_drop (suc n) (a ∷ b ∷ c ∷ d ∷ []) = let e : TREE_ROW * suc n ≡ suc (suc (suc (suc (suc (TREE_ROW * n))))) = omega arith in ap (λ (k : ℕ). tree_rows_of (drop k (a ∷ b ∷ c ∷ d ∷ []))) e
rows_drop (suc n) (a ∷ b ∷ c ∷ d ∷ f ∷ l) =
    let e : TREE_ROW * suc n ≡ suc (suc (suc (suc (suc (TREE_ROW * n))))) = omega arith in
    ap (λ (k : ℕ). tree_rows_of (drop k (a ∷ b ∷ c ∷ d ∷ f ∷ l))) e ∙ rows_drop n l

-- rows of five numbers each, read from their numbers
pub rows_flat_of : (l : List Row) → Wide TREE_ROW l → tree_rows_of (flat l) ≡ l
unfolding tree_rows_of flat
rows_flat_of [] h = refl
rows_flat_of ([] ∷ l) h = absurd (omega (arith, h.0))
rows_flat_of ((a ∷ []) ∷ l) h = absurd (omega (arith, h.0))
rows_flat_of ((a ∷ b ∷ []) ∷ l) h = absurd (omega (arith, h.0))
rows_flat_of ((a ∷ b ∷ c ∷ []) ∷ l) h = absurd (omega (arith, h.0))
rows_flat_of ((a ∷ b ∷ c ∷ d ∷ []) ∷ l) h = absurd (omega (arith, h.0))
rows_flat_of ((a ∷ b ∷ c ∷ d ∷ e ∷ []) ∷ l) h = ap ((a ∷ b ∷ c ∷ d ∷ e ∷ []) ∷◌) (rows_flat_of l h.1)
rows_flat_of ((a ∷ b ∷ c ∷ d ∷ e ∷ f ∷ r) ∷ l) h = absurd (omega (arith, h.0))

-- a class of 0 or 1 times the width: a leaf's bytes
pub own_product : (c w : ℕ) → c ≤ LEAF → c * w ≡ cond (eqb c LEAF) w 0
own_product zero w h = zero-mul w
own_product (suc zero) w h = one-mul w
own_product (suc (suc c)) w h = absurd (omega arith)
