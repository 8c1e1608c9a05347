-- The rows of a tree, one by one: how they stand in a buffer and are read back from it, side by side, and what their
-- leaves add up to.
use Prim.Native.Nat.{ℕ, suc, ◌+◌, ◌-◌, ◌*◌, ◌/◌, ◌<◌}
use native.Mathlib.Nat.{mul-div_cancel_left}
use native.Mathlib.Omega.{arith}
use mathlib.Core.Path.{◌≡◌, refl, ap, sym, ◌∙◌}
use mathlib.Core.List.{List, [], ◌∷◌, ◌++◌, append_assoc}
use lib.ListN.{length, take, drop, replicate, length-append}
use lib.Seq.{take_at, drop_at}
use Rattle.definitions.specs.Layout.{TREE_ROW, NODE, LEAF}
use Rattle.definitions.specs.Token.{byte_count}
use Rattle.definitions.specs.Place.{Tree, nil, leaf, subtree, ◌⊕◌, width, count, row_count}
use Rattle.definitions.specs.Parent.{tree_row, rows_under}
use Rattle.definitions.specs.Call.{written}
use Rattle.laws.proofs.Skeleton.{bytes_append}
use Rattle.laws.proofs.Tree.{leaves}
use Rattle.rows.specs.ResultRows.{Row, cut_rows, Subtrees, over_leaves, raw_tokens, raw_bytes}
use Rattle.rows.specs.ResultRows as S

-- ---------------------------------------------------------------- rows and numbers

unfoldable pub flat : List Row → List ℕ
flat [] = []
flat (r ∷ l) = r ++ flat l

-- every row has w numbers
abbrev pub Wide : ℕ → List Row → Type 0
Wide w [] = Unit {0}
Wide w (r ∷ l) = (length r ≡ w) × Wide w l

pub flat_append : (l m : List Row) → flat (l ++ m) ≡ flat l ++ flat m
unfolding flat
flat_append [] m = refl
flat_append (r ∷ l) m = ap (r ++◌) (flat_append l m) ∙ sym (append_assoc r (flat l) (flat m))

pub wide_append : (w : ℕ) (l m : List Row) → Wide w l → Wide w m → Wide w (l ++ m)
wide_append w [] m h g = g
wide_append w (r ∷ l) m h g = (h.0, wide_append w l m h.1 g)

pub flat_length : (w : ℕ) (l : List Row) → Wide w l → length (flat l) ≡ w * length l
unfolding flat
flat_length w [] h = sym (native.Mathlib.Nat.mul-zero w)
flat_length w (r ∷ l) h = length-append r (flat l) ∙ ap (◌+ length (flat l)) h.0 ∙ ap (w +◌) (flat_length w l h.1) ∙ step
  where
    step : w + w * length l ≡ w * suc (length l)
    step = native.Mathlib.Nat.add_comm w (w * length l) ∙ sym (native.Mathlib.Nat.mul-suc w (length l))

pub first_flat : (w : ℕ) (l : List Row) (z : List ℕ) → Wide w l → cut_rows (length l) w (flat l ++ z) ≡ l
unfolding cut_rows flat
first_flat w [] z h = refl
first_flat w (r ∷ l) z h =
    let e : (r ++ flat l) ++ z ≡ r ++ (flat l ++ z) = append_assoc r (flat l) z in
    (λ i. take w (e i) ∷ cut_rows (length l) w (drop w (e i)))
    ∙ (λ i. take_at r (flat l ++ z) w h.0 i ∷ cut_rows (length l) w (drop_at r (flat l ++ z) w h.0 i))
    ∙ ap (r ∷◌) (first_flat w l z h.1)

-- WRITTEN ROWS are read back from the front of a buffer, whatever stood there
pub written_rows : (w : ℕ) (l : List Row) (m b : List ℕ) → 0 < w → Wide w l → m ≡ flat l → cut_rows (length m / w) w (written m b) ≡ l
written_rows w l m b pos h e =
    let c : length m / w ≡ length l = ap (λ (n : ℕ). n / w) (ap length e ∙ flat_length w l h) ∙ mul-div_cancel_left (length l) pos in
    ap (λ (n : ℕ). cut_rows n w (written m b)) c
    ∙ ap (λ (x : List ℕ). cut_rows (length l) w (x ++ replicate (length b - length m) 0)) e
    ∙ first_flat w l (replicate (length b - length m) 0) h

-- ---------------------------------------------------------------- the rows

-- `rows_under` (Parent), row by row
unfoldable pub rows_of : ℕ → ℕ → Tree → List Row
unfolding byte_count width count row_count
rows_of p i nil = []
rows_of p i (leaf k ts f) = tree_row LEAF k (byte_count ts) (length ts) p [] ∷ rows_of p (suc i) f
rows_of p i (subtree k c f) = tree_row NODE k (width c) (count c) p [] ∷ (rows_of i (suc i) c ++ rows_of p (suc i + row_count c) f)

pub rows_wide : (f : Tree) (p i : ℕ) → Wide TREE_ROW (rows_of p i f)
unfolding rows_of
rows_wide nil p i = tt
rows_wide (leaf k ts f) p i = (refl, rows_wide f p (suc i))
rows_wide (subtree k c f) p i =
    (refl, wide_append TREE_ROW (rows_of i (suc i) c) (rows_of p (suc i + row_count c) f) (rows_wide c i (suc i)) (rows_wide f p (suc i + row_count c)))

pub rows_flat : (f : Tree) (p i : ℕ) → rows_under p i f ≡ flat (rows_of p i f)
unfolding rows_of rows_under flat
rows_flat nil p i = refl
rows_flat (leaf k ts f) p i = ap (tree_row LEAF k (byte_count ts) (length ts) p) (rows_flat f p (suc i))
rows_flat (subtree k c f) p i =
    let n = suc i + row_count c in
    ap (tree_row NODE k (width c) (count c) p)
    ((λ j. rows_flat c i (suc i) j ++ rows_flat f p n j) ∙ sym (flat_append (rows_of i (suc i) c) (rows_of p n f)))

-- as many as are counted
pub rows_counted : (f : Tree) (p i : ℕ) → length (rows_of p i f) ≡ row_count f
unfolding rows_of row_count
rows_counted nil p i = refl
rows_counted (leaf k ts f) p i = ap suc (rows_counted f p (suc i))
rows_counted (subtree k c f) p i =
    ap suc (length-append (rows_of i (suc i) c) (rows_of p (suc i + row_count c) f)
    ∙ (λ j. rows_counted c i (suc i) j + rows_counted f p (suc i + row_count c) j))

pub rows_beside : (f g : Tree) (p i : ℕ) → rows_of p i (f ⊕ g) ≡ rows_of p i f ++ rows_of p (i + row_count f) g
unfolding rows_of ◌⊕◌ row_count
rows_beside nil g p i = let e : i + 0 ≡ i = omega arith in rw e
rows_beside (leaf k ts f) g p i =
    let e : suc i + row_count f ≡ i + suc (row_count f) = omega arith in
    ap (tree_row LEAF k (byte_count ts) (length ts) p [] ∷◌) (rows_beside f g p (suc i) ∙ rw e)
rows_beside (subtree k c f) g p i =
    let n = suc i + row_count c in
    let e : n + row_count f ≡ i + suc (row_count c + row_count f) = omega arith in
    let r : Row = tree_row NODE k (width c) (count c) p [] in
    ap (λ (l : List Row). r ∷ (rows_of i (suc i) c ++ l)) (rows_beside f g p n ∙ rw e)
    ∙ ap (r ∷◌) (sym (append_assoc (rows_of i (suc i) c) (rows_of p n f) _))

-- the rows of a tree are those of its parts
pub rows_parts : (f : Tree) (p i : ℕ) → Subtrees (count f) (rows_of p i f)
unfolding rows_of count
rows_parts nil p i = S.none
rows_parts (leaf k ts f) p i = S.leaf refl (rows_parts f p (suc i))
rows_parts (subtree k c f) p i = S.node refl (rows_parts c i (suc i)) (rows_parts f p (suc i + row_count c))

-- ---------------------------------------------------------------- raw tokens

pub over_append : (f : Row → ℕ) (l m : List Row) → over_leaves f (l ++ m) ≡ over_leaves f l + over_leaves f m
unfolding over_leaves
over_append f [] m = let e : over_leaves f m ≡ 0 + over_leaves f m = omega arith in e
over_append f (r ∷ l) m = let e : over_leaves f (l ++ m) ≡ over_leaves f l + over_leaves f m = over_append f l m in omega arith

-- the raw tokens and bytes of a tree's rows are those of its leaves
pub tokens_counted : (f : Tree) (p i : ℕ) → raw_tokens (rows_of p i f) ≡ length (leaves f)
unfolding rows_of over_leaves leaves
tokens_counted nil p i = refl
tokens_counted (leaf k ts f) p i = let e : over_leaves S.count (rows_of p (suc i) f) ≡ length (leaves f) = tokens_counted f p (suc i) in simp length-append (omega arith)
tokens_counted (subtree k c f) p i =
    let d : over_leaves S.count (rows_of i (suc i) c) ≡ length (leaves c) = tokens_counted c i (suc i) in
    let e : over_leaves S.count (rows_of p (suc i + row_count c) f) ≡ length (leaves f) = tokens_counted f p (suc i + row_count c) in
    simp (length-append, over_append) (omega arith)

pub bytes_counted : (f : Tree) (p i : ℕ) → raw_bytes (rows_of p i f) ≡ byte_count (leaves f)
unfolding rows_of over_leaves leaves byte_count
bytes_counted nil p i = refl
bytes_counted (leaf k ts f) p i = let e : over_leaves S.width (rows_of p (suc i) f) ≡ byte_count (leaves f) = bytes_counted f p (suc i) in simp bytes_append (omega arith)
bytes_counted (subtree k c f) p i =
    let d : over_leaves S.width (rows_of i (suc i) c) ≡ byte_count (leaves c) = bytes_counted c i (suc i) in
    let e : over_leaves S.width (rows_of p (suc i + row_count c) f) ≡ byte_count (leaves f) = bytes_counted f p (suc i + row_count c) in
    simp (bytes_append, over_append) (omega arith)
