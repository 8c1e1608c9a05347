-- Rows read as a preorder give back the tree whose rows they are, and no other.
use Prim.Native.Nat.{ℕ, suc, ◌+◌, ◌*◌}
use native.Mathlib.Omega.{arith}
use mathlib.Core.Path.{◌≡◌, refl, ap, sym, ◌∙◌}
use mathlib.Core.List.{List, [], ◌++◌, append_assoc, append-nil}
use lib.ListN.{length, length-append}
use Rattle.definitions.specs.Layout.{LEAF, TREE_ROW}
use Rattle.definitions.specs.Token.{byte_count}
use Rattle.definitions.specs.Place.{Tree, nil, leaf, subtree, width, count, row_count}
use Rattle.definitions.specs.Parent.{rows_under, tree_row}
use Rattle.laws.specs.TreeRows.{Rows, end, node, preorder, preorder_under, row_total, siblings, widths, Counts, Widths, first_rows, later_rows, read_row, read}
use Rattle.laws.specs.TreeRows as R

-- ---------------------------------------------------------------- reading

infixr 30 ◌⊞◌
unfoldable pub ◌⊞◌ : Rows → Rows → Rows
end ⊞ g = g
R.leaf k w n f ⊞ g = R.leaf k w n (f ⊞ g)
node k w n c f ⊞ g = node k w n c (f ⊞ g)

beside_end : (f : Rows) → f ⊞ end ≡ f
unfolding ◌⊞◌
beside_end end = refl
beside_end (R.leaf k w n f) = ap (R.leaf k w n) (beside_end f)
beside_end (node k w n c f) = ap (node k w n c) (beside_end f)

first_of : (c g : Rows) → first_rows (siblings c) (c ⊞ g) ≡ c
unfolding ◌⊞◌ first_rows siblings
first_of end g = refl
first_of (R.leaf k w n f) g = ap (R.leaf k w n) (first_of f g)
first_of (node k w n c f) g = ap (node k w n c) (first_of f g)

later_of : (c g : Rows) → later_rows (siblings c) (c ⊞ g) ≡ g
unfolding ◌⊞◌ later_rows siblings
later_of end g = refl
later_of (R.leaf k w n f) g = later_of f g
later_of (node k w n c f) g = later_of f g

-- rows with true counts are read as what they are, whatever follows
pub read_preorder : (r : Rows) (p i : ℕ) (l : List ℕ) → Counts r → read (preorder_under p i r ++ l) ≡ r ⊞ read l
unfolding read preorder_under Counts read_row ◌⊞◌
read_preorder end p i l h = refl
read_preorder (R.leaf k w n f) p i l h = ap (R.leaf k w n) (read_preorder f p (suc i) l h)
read_preorder (node k w n c f) p i l h =
    let j = suc i + row_total c in
    let C : List ℕ = preorder_under i (suc i) c in
    let F : List ℕ = preorder_under p j f in
    let e : read ((C ++ F) ++ l) ≡ c ⊞ (f ⊞ read l) =
    ap read (append_assoc C F l) ∙ read_preorder c i (suc i) (F ++ l) h.1 ∙ ap (c ⊞◌) (read_preorder f p j l h.2) in
    ap (λ (x : Rows). node k w n (first_rows n x) (later_rows n x)) e
    ∙ ap (λ (m : ℕ). node k w n (first_rows m (c ⊞ (f ⊞ read l))) (later_rows m (c ⊞ (f ⊞ read l)))) h.0
    ∙ ap (λ (x : Rows). node k w n x (later_rows (siblings c) (c ⊞ (f ⊞ read l)))) (first_of c (f ⊞ read l))
    ∙ ap (node k w n c) (later_of c (f ⊞ read l))

-- READ BACK
pub read_back : (r : Rows) → Counts r → read (preorder r) ≡ r
unfolding read
read_back r h = ap read (sym (append-nil (preorder r))) ∙ read_preorder r 0 0 [] h ∙ beside_end r

-- ONLY ONE: two trees with true counts and the same rows are the same
pub preorder_once : (r q : Rows) → Counts r → Counts q → preorder r ≡ preorder q → r ≡ q
preorder_once r q h g e = sym (read_back r h) ∙ ap read e ∙ read_back q g

-- ---------------------------------------------------------------- the rows of a tree

-- a placed tree as its rows show it: without the raw tokens
unfoldable pub shown : Tree → Rows
shown nil = end
shown (leaf k ts f) = R.leaf k (byte_count ts) (length ts) (shown f)
shown (subtree k c f) = node k (width c) (count c) (shown c) (shown f)

total_count : (t : Tree) → row_total (shown t) ≡ row_count t
unfolding shown row_total row_count
total_count nil = refl
total_count (leaf k ts f) = ap suc (total_count f)
total_count (subtree k c f) = rw (total_count c, total_count f)

pub shown_preorder : (t : Tree) (p i : ℕ) → preorder_under p i (shown t) ≡ rows_under p i t
unfolding shown preorder_under rows_under
shown_preorder nil p i = refl
shown_preorder (leaf k ts f) p i = ap (tree_row LEAF k (byte_count ts) (length ts) p) (shown_preorder f p (suc i))
shown_preorder (subtree k c f) p i =
    rw (total_count c, shown_preorder c i (suc i), shown_preorder f p (suc i + row_count c))

count_number : (t : Tree) → count t ≡ siblings (shown t)
unfolding shown count siblings
count_number nil = refl
count_number (leaf k ts f) = ap suc (count_number f)
count_number (subtree k c f) = ap suc (count_number f)

width_widths : (t : Tree) → width t ≡ widths (shown t)
unfolding shown width widths
width_widths nil = refl
width_widths (leaf k ts f) = ap (byte_count ts +◌) (width_widths f)
width_widths (subtree k c f) = ap (width c +◌) (width_widths f)

pub shown_counts : (t : Tree) → Counts (shown t)
unfolding shown Counts
shown_counts nil = tt
shown_counts (leaf k ts f) = shown_counts f
shown_counts (subtree k c f) = (count_number c, shown_counts c, shown_counts f)

pub shown_widths : (t : Tree) → Widths (shown t)
unfolding shown Widths
shown_widths nil = tt
shown_widths (leaf k ts f) = shown_widths f
shown_widths (subtree k c f) = (width_widths c, shown_widths c, shown_widths f)

pub rows_length : (t : Tree) (p i : ℕ) → length (rows_under p i t) ≡ TREE_ROW * row_count t
unfolding rows_under row_count
rows_length nil p i = refl
rows_length (leaf k ts f) p i =
    let h : length (rows_under p (suc i) f) ≡ TREE_ROW * row_count f = rows_length f p (suc i) in
    omega arith
rows_length (subtree k c f) p i =
    let j = suc i + row_count c in
    let h : length (rows_under i (suc i) c) ≡ TREE_ROW * row_count c = rows_length c i (suc i) in
    let g : length (rows_under p j f) ≡ TREE_ROW * row_count f = rows_length f p j in
    simp length-append (omega arith)
