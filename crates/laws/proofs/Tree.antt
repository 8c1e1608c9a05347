-- Trees side by side: width, number, rows and leaves of a join are those of its pieces in turn, and a join is placed
-- piece by piece.
use Prim.Native.Nat.{ℕ, suc, ◌+◌}
use native.Mathlib.Nat.{zero-add}
use native.Mathlib.Omega.{arith}
use mathlib.Core.Path.{◌≡◌, refl, ap, sym, ◌∙◌}
use mathlib.Core.List.{List, [], ◌++◌, append_assoc}
use lib.ListN.{length, take, drop, length-append}
use Rattle.definitions.specs.Layout.{NODE, LEAF}
use Rattle.definitions.specs.TokenKind as K
use Rattle.definitions.specs.Token.{Token, drop_trivia, past, byte_count}
use Rattle.definitions.specs.Skeleton.{Skeleton, done, token, name, node, ignored, report, over, ◌⧺◌}
use Rattle.laws.proofs.Skeleton.{bytes_append}
use Rattle.definitions.specs.Strict.{token_count}
use Rattle.definitions.specs.Place.{Tree, nil, leaf, subtree, ◌⊕◌, lead, front, after, place, width, count, row_count}
use Rattle.definitions.specs.Parent.{rows_under, tree_row}

pub beside_nil : (f : Tree) → f ⊕ nil ≡ f
unfolding ◌⊕◌
beside_nil nil = refl
beside_nil (leaf k ts f) = ap (leaf k ts) (beside_nil f)
beside_nil (subtree k c f) = ap (subtree k c) (beside_nil f)

pub beside_assoc : (f g h : Tree) → (f ⊕ g) ⊕ h ≡ f ⊕ (g ⊕ h)
unfolding ◌⊕◌
beside_assoc nil g h = refl
beside_assoc (leaf k ts f) g h = ap (leaf k ts) (beside_assoc f g h)
beside_assoc (subtree k c f) g h = ap (subtree k c) (beside_assoc f g h)

pub width_beside : (f g : Tree) → width (f ⊕ g) ≡ width f + width g
unfolding ◌⊕◌ width
width_beside nil g = sym (zero-add (width g))
width_beside (leaf k ts f) g = let h : width (f ⊕ g) ≡ width f + width g = width_beside f g in omega arith
width_beside (subtree k c f) g = let h : width (f ⊕ g) ≡ width f + width g = width_beside f g in omega arith

pub count_beside : (f g : Tree) → count (f ⊕ g) ≡ count f + count g
unfolding ◌⊕◌ count
count_beside nil g = sym (zero-add (count g))
count_beside (leaf k ts f) g = let h : count (f ⊕ g) ≡ count f + count g = count_beside f g in omega arith
count_beside (subtree k c f) g = let h : count (f ⊕ g) ≡ count f + count g = count_beside f g in omega arith

pub row_count_beside : (f g : Tree) → row_count (f ⊕ g) ≡ row_count f + row_count g
unfolding ◌⊕◌ row_count
row_count_beside nil g = sym (zero-add (row_count g))
row_count_beside (leaf k ts f) g = let h : row_count (f ⊕ g) ≡ row_count f + row_count g = row_count_beside f g in omega arith
row_count_beside (subtree k c f) g = let h : row_count (f ⊕ g) ≡ row_count f + row_count g = row_count_beside f g in omega arith

-- the rows of the second piece are numbered on from those of the first, under the same parent
pub rows_beside : (f g : Tree) (p i : ℕ) → rows_under p i (f ⊕ g) ≡ rows_under p i f ++ rows_under p (i + row_count f) g
unfolding ◌⊕◌ rows_under row_count
rows_beside nil g p i = let e : i + 0 ≡ i = omega arith in rw e
rows_beside (leaf k ts f) g p i =
    let e : suc i + row_count f ≡ i + suc (row_count f) = omega arith in
    ap (tree_row LEAF k (byte_count ts) (length ts) p) (rows_beside f g p (suc i) ∙ rw e)
rows_beside (subtree k c f) g p i =
    let n = suc i + row_count c in
    let e : n + row_count f ≡ i + suc (row_count c + row_count f) = omega arith in
    ap (λ (l : List ℕ). tree_row NODE k (width c) (count c) p (rows_under i (suc i) c ++ l)) (rows_beside f g p n ∙ rw e)
    ∙ ap (tree_row NODE k (width c) (count c) p) (sym (append_assoc (rows_under i (suc i) c) (rows_under p n f) _))

-- the raw tokens of a tree's leaves, in order
unfoldable pub leaves : Tree → List Token
leaves nil = []
leaves (leaf k ts f) = ts ++ leaves f
leaves (subtree k c f) = leaves c ++ leaves f

pub leaves_beside : (f g : Tree) → leaves (f ⊕ g) ≡ leaves f ++ leaves g
unfolding ◌⊕◌ leaves
leaves_beside nil g = refl
leaves_beside (leaf k ts f) g = ap (ts ++◌) (leaves_beside f g) ∙ sym (append_assoc ts (leaves f) (leaves g))
leaves_beside (subtree k c f) g = ap (leaves c ++◌) (leaves_beside f g) ∙ sym (append_assoc (leaves c) (leaves f) (leaves g))

-- a tree is as wide as its leaves' tokens are long
pub width_leaves : (f : Tree) → width f ≡ byte_count (leaves f)
unfolding width leaves byte_count
width_leaves nil = refl
width_leaves (leaf k ts f) = ap (byte_count ts +◌) (width_leaves f) ∙ sym (bytes_append ts (leaves f))
width_leaves (subtree k c f) = ap2 (width_leaves c) (width_leaves f) ∙ sym (bytes_append (leaves c) (leaves f))
  where
    ap2 : {a b x y : ℕ} → a ≡ x → b ≡ y → a + b ≡ x + y
    ap2 p q = rw (p, q)

-- its leaves stand for as many raw tokens
pub tokens_leaves : (f : Tree) → token_count f ≡ length (leaves f)
unfolding token_count leaves
tokens_leaves nil = refl
tokens_leaves (leaf k ts f) = ap (length ts +◌) (tokens_leaves f) ∙ sym (length-append ts (leaves f))
tokens_leaves (subtree k c f) = rw (tokens_leaves c, tokens_leaves f) (sym (length-append (leaves c) (leaves f)))

-- the second piece is placed where the first one leaves off
pub place_join : (p q : Skeleton) (ts : List Token) → place (p ⧺ q) ts ≡ place p ts ⊕ place q (after p ts)
unfolding ◌⧺◌ after place ◌⊕◌
place_join done q ts = refl
place_join (token t m p) q ts =
    ap (λ (x : Tree). lead ts ⊕ front (drop_trivia ts) ⊕ x) (place_join p q (past (drop_trivia ts)))
    ∙ ap (lead ts ⊕◌) (sym (beside_assoc (front (drop_trivia ts)) _ _))
    ∙ sym (beside_assoc (lead ts) _ _)
place_join (name raw m p) q ts =
    ap (λ (x : Tree). lead ts ⊕ leaf K.Name (take (length raw) (drop_trivia ts)) x) (place_join p q (drop (length raw) (drop_trivia ts)))
    ∙ sym (beside_assoc (lead ts) _ _)
place_join (node k m m' a i p) q ts =
    ap (λ (x : Tree). lead ts ⊕ subtree k (place a (drop_trivia ts) ⊕ place i (after a (drop_trivia ts))) x) (place_join p q (after i (after a (drop_trivia ts))))
    ∙ sym (beside_assoc (lead ts) _ _)
place_join (ignored m m' a i p) q ts =
    ap (λ (x : Tree). place a ts ⊕ place i (after a ts) ⊕ x) (place_join p q (after i (after a ts)))
    ∙ ap (place a ts ⊕◌) (sym (beside_assoc (place i (after a ts)) _ _))
    ∙ sym (beside_assoc (place a ts) _ _)
place_join (report r p) q ts = place_join p q ts
place_join (over m p) q ts = place_join p q ts
