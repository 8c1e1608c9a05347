-- Placing loses nothing: whatever the skeleton, the leaves of its tree and what it leaves are together the raw tokens.
use Prim.Native.Nat.{ℕ}
use mathlib.Core.Path.{◌≡◌, refl, ap, sym, ◌∙◌}
use mathlib.Core.Bool.{Bool, true, false, cond}
use mathlib.Core.List.{List, [], ◌∷◌, ◌++◌, append_assoc}
use lib.ListN.{length, take, drop, take-append-drop}
use Rattle.definitions.specs.Token.{Token, trivia, drop_trivia, past}
use Rattle.definitions.specs.Skeleton.{Skeleton, done, token, name, node, ignored, report, over}
use Rattle.definitions.specs.Place.{Tree, nil, leaf, subtree, ◌⊕◌, lead, front, after, place, root}
use Rattle.laws.proofs.Tree.{leaves, leaves_beside}

-- the trivia that stand first have a leaf each
pub lead_whole : (ts : List Token) → leaves (lead ts) ++ drop_trivia ts ≡ ts
unfolding lead drop_trivia leaves
lead_whole [] = refl
lead_whole (t ∷ ts) = go (trivia t) (lead_whole ts)
  where
    go : (b : Bool) → leaves (lead ts) ++ drop_trivia ts ≡ ts → leaves (cond b (leaf t.kind (t ∷ []) (lead ts)) nil) ++ cond b (drop_trivia ts) (t ∷ ts) ≡ t ∷ ts
    go true h = ap (t ∷◌) h
    go false h = refl

pub front_whole : (ts : List Token) → leaves (front ts) ++ past ts ≡ ts
unfolding front leaves
front_whole [] = refl
front_whole (t ∷ ts) = refl

-- f covers ts up to us, and g what follows
then_whole : (f g : Tree) (ts us vs : List Token) → leaves f ++ us ≡ ts → leaves g ++ vs ≡ us → leaves (f ⊕ g) ++ vs ≡ ts
then_whole f g ts us vs p q = ap (◌++ vs) (leaves_beside f g) ∙ append_assoc (leaves f) (leaves g) vs ∙ ap (leaves f ++◌) q ∙ p

-- a node covers what its children cover
branch_whole : (k : ℕ) (c g : Tree) (ts us vs : List Token) → leaves c ++ us ≡ ts → leaves g ++ vs ≡ us → leaves (subtree k c g) ++ vs ≡ ts
unfolding leaves
branch_whole k c g ts us vs p q = append_assoc (leaves c) (leaves g) vs ∙ ap (leaves c ++◌) q ∙ p

-- PLACING LOSES NOTHING
pub place_whole : (p : Skeleton) (ts : List Token) → leaves (place p ts) ++ after p ts ≡ ts
unfolding place after leaves ◌⊕◌
place_whole done ts = refl
place_whole (token t m o) ts =
    then_whole (lead ts) _ ts (drop_trivia ts) (after o (past (drop_trivia ts))) (lead_whole ts)
    (then_whole (front (drop_trivia ts)) _ (drop_trivia ts) (past (drop_trivia ts)) (after o (past (drop_trivia ts))) (front_whole (drop_trivia ts)) (place_whole o (past (drop_trivia ts))))
place_whole (name raw m o) ts =
    let u : List Token = drop_trivia ts in
    let v : List Token = drop (length raw) u in
    then_whole (lead ts) _ ts u (after o v) (lead_whole ts)
    (append_assoc (take (length raw) u) (leaves (place o v)) (after o v) ∙ ap (take (length raw) u ++◌) (place_whole o v) ∙ take-append-drop (length raw) u)
place_whole (node k m m' a i o) ts =
    let u : List Token = drop_trivia ts in
    let v : List Token = after a u in
    let w : List Token = after i v in
    then_whole (lead ts) _ ts u (after o w) (lead_whole ts)
    (branch_whole k (place a u ⊕ place i v) (place o w) u w (after o w) (then_whole (place a u) (place i v) u v w (place_whole a u) (place_whole i v)) (place_whole o w))
place_whole (ignored m m' a i o) ts =
    let v : List Token = after a ts in
    let w : List Token = after i v in
    then_whole (place a ts) _ ts v (after o w) (place_whole a ts) (then_whole (place i v) (place o w) v w (after o w) (place_whole i v) (place_whole o w))
place_whole (report r o) ts = place_whole o ts
place_whole (over m o) ts = place_whole o ts

-- so the root's leaves are all the tokens, if only trivia are left
pub root_whole : (k : ℕ) (p : Skeleton) (ts : List Token) → drop_trivia (after p ts) ≡ [] → leaves (root k p ts) ≡ ts
unfolding root leaves
root_whole k p ts e =
    ap (leaves (place p ts ⊕ lead (after p ts)) ++◌) (sym e)
    ∙ then_whole (place p ts) (lead (after p ts)) ts (after p ts) (drop_trivia (after p ts)) (place_whole p ts) (lead_whole (after p ts))
