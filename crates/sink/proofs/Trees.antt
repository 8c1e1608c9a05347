-- How many raw tokens and how many rows a tree has, and the bounds on both for a placed tree.
use native.Mathlib.Omega.{arith}
use Prim.Native.Nat.{ℕ, suc, ◌+◌, ◌≤◌}
use mathlib.Core.List.{List, [], ◌∷◌, ◌++◌}
use mathlib.Core.Path.{◌≡◌, refl, ap, sym, ◌∙◌}
use mathlib.Core.Bool.{Bool, true, false, cond}
use lib.ListN.{length, take, drop, length-append}
use lib.Seq.{drop_at}
use Rattle.definitions.specs.TokenKind as K
use Rattle.definitions.specs.Token.{Token, trivia, drop_trivia, past, byte_count}
use Rattle.definitions.specs.Skeleton.{Skeleton, done, token, name, node, ignored, report, over}
use Rattle.definitions.specs.Place.{Tree, nil, leaf, subtree, ◌⊕◌, lead, front, after, place, root, width, count, row_count}
use Rattle.laws.proofs.Skeleton.{bytes_append}
use Rattle.laws.proofs.Tree.{row_count_beside, width_beside, leaves, width_leaves}
use Rattle.laws.proofs.Placed.{lead_whole, place_whole}
use Rattle.sink.proofs.Encode.{event_count}

-- the raw tokens under a tree
unfoldable pub raw : Tree → ℕ
raw nil = 0
raw (leaf k ts f) = length ts + raw f
raw (subtree k c f) = raw c + raw f

pub raw_beside : (f g : Tree) → raw (f ⊕ g) ≡ raw f + raw g
unfolding raw ◌⊕◌
raw_beside nil g = omega arith
raw_beside (leaf k ts f) g = omega (arith, raw_beside f g)
raw_beside (subtree k c f) g = omega (arith, raw_beside f g)

pub count_rows : (f : Tree) → count f ≤ row_count f
unfolding count row_count
count_rows nil = omega arith
count_rows (leaf k ts f) = omega (arith, count_rows f)
count_rows (subtree k c f) = omega (arith, count_rows f)

-- ---------------------------------------------------------------- the tokens under what is placed

raw_leaves : (f : Tree) → length (leaves f) ≡ raw f
unfolding leaves raw
raw_leaves nil = refl
raw_leaves (leaf k ts f) = length-append ts (leaves f) ∙ ap (λ n. length ts + n) (raw_leaves f)
raw_leaves (subtree k c f) = omega (arith, length-append (leaves c) (leaves f), raw_leaves c, raw_leaves f)

raw_covers : (f : Tree) (us ts : List Token) → leaves f ++ us ≡ ts → drop (raw f) ts ≡ us
raw_covers f us ts e = ap (λ l. drop (raw f) l) (sym e) ∙ drop_at (leaves f) us (raw f) (raw_leaves f)

pub raw_lead : (ts : List Token) → drop (raw (lead ts)) ts ≡ drop_trivia ts
raw_lead ts = raw_covers (lead ts) (drop_trivia ts) ts (lead_whole ts)

pub raw_place : (o : Skeleton) (ts : List Token) → drop (raw (place o ts)) ts ≡ after o ts
raw_place o ts = raw_covers (place o ts) (after o ts) ts (place_whole o ts)

bytes_covers : (f : Tree) (us ts : List Token) → leaves f ++ us ≡ ts → width f + byte_count us ≡ byte_count ts
bytes_covers f us ts e = omega (arith, width_leaves f, bytes_append (leaves f) us, ap byte_count e)

length_covers : (f : Tree) (us ts : List Token) → leaves f ++ us ≡ ts → raw f + length us ≡ length ts
length_covers f us ts e = omega (arith, raw_leaves f, length-append (leaves f) us, ap length e)

-- ---------------------------------------------------------------- bounds

-- the root is no wider than the tokens
pub root_width : (k : ℕ) (o : Skeleton) (ts : List Token) → width (root k o ts) ≤ byte_count ts
unfolding root width
root_width k o ts =
    omega (
      arith,
      bytes_covers (place o ts) (after o ts) ts (place_whole o ts),
      bytes_covers (lead (after o ts)) (drop_trivia (after o ts)) (after o ts) (lead_whole (after o ts)),
      width_beside (place o ts) (lead (after o ts)),
    )

lead_size : (ts : List Token) → row_count (lead ts) ≡ raw (lead ts)
unfolding lead row_count raw
lead_size [] = refl
lead_size (t ∷ ts) = go (lead_size ts) (trivia t)
  where
    go : row_count (lead ts) ≡ raw (lead ts) → (b : Bool) → row_count (cond b (leaf t.kind (t ∷ []) (lead ts)) nil) ≡ raw (cond b (leaf t.kind (t ∷ []) (lead ts)) nil)
    go h true = omega arith
    go h false = refl

front_size : (ts : List Token) → row_count (front ts) ≡ raw (front ts)
unfolding front row_count raw
front_size [] = refl
front_size (t ∷ ts) = refl

-- a row for each token or name, and for each node
place_size : (o : Skeleton) (ts : List Token) → row_count (place o ts) ≤ raw (place o ts) + event_count o
unfolding place row_count raw event_count
place_size done ts = omega arith
place_size (token t m o) ts =
    let us = drop_trivia ts in let F = front us in let P = place o (past us) in
    omega (arith, lead_size ts, front_size us, place_size o (past us), row_count_beside (lead ts) (F ⊕ P), row_count_beside F P, raw_beside (lead ts) (F ⊕ P), raw_beside F P)
place_size (name r m o) ts =
    let us = drop_trivia ts in let n = length r in let F = leaf K.Name (take n us) nil in let P = place o (drop n us) in
    omega (arith, lead_size ts, place_size o (drop n us), row_count_beside (lead ts) (F ⊕ P), row_count_beside F P, raw_beside (lead ts) (F ⊕ P), raw_beside F P)
place_size (node k m m' a i o) ts =
    let us = drop_trivia ts in let vs = after a us in let A = place a us in let I = place i vs in let F = subtree k (A ⊕ I) nil in let P = place o (after i vs) in
    omega (
      arith,
      lead_size ts,
      place_size a us,
      place_size i vs,
      place_size o (after i vs),
      row_count_beside A I,
      raw_beside A I,
      row_count_beside (lead ts) (F ⊕ P),
      row_count_beside F P,
      raw_beside (lead ts) (F ⊕ P),
      raw_beside F P,
    )
place_size (ignored m m' a i o) ts =
    let vs = after a ts in let A = place a ts in let I = place i vs in let P = place o (after i vs) in
    omega (arith, place_size a ts, place_size i vs, place_size o (after i vs), row_count_beside A (I ⊕ P), row_count_beside I P, raw_beside A (I ⊕ P), raw_beside I P)
place_size (report r o) ts = omega (arith, place_size o ts)
place_size (over m o) ts = place_size o ts

-- THE TREE'S ROWS ARE NO MORE THAN THE TOKENS, THE EVENTS AND ONE
pub root_rows_most : (k : ℕ) (o : Skeleton) (ts : List Token) → row_count (root k o ts) ≤ suc (length ts + event_count o)
unfolding root row_count
root_rows_most k o ts =
    omega (
      arith,
      place_size o ts,
      lead_size (after o ts),
      length_covers (place o ts) (after o ts) ts (place_whole o ts),
      length_covers (lead (after o ts)) (drop_trivia (after o ts)) (after o ts) (lead_whole (after o ts)),
      row_count_beside (place o ts) (lead (after o ts)),
    )
