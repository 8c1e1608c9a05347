-- sink.rs: the tree of a skeleton and the raw tokens. Trivia go in before each start, each token and each name, and at
-- the end.
use Rattle.std.specs.Prelude.{ℕ, suc, ◌+◌, cond, List, [], ◌∷◌, length, take, drop}
use Rattle.definitions.specs.TokenKind as K
use Rattle.definitions.specs.Token.{Token, is_error, seen, trivia, drop_trivia, byte_count, past}
use Rattle.definitions.specs.Skeleton.{Skeleton, done, token, name, node, ignored, report, over}

-- leaves and nodes side by side, each with what follows it. A leaf has a kind and its raw tokens, a node a kind and its
-- children.
pub data Tree : Type 0 where
  nil : Tree
  leaf : ℕ → List Token → Tree → Tree
  subtree : ℕ → Tree → Tree → Tree

infixr 30 ◌⊕◌
unfoldable pub ◌⊕◌ : Tree → Tree → Tree
nil ⊕ g = g
leaf k ts f ⊕ g = leaf k ts (f ⊕ g)
subtree k c f ⊕ g = subtree k c (f ⊕ g)

-- `eat_trivia`: a leaf for each token of trivia that stands first
unfoldable pub lead : List Token → Tree
unfolding trivia
lead [] = nil
lead (t ∷ ts) = let r = lead ts in cond (trivia t) (leaf t.kind (t ∷ []) r) nil

-- `token`: a leaf for the first raw token
unfoldable pub front : List Token → Tree
unfolding seen
front [] = nil
front (t ∷ ts) = leaf (seen t) (t ∷ []) nil

-- the raw tokens that a skeleton leaves
unfoldable pub after : Skeleton → List Token → List Token
unfolding drop_trivia
after done ts = ts
after (token t m o) ts = after o (past (drop_trivia ts))
after (name raw m o) ts = after o (drop (length raw) (drop_trivia ts))
after (node k m m' a i o) ts = after o (after i (after a (drop_trivia ts)))
after (ignored m m' a i o) ts = after o (after i (after a ts))
after (report r o) ts = after o ts
after (over m o) ts = after o ts

-- the tree of a skeleton. A chain's nodes start together, outermost first, so a node's children are those before it and
-- those inside.
unfoldable pub place : Skeleton → List Token → Tree
unfolding ◌⊕◌ lead front after drop_trivia
place done ts = nil
place (token t m o) ts = lead ts ⊕ front (drop_trivia ts) ⊕ place o (past (drop_trivia ts))
place (name raw m o) ts =
    lead ts ⊕ leaf K.Name (take (length raw) (drop_trivia ts)) nil ⊕ place o (drop (length raw) (drop_trivia ts))
place (node k m m' a i o) ts =
    let u = drop_trivia ts in
    let v = after a u in
    lead ts ⊕ subtree k (place a u ⊕ place i v) nil ⊕ place o (after i v)
place (ignored m m' a i o) ts = let v = after a ts in place a ts ⊕ place i v ⊕ place o (after i v)
place (report r o) ts = place o ts
place (over m o) ts = place o ts

-- the root: a kind, and under it all the tokens
unfoldable pub root : ℕ → Skeleton → List Token → Tree
unfolding ◌⊕◌ lead after place
root k o ts = subtree k (place o ts ⊕ lead (after o ts)) nil

-- ---------------------------------------------------------------- what the rows say

unfoldable pub width : Tree → ℕ
unfolding byte_count
width nil = 0
width (leaf k ts f) = byte_count ts + width f
width (subtree k c f) = width c + width f

unfoldable pub count : Tree → ℕ
count nil = 0
count (leaf k ts f) = suc (count f)
count (subtree k c f) = suc (count f)

-- how many rows there are: a row for each leaf and each node (Parent has the rows)
unfoldable pub row_count : Tree → ℕ
row_count nil = 0
row_count (leaf k ts f) = suc (row_count f)
row_count (subtree k c f) = suc (row_count c + row_count f)

-- the lexical errors of tokens that start at a byte: number, start, end of each error token in order
unfoldable pub lexical_errors : ℕ → List Token → List ℕ
unfolding is_error
lexical_errors byte [] = []
lexical_errors byte (t ∷ ts) =
    let r = lexical_errors (byte + t.len) ts in
    let more : List ℕ = t.kind ∷ byte ∷ (byte + t.len) ∷ r in
    cond (is_error t.kind) more r
