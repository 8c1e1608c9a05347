-- The leaves of a placed tree have the right kinds, and their rows cover the tokens in order.
use Prim.Native.Nat.{ℕ, ◌≤◌, ◌<◌}
use native.Mathlib.Omega.{arith}
use mathlib.Core.Path.{◌≡◌, refl, ap, sym, ◌∙◌, subst}
use mathlib.Core.Bool.{Bool, true, false, cond, ◌||◌}
use mathlib.Core.List.{List, [], ◌∷◌, ◌++◌}
use lib.Dec.{eqb, leb, lit<}
use lib.ListN.{length, take, drop, length-take}
use lib.Seq.{take-append_seam, drop-append_seam, take-append-le, drop-append-le}
use borrow.Author.Tests.{eqb-true, lt-leb}
use Rattle.definitions.specs.LexError.{UnexpectedEndIncbin}
use Rattle.definitions.specs.TokenKind as K
use Rattle.definitions.specs.Token.{Token, is_error, seen, trivia, drop_trivia, past, byte_count}
use Rattle.definitions.specs.Skeleton.{Skeleton, done, token, name, node, ignored, report, over}
use Rattle.definitions.specs.Place.{Tree, nil, leaf, subtree, ◌⊕◌, lead, front, after, place, root}
use Rattle.laws.specs.Lossless.{Leaf, KindOf, one_token, a_name, StandsFor, LeavesAre}
use Rattle.laws.specs.Lossless as L
use Rattle.basics.proofs.Tests.{cond-with}
use Rattle.laws.proofs.Tree.{leaves}
use Rattle.laws.proofs.Between.{Reads}
use Rattle.laws.proofs.Names.{IsName, Named}
use Rattle.laws.proofs.Decode.{shown}

-- ---------------------------------------------------------------- kinds

-- each leaf has the kind of the raw tokens that it stands for
unfoldable pub Right : Tree → Type 0
Right nil = Unit {0}
Right (leaf k raw f) = KindOf k raw × Right f
Right (subtree k c f) = Right c × Right f

pub right_beside : (f g : Tree) → Right f → Right g → Right (f ⊕ g)
unfolding Right ◌⊕◌
right_beside nil g h i = i
right_beside (leaf k raw f) g h i = (h.0, right_beside f g h.1 i)
right_beside (subtree k c f) g h i = (h.0, right_beside f g h.1 i)

-- trivia are not errors
small_kind : (k n : ℕ) → n < UnexpectedEndIncbin → eqb k n ≡ true → leb UnexpectedEndIncbin k ≡ false
small_kind k n h e = let q : k ≡ n = eqb-true k n e in lt-leb UnexpectedEndIncbin k (omega arith)

pub or_cases : {P : Type 0} (a b : Bool) → (a || b) ≡ true → (a ≡ true → P) → (b ≡ true → P) → P
or_cases true b e f g = f refl
or_cases false b e f g = g e

trivia_seen : (t : Token) → trivia t ≡ true → t.kind ≡ seen t
unfolding trivia seen is_error
trivia_seen t e =
    let e64 : leb UnexpectedEndIncbin t.kind ≡ false =
    or_cases (eqb t.kind K.Whitespace || eqb t.kind K.LineComment) (eqb t.kind K.BlockComment) e
    (λ f. or_cases (eqb t.kind K.Whitespace) (eqb t.kind K.LineComment) f (small_kind t.kind K.Whitespace (lit< tt)) (small_kind t.kind K.LineComment (lit< tt)))
    (small_kind t.kind K.BlockComment (lit< tt)) in
    sym (ap (λ (b : Bool). cond b K.Unrecognized t.kind) e64)

pub right_lead : (ts : List Token) → Right (lead ts)
unfolding Right lead
right_lead [] = tt
right_lead (t ∷ ts) = cond-with Right (trivia t) {x = leaf t.kind (t ∷ []) (lead ts)} {y = nil} (λ e. (one_token t (trivia_seen t e), right_lead ts)) (λ e. tt)

right_front : (ts : List Token) → Right (front ts)
unfolding Right front
right_front [] = tt
right_front (t ∷ ts) = (one_token t refl, tt)

name_kind : (raw : List Token) → IsName raw → KindOf K.Name raw
name_kind [] h = absurd h
name_kind (t ∷ ts) h = a_name t ts refl h

pub right_place : (p : Skeleton) (ts : List Token) → Reads p ts → Named p → Right (place p ts)
unfolding Right place Reads Named ◌⊕◌
right_place done ts r n = tt
right_place (token t m o) ts r n =
    right_beside (lead ts) _ (right_lead ts) (right_beside (front (drop_trivia ts)) _ (right_front (drop_trivia ts)) (right_place o (past (drop_trivia ts)) r.2 n))
right_place (name raw m o) ts r n =
    let e : take (length raw) (drop_trivia ts) ≡ raw = ap (take (length raw)) r.0 ∙ take-append_seam raw (drop (length raw) (drop_trivia ts)) in
    right_beside (lead ts) _ (right_lead ts) (subst (KindOf K.Name) (sym e) (name_kind raw n.0), right_place o (drop (length raw) (drop_trivia ts)) r.2 n.1)
right_place (node k m m' a i o) ts r n =
    right_beside (lead ts) _ (right_lead ts)
    (right_beside (place a (drop_trivia ts)) _ (right_place a (drop_trivia ts) r.0 n.0) (right_place i (after a (drop_trivia ts)) r.1 n.1), right_place o (after i (after a (drop_trivia ts))) r.2 n.2)
right_place (ignored m m' a i o) ts r n =
    right_beside (place a ts) _ (right_place a ts r.0 n.0) (right_beside (place i (after a ts)) _ (right_place i (after a ts) r.1 n.1) (right_place o (after i (after a ts)) r.2 n.2))
right_place (report x o) ts r n = right_place o ts r n
right_place (over m o) ts r n = right_place o ts r n

pub right_root : (k : ℕ) (p : Skeleton) (ts : List Token) → Reads p ts → Named p → Right (root k p ts)
unfolding Right root
right_root k p ts r n = (right_beside (place p ts) (lead (after p ts)) (right_place p ts r n) (right_lead (after p ts)), tt)

-- ---------------------------------------------------------------- the leaves' rows

cover_append : (l m : List Leaf) (ts us : List Token) → LeavesAre l ts → LeavesAre m us → LeavesAre (l ++ m) (ts ++ us)
unfolding LeavesAre
cover_append [] m ts us h g = subst (λ (x : List Token). LeavesAre m (x ++ us)) (sym h) g
cover_append (x ∷ l) m ts us h g =
    let n : ℕ = x.count in
    let c : n ≤ length ts = omega (arith, h.0.count, length-take n ts) in
    (subst (StandsFor x) (sym (take-append-le n ts us c)) h.0, subst (LeavesAre (l ++ m)) (sym (drop-append-le n ts us c)) (cover_append l m (drop n ts) us h.1 g))

-- THE LEAVES ARE THE TOKENS, said of their rows
pub leaves_cover : (t : Tree) → Right t → LeavesAre (L.leaves (shown t)) (leaves t)
unfolding LeavesAre Right shown leaves L.leaves
leaves_cover nil h = refl
leaves_cover (leaf k raw f) h = (
  subst (StandsFor (record { kind = k; width = byte_count raw; count = length raw })) (sym (take-append_seam raw (leaves f))) (record { kind = h.0; width = refl; count = refl }),
  subst (LeavesAre (L.leaves (shown f))) (sym (drop-append_seam raw (leaves f))) (leaves_cover f h.1),
)
leaves_cover (subtree k c f) h = cover_append (L.leaves (shown c)) (L.leaves (shown f)) (leaves c) (leaves f) (leaves_cover c h.0) (leaves_cover f h.1)
