-- Kinds side by side, and what a skeleton makes: the kinds of its placed tree, trivia passed over, are read off it
-- without the tokens.
use Prim.Native.Nat.{ℕ, zero, suc}
use mathlib.Core.Path.{◌≡◌, refl, ap, sym, ◌∙◌}
use mathlib.Core.Bool.{Bool, true, false, cond}
use mathlib.Core.List.{List, [], ◌∷◌}
use lib.ListN.{length, drop, take}
use Rattle.definitions.specs.TokenKind as K
use Rattle.definitions.specs.Token.{is_trivia, Token, is_error, seen, trivia, drop_trivia, past}
use Rattle.definitions.specs.Skeleton.{Skeleton, done, token, name, node, ignored, report, over, ◌⧺◌}
use Rattle.definitions.specs.Place.{Tree, nil, subtree, ◌⊕◌, lead, front, after, place}
use Rattle.definitions.specs.Place as P
use Rattle.definitions.specs.Run.{closed}
use Rattle.basics.proofs.Tests.{cond-with}
use Rattle.laws.proofs.Between.{Reads}
use Rattle.laws.proofs.Decode.{shown}
use Rattle.brackets.specs.Brackets.{Outline, end, leaf, outline}
use Rattle.brackets.specs.Brackets as B
use Rattle.precedence.proofs.Symbols.{solid_first}

-- ---------------------------------------------------------------- side by side

infixr 30 ◌⊞◌
unfoldable pub ◌⊞◌ : Outline → Outline → Outline
end ⊞ g = g
leaf k f ⊞ g = leaf k (f ⊞ g)
B.node k c f ⊞ g = B.node k c (f ⊞ g)

pub beside_end : (f : Outline) → f ⊞ end ≡ f
unfolding ◌⊞◌
beside_end end = refl
beside_end (leaf k f) = ap (leaf k) (beside_end f)
beside_end (B.node k c f) = ap (B.node k c) (beside_end f)

pub beside_assoc : (f g h : Outline) → (f ⊞ g) ⊞ h ≡ f ⊞ (g ⊞ h)
unfolding ◌⊞◌
beside_assoc end g h = refl
beside_assoc (leaf k f) g h = ap (leaf k) (beside_assoc f g h)
beside_assoc (B.node k c f) g h = ap (B.node k c) (beside_assoc f g h)

-- ---------------------------------------------------------------- what a skeleton makes

unfoldable pub flat : Skeleton → Outline
unfolding ◌⊞◌
flat done = end
flat (token t m o) = leaf (seen t) (flat o)
flat (name raw m o) = leaf K.Name (flat o)
flat (node k m m' a i o) = B.node k (flat a ⊞ flat i) (flat o)
flat (ignored m m' a i o) = flat a ⊞ (flat i ⊞ flat o)
flat (report r o) = flat o
flat (over m o) = flat o

pub flat_join : (p q : Skeleton) → flat (p ⧺ q) ≡ flat p ⊞ flat q
unfolding flat ◌⧺◌ ◌⊞◌
flat_join done q = refl
flat_join (token t m p) q = ap (leaf (seen t)) (flat_join p q)
flat_join (name raw m p) q = ap (leaf K.Name) (flat_join p q)
flat_join (node k m m' a i p) q = ap (B.node k (flat a ⊞ flat i)) (flat_join p q)
flat_join (ignored m m' a i p) q =
    ap (λ (x : Outline). flat a ⊞ (flat i ⊞ x)) (flat_join p q)
    ∙ ap (flat a ⊞◌) (sym (beside_assoc (flat i) (flat p) (flat q)))
    ∙ sym (beside_assoc (flat a) (flat i ⊞ flat p) (flat q))
flat_join (report r p) q = flat_join p q
flat_join (over m p) q = flat_join p q

-- what a marker makes of what stands in it: a node of a kind, or nothing if it is ignored
unfoldable pub shut : ℕ → Outline → Outline
shut zero x = x
shut (suc k) x = B.node (suc k) x end

pub flat_closed : (k m m' : ℕ) (a i : Skeleton) → flat (closed k m m' a i) ≡ shut k (flat a ⊞ flat i)
unfolding closed flat shut
flat_closed zero m m' a i = ap (flat a ⊞◌) (beside_end (flat i))
flat_closed (suc k) m m' a i = refl

-- ---------------------------------------------------------------- the placed tree

kinds_beside : (f g : Tree) → outline (shown (f ⊕ g)) ≡ outline (shown f) ⊞ outline (shown g)
unfolding outline shown ◌⊕◌ ◌⊞◌
kinds_beside nil g = refl
kinds_beside (P.leaf k ts f) g = go (is_trivia k) (kinds_beside f g)
  where
    go : (b : Bool) → outline (shown (f ⊕ g)) ≡ outline (shown f) ⊞ outline (shown g)
        → cond b (outline (shown (f ⊕ g))) (leaf k (outline (shown (f ⊕ g)))) ≡ cond b (outline (shown f)) (leaf k (outline (shown f))) ⊞ outline (shown g)
    go true h = h
    go false h = ap (leaf k) h
kinds_beside (subtree k c f) g = ap (B.node k (outline (shown c))) (kinds_beside f g)

pub kinds_lead : (ts : List Token) → outline (shown (lead ts)) ≡ end
unfolding outline shown lead trivia
kinds_lead [] = refl
kinds_lead (t ∷ ts) =
    cond-with (λ (x : Tree). outline (shown x) ≡ end) (trivia t) {x = P.leaf t.kind (t ∷ []) (lead ts)} {y = nil}
    (λ e. ap (λ (b : Bool). cond b (outline (shown (lead ts))) (leaf t.kind (outline (shown (lead ts))))) e ∙ kinds_lead ts) (λ e. refl)

-- a token that is not trivia is seen as none
pub seen_solid : (t : Token) → trivia t ≡ false → is_trivia (seen t) ≡ false
unfolding seen trivia
seen_solid t e = cond-with (λ (k : ℕ). is_trivia k ≡ false) (is_error t.kind) {x = K.Unrecognized} {y = t.kind} (λ _. refl) (λ _. e)

kinds_front : (ts : List Token) (t : Token) (us : List Token) → ts ≡ t ∷ us → trivia t ≡ false → outline (shown (front ts)) ≡ leaf (seen t) end
unfolding outline shown front
kinds_front ts t us e s = ap (λ (l : List Token). outline (shown (front l))) e ∙ ap (λ (b : Bool). cond b end (leaf (seen t) end)) (seen_solid t s)

beside_lead : (ts : List Token) (f : Tree) → outline (shown (lead ts ⊕ f)) ≡ outline (shown f)
unfolding ◌⊞◌
beside_lead ts f = kinds_beside (lead ts) f ∙ ap (◌⊞ outline (shown f)) (kinds_lead ts)

-- THE KINDS OF A PLACED TREE are those that its skeleton makes
pub kinds_place : (p : Skeleton) (ts : List Token) → Reads p ts → outline (shown (place p ts)) ≡ flat p
unfolding place Reads flat outline shown ◌⊕◌ ◌⊞◌
kinds_place done ts r = refl
kinds_place (token t m o) ts r =
    let u = drop_trivia ts in
    beside_lead ts (front u ⊕ place o (past u))
    ∙ kinds_beside (front u) (place o (past u))
    ∙ ap (◌⊞ outline (shown (place o (past u)))) (kinds_front u t (past u) r.0 (solid_first ts t (past u) r.0))
    ∙ ap (leaf (seen t)) (kinds_place o (past u) r.2)
kinds_place (name raw m o) ts r =
    let u = drop_trivia ts in
    beside_lead ts (P.leaf K.Name (take (length raw) u) (place o (drop (length raw) u)))
    ∙ ap (leaf K.Name) (kinds_place o (drop (length raw) u) r.2)
kinds_place (node k m m' a i o) ts r =
    let u = drop_trivia ts in
    let v = after a u in
    beside_lead ts (subtree k (place a u ⊕ place i v) (place o (after i v)))
    ∙ ap (λ (x : Outline). B.node k x (outline (shown (place o (after i v))))) (kinds_beside (place a u) (place i v) ∙ ap (◌⊞ outline (shown (place i v))) (kinds_place a u r.0) ∙ ap (flat a ⊞◌) (kinds_place i v r.1))
    ∙ ap (B.node k (flat a ⊞ flat i)) (kinds_place o (after i v) r.2)
kinds_place (ignored m m' a i o) ts r =
    let v = after a ts in
    kinds_beside (place a ts) (place i v ⊕ place o (after i v))
    ∙ ap (◌⊞ outline (shown (place i v ⊕ place o (after i v)))) (kinds_place a ts r.0)
    ∙ ap (flat a ⊞◌) (kinds_beside (place i v) (place o (after i v)) ∙ ap (◌⊞ outline (shown (place o (after i v)))) (kinds_place i v r.1) ∙ ap (flat i ⊞◌) (kinds_place o (after i v) r.2))
kinds_place (report x o) ts r = kinds_place o ts r
kinds_place (over m o) ts r = kinds_place o ts r

-- with the trivia at the end
pub kinds_inside : (p : Skeleton) (ts us : List Token) → Reads p ts → outline (shown (place p ts ⊕ lead us)) ≡ flat p
kinds_inside p ts us r =
    kinds_beside (place p ts) (lead us) ∙ ap (◌⊞ outline (shown (lead us))) (kinds_place p ts r) ∙ ap (flat p ⊞◌) (kinds_lead us) ∙ beside_end (flat p)
