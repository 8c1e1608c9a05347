-- Skeletons that are placed alike: marks, the tokens that they name and ignored markers make no difference.
use Prim.Native.Nat.{ℕ}
use mathlib.Core.Path.{◌≡◌, refl, sym, ◌∙◌, ap}
use mathlib.Core.List.{List}
use Rattle.definitions.specs.Token.{Token, drop_trivia}
use Rattle.definitions.specs.Skeleton.{Skeleton, done, token, node, ignored, ◌⧺◌}
use Rattle.definitions.specs.Place.{Tree, nil, ◌⊕◌, subtree, lead, after, place}
use Rattle.laws.proofs.Skeleton.{after_join}
use Rattle.laws.proofs.Tree.{place_join, beside_nil}
use Rattle.precedence.specs.Nodes.{one, nodes}

pub record Same (p q : Skeleton) : Type 0 where
  pub placed : (ts : List Token) → place p ts ≡ place q ts
  pub left : (ts : List Token) → after p ts ≡ after q ts

pub same_refl : (p : Skeleton) → Same p p
same_refl p = record { placed = λ ts. refl; left = λ ts. refl }

pub same_trans : (p q r : Skeleton) → Same p q → Same q r → Same p r
same_trans p q r a b = record { placed = λ ts. a.placed ts ∙ b.placed ts; left = λ ts. a.left ts ∙ b.left ts }

pub same_sym : (p q : Skeleton) → Same p q → Same q p
same_sym p q a = record { placed = λ ts. sym (a.placed ts); left = λ ts. sym (a.left ts) }

pub same_path : (p q : Skeleton) → p ≡ q → Same p q
same_path p q e = rw e (same_refl q)

pub same_join : (p q p' q' : Skeleton) → Same p p' → Same q q' → Same (p ⧺ q) (p' ⧺ q')
same_join p q p' q' a b =
    record {
      placed = λ ts. rw (place_join p q ts, place_join p' q' ts, a.placed ts, a.left ts, b.placed (after p' ts));
      left = λ ts. rw (after_join p q ts, after_join p' q' ts, a.left ts, b.left (after p' ts));
    }

-- any token, with any mark
pub same_one : (t : Token) (m : ℕ) → Same (token t m done) one
unfolding place after
same_one t m = record { placed = λ ts. refl; left = λ ts. refl }

-- a chain's node holds what stood before its marker and what was made since
pub same_node : (k m m' : ℕ) (a i p : Skeleton) → Same (a ⧺ i) p → Same (node k m m' a i done) (nodes k p)
unfolding place after ◌⊕◌
same_node k m m' a i p s =
    record {
      placed = λ ts.
          let u = drop_trivia ts in
          let e : place a u ⊕ place i (after a u) ≡ place p u = sym (place_join a i u) ∙ s.placed u in
          ap (λ (c : Tree). lead ts ⊕ subtree k c nil) e;
      left = λ ts. sym (after_join a i (drop_trivia ts)) ∙ s.left (drop_trivia ts);
    }

-- an ignored marker is nothing
pub same_ignored : (m m' : ℕ) (a i p : Skeleton) → Same (a ⧺ i) p → Same (ignored m m' a i done) p
unfolding place after ◌⊕◌
same_ignored m m' a i p s =
    record {
      placed = λ ts. ap (place a ts ⊕◌) (beside_nil (place i (after a ts))) ∙ sym (place_join a i ts) ∙ s.placed ts;
      left = λ ts. sym (after_join a i ts) ∙ s.left ts;
    }
