-- What is known of a token stays right: after a join, a weakening and a test.
use Prim.Native.Nat.{ℕ}
use mathlib.Core.Path.{◌≡◌, refl, sym, ap, subst, ◌∙◌}
use mathlib.Core.Bool.{Bool, true, false, cond, not, ◌||◌, false≢true, true≢false}
use mathlib.Core.List.{List, [], ◌∷◌}
use lib.Dec.{eqb}
use borrow.Author.Tests.{eqb-true}
use Rattle.definitions.specs.Token.{Token, seen, one_of, first_in, ended}
use Rattle.basics.proofs.Tests.{cond-with, and_left, and_right}
use Rattle.laws.proofs.FactsHold.{or_left, or_right}
use Rattle.facts.proofs.Known.{Kinds, some, all, Known, never, is_among, merge, union, sift, keep, leave, inside, kinds_within, ◌∪◌, within, seen_in, not_in, at_end, not_at_end, knows}

-- ---------------------------------------------------------------- sets of kinds

-- either the first, or one of those after it
one_of_ways : (P : Type 0) (x : ℕ) (xs : List ℕ) (k : ℕ) → one_of (x ∷ xs) k ≡ true → (eqb x k ≡ true → P) → (one_of xs k ≡ true → P) → P
unfolding one_of
one_of_ways P x xs k h p q = go (eqb x k) refl h
  where
    go : (b : Bool) → eqb x k ≡ b → cond b true (one_of xs k) ≡ true → P
    go true e g = p e
    go false e g = q g

one_of_first : (x : ℕ) (xs : List ℕ) (k : ℕ) → eqb x k ≡ true → one_of (x ∷ xs) k ≡ true
unfolding one_of
one_of_first x xs k e = ap (λ (b : Bool). cond b true (one_of xs k)) e

one_of_next : (x : ℕ) (xs : List ℕ) (k : ℕ) → one_of xs k ≡ true → one_of (x ∷ xs) k ≡ true
unfolding one_of
one_of_next x xs k e = cond-with (λ (b : Bool). b ≡ true) (eqb x k) (λ _. refl) (λ _. e)

merge_right : (js ks : List ℕ) (k : ℕ) → one_of ks k ≡ true → one_of (merge js ks) k ≡ true
unfolding merge
merge_right [] ks k h = h
merge_right (j ∷ js) ks k h =
    cond-with (λ (l : List ℕ). one_of l k ≡ true) (one_of ks j) (λ _. merge_right js ks k h) (λ _. one_of_next j (merge js ks) k (merge_right js ks k h))

merge_left : (js ks : List ℕ) (k : ℕ) → one_of js k ≡ true → one_of (merge js ks) k ≡ true
unfolding merge one_of
merge_left [] ks k h = absurd (false≢true h)
merge_left (j ∷ js) ks k h =
    cond-with (λ (l : List ℕ). one_of l k ≡ true) (one_of ks j)
    (λ e. one_of_ways _ j js k h (λ i. merge_right js ks k (subst (λ (x : ℕ). one_of ks x ≡ true) (eqb-true j k i) e)) (λ i. merge_left js ks k i))
    (λ e. one_of_ways _ j js k h (λ i. one_of_first j (merge js ks) k i) (λ i. one_of_next j (merge js ks) k (merge_left js ks k i)))

union_left : (d e : Kinds) (k : ℕ) → is_among d k ≡ true → is_among (union d e) k ≡ true
unfolding union is_among
union_left all e k h = refl
union_left (some js) all k h = refl
union_left (some js) (some ks) k h = merge_left js ks k h

union_right : (d e : Kinds) (k : ℕ) → is_among e k ≡ true → is_among (union d e) k ≡ true
unfolding union is_among
union_right all e k h = refl
union_right (some js) all k h = refl
union_right (some js) (some ks) k h = merge_right js ks k h

-- a test that came out so
sift_true : (ks js : List ℕ) (k : ℕ) → one_of ks k ≡ true → one_of js k ≡ true → one_of (sift true ks js) k ≡ true
unfolding sift one_of
sift_true ks [] k t h = absurd (false≢true h)
sift_true ks (j ∷ js) k t h =
    cond-with (λ (l : List ℕ). one_of l k ≡ true) (one_of ks j)
    (λ e. one_of_ways _ j js k h (λ i. one_of_first j (sift true ks js) k i) (λ i. one_of_next j (sift true ks js) k (sift_true ks js k t i)))
    (λ e. one_of_ways _ j js k h (λ i. absurd (false≢true (sym e ∙ subst (λ (x : ℕ). one_of ks x ≡ true) (sym (eqb-true j k i)) t))) (λ i. sift_true ks js k t i))

sift_false : (ks js : List ℕ) (k : ℕ) → one_of ks k ≡ false → one_of js k ≡ true → one_of (sift false ks js) k ≡ true
unfolding sift one_of
sift_false ks [] k t h = absurd (false≢true h)
sift_false ks (j ∷ js) k t h =
    cond-with (λ (l : List ℕ). one_of l k ≡ true) (one_of ks j)
    (λ e. one_of_ways _ j js k h (λ i. absurd (true≢false (sym e ∙ subst (λ (x : ℕ). one_of ks x ≡ false) (sym (eqb-true j k i)) t))) (λ i. sift_false ks js k t i))
    (λ e. one_of_ways _ j js k h (λ i. one_of_first j (sift false ks js) k i) (λ i. one_of_next j (sift false ks js) k (sift_false ks js k t i)))

keep_among : (ks : List ℕ) (d : Kinds) (k : ℕ) → one_of ks k ≡ true → is_among d k ≡ true → is_among (keep ks d) k ≡ true
unfolding keep is_among
keep_among ks all k t h = t
keep_among ks (some js) k t h = sift_true ks js k t h

leave_among : (ks : List ℕ) (d : Kinds) (k : ℕ) → one_of ks k ≡ false → is_among d k ≡ true → is_among (leave ks d) k ≡ true
unfolding leave is_among
leave_among ks all k t h = refl
leave_among ks (some js) k t h = sift_false ks js k t h

both_true : (b x : Bool) → cond b x false ≡ true → (b ≡ true) × (x ≡ true)
both_true true x e = (refl, e)
both_true false x e = absurd (false≢true e)

inside_one : (js ks : List ℕ) (k : ℕ) → inside js ks ≡ true → one_of js k ≡ true → one_of ks k ≡ true
unfolding inside one_of
inside_one [] ks k e h = absurd (false≢true h)
inside_one (j ∷ js) ks k e h =
    let w : (one_of ks j ≡ true) × (inside js ks ≡ true) = both_true (one_of ks j) (inside js ks) e in
    one_of_ways _ j js k h (λ g. subst (λ (x : ℕ). one_of ks x ≡ true) (eqb-true j k g) w.0) (λ g. inside_one js ks k w.1 g)

pub kinds_weaken : (d e : Kinds) (k : ℕ) → kinds_within d e ≡ true → is_among d k ≡ true → is_among e k ≡ true
unfolding kinds_within is_among
kinds_weaken all all k w h = refl
kinds_weaken (some js) all k w h = refl
kinds_weaken all (some ks) k w h = absurd (false≢true w)
kinds_weaken (some js) (some ks) k w h = inside_one js ks k w h

-- ---------------------------------------------------------------- what is known

pub never_knows : (l : List Token) → knows never l ≡ false
unfolding knows is_among one_of
never_knows [] = refl
never_knows (t ∷ ts) = refl

pub knows_left : (d e : Known) (l : List Token) → knows d l ≡ true → knows (d ∪ e) l ≡ true
unfolding knows ◌∪◌
knows_left d e [] h = or_left d.ended e.ended h
knows_left d e (t ∷ ts) h = union_left d.kinds e.kinds (seen t) h

pub knows_right : (d e : Known) (l : List Token) → knows e l ≡ true → knows (d ∪ e) l ≡ true
unfolding knows ◌∪◌
knows_right d e [] h = or_right d.ended e.ended h
knows_right d e (t ∷ ts) h = union_right d.kinds e.kinds (seen t) h

implied : (a b : Bool) → (not a || b) ≡ true → a ≡ true → b ≡ true
implied true b e h = e
implied false b e h = absurd (false≢true h)

pub knows_weaken : (d e : Known) (l : List Token) → within d e ≡ true → knows d l ≡ true → knows e l ≡ true
unfolding knows within
knows_weaken d e [] w h = implied d.ended e.ended (and_left _ (kinds_within d.kinds e.kinds) w) h
knows_weaken d e (t ∷ ts) w h = kinds_weaken d.kinds e.kinds (seen t) (and_right (not d.ended || e.ended) _ w) h

pub knows_seen : (ks : List ℕ) (d : Known) (l : List Token) → first_in ks l ≡ true → knows d l ≡ true → knows (seen_in ks d) l ≡ true
unfolding knows seen_in first_in
knows_seen ks d [] t h = absurd (false≢true t)
knows_seen ks d (x ∷ xs) t h = keep_among ks d.kinds (seen x) t h

pub knows_not : (ks : List ℕ) (d : Known) (l : List Token) → first_in ks l ≡ false → knows d l ≡ true → knows (not_in ks d) l ≡ true
unfolding knows not_in first_in
knows_not ks d [] t h = h
knows_not ks d (x ∷ xs) t h = leave_among ks d.kinds (seen x) t h

pub knows_end : (d : Known) (l : List Token) → ended l ≡ true → knows d l ≡ true → knows (at_end d) l ≡ true
unfolding knows at_end
knows_end d [] t h = h
knows_end d (x ∷ xs) t h = absurd (false≢true t)

pub knows_more : (d : Known) (l : List Token) → ended l ≡ false → knows d l ≡ true → knows (not_at_end d) l ≡ true
unfolding knows not_at_end
knows_more d [] t h = absurd (true≢false t)
knows_more d (x ∷ xs) t h = h
