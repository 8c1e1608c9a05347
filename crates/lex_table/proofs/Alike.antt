-- Two bytes that stand in the same classes of a pattern leave the same of it, and of all that is left of it later. So
-- the rules tell few bytes apart, and the table has to be computed at those only.
use Prim.Native.Nat.{ℕ}
use mathlib.Core.Path.{◌≡◌, refl, ap}
use mathlib.Core.Bool.{Bool, true, false, cond, beq, ◌&&◌, false≢true}
use mathlib.Core.List.{List, [], ◌∷◌}
use Rattle.basics.proofs.Tests.{cond-all, and_left, and_right, and_both}
use Rattle.definitions.specs.Pattern.{Pattern, nothing, empty, one, other, ◌then◌, ◌or◌, many, within}
use Rattle.definitions.specs.Rules.{Rule}
use Rattle.patterns.specs.Remainder.{fits_empty, is_nothing, is_empty, and_then, or_else, after}
use Rattle.lexing.specs.Scan.{go_on}

-- ---------------------------------------------------------------- in a pattern

unfoldable pub alike : ℕ → ℕ → Pattern → Bool
unfolding within
alike b c nothing = true
alike b c empty = true
alike b c (one k) = beq (within k b) (within k c)
alike b c (other k) = beq (within k b) (within k c)
alike b c (p then q) = alike b c p && alike b c q
alike b c (p or q) = alike b c p && alike b c q
alike b c (many p) = alike b c p

same : (x y : Bool) → beq x y ≡ true → x ≡ y
same true true h = refl
same true false h = absurd (false≢true h)
same false true h = absurd (false≢true h)
same false false h = refl

same_after : (b c : ℕ) (p : Pattern) → alike b c p ≡ true → after b p ≡ after c p
unfolding alike after
same_after b c nothing h = refl
same_after b c empty h = refl
same_after b c (one k) h = ap (λ (t : Bool). cond t empty nothing) (same (within k b) (within k c) h)
same_after b c (other k) h = ap (λ (t : Bool). cond t nothing empty) (same (within k b) (within k c) h)
same_after b c (p then q) h =
    let e = same_after b c p (and_left (alike b c p) (alike b c q) h) in
    let f = same_after b c q (and_right (alike b c p) (alike b c q) h) in
    λ i. or_else (and_then (e i) q) (cond (fits_empty p) (f i) nothing)
same_after b c (p or q) h =
    let e = same_after b c p (and_left (alike b c p) (alike b c q) h) in
    let f = same_after b c q (and_right (alike b c p) (alike b c q) h) in
    λ i. or_else (e i) (f i)
same_after b c (many p) h = ap (λ (r : Pattern). and_then r (many p)) (same_after b c p h)

-- what is left has no classes of its own
in_then : (b c : ℕ) (p q : Pattern) → alike b c p ≡ true → alike b c q ≡ true → alike b c (and_then p q) ≡ true
unfolding alike
in_then b c p q h k =
    let P : Pattern → Type 0 = λ (r : Pattern). alike b c r ≡ true in
    cond-all P (is_nothing p) refl (cond-all P (is_empty p) k (and_both h k))

in_or : (b c : ℕ) (p q : Pattern) → alike b c p ≡ true → alike b c q ≡ true → alike b c (or_else p q) ≡ true
unfolding alike
in_or b c p q h k =
    let P : Pattern → Type 0 = λ (r : Pattern). alike b c r ≡ true in
    cond-all P (is_nothing p) k (cond-all P (is_nothing q) h (and_both h k))

still_alike : (a b c : ℕ) (p : Pattern) → alike b c p ≡ true → alike b c (after a p) ≡ true
unfolding alike after
still_alike a b c nothing h = refl
still_alike a b c empty h = refl
still_alike a b c (one k) h = cond-all (λ (r : Pattern). alike b c r ≡ true) (within k a) refl refl
still_alike a b c (other k) h = cond-all (λ (r : Pattern). alike b c r ≡ true) (within k a) refl refl
still_alike a b c (p then q) h =
    let l = and_left (alike b c p) (alike b c q) h in
    let r = and_right (alike b c p) (alike b c q) h in
    in_or b c (and_then (after a p) q) (cond (fits_empty p) (after a q) nothing)
    (in_then b c (after a p) q (still_alike a b c p l) r)
    (cond-all (λ (x : Pattern). alike b c x ≡ true) (fits_empty p) (still_alike a b c q r) refl)
still_alike a b c (p or q) h =
    in_or b c (after a p) (after a q) (still_alike a b c p (and_left (alike b c p) (alike b c q) h))
    (still_alike a b c q (and_right (alike b c p) (alike b c q) h))
still_alike a b c (many p) h = in_then b c (after a p) (many p) (still_alike a b c p h) h

-- ---------------------------------------------------------------- in rules

unfoldable pub alike_in : ℕ → ℕ → List Rule → Bool
unfolding alike
alike_in b c [] = true
alike_in b c (r ∷ rs) = alike b c r.pattern && alike_in b c rs

pub same_on : (b c : ℕ) (rs : List Rule) → alike_in b c rs ≡ true → go_on b rs ≡ go_on c rs
unfolding alike_in go_on
same_on b c [] h = refl
same_on b c (r ∷ rs) h =
    let e = same_after b c r.pattern (and_left (alike b c r.pattern) (alike_in b c rs) h) in
    let f = same_on b c rs (and_right (alike b c r.pattern) (alike_in b c rs) h) in
    λ i. cond (is_nothing (e i)) (f i) (record { kind = r.kind; pattern = e i; callback = r.callback } ∷ f i)

pub still_alike_in : (a b c : ℕ) (rs : List Rule) → alike_in b c rs ≡ true → alike_in b c (go_on a rs) ≡ true
unfolding alike_in go_on
still_alike_in a b c [] h = refl
still_alike_in a b c (r ∷ rs) h =
    let l = still_alike a b c r.pattern (and_left (alike b c r.pattern) (alike_in b c rs) h) in
    let k = still_alike_in a b c rs (and_right (alike b c r.pattern) (alike_in b c rs) h) in
    cond-all (λ (x : List Rule). alike_in b c x ≡ true) (is_nothing (after a r.pattern)) k (and_both l k)
