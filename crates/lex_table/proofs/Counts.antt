-- How many of some rules pass a test, how many a text fits among them: a rule that passes counts, and where one does at
-- most there are no two. A byte that is read changes the rules for what is left of them, and not the count.
use Prim.Native.Nat.{ℕ, suc, ◌≤◌}
use native.Mathlib.Omega.{arith}
use mathlib.Core.Path.{◌≡◌, refl, sym, ◌∙◌, ap}
use mathlib.Core.Bool.{Bool, true, false, cond}
use mathlib.Core.List.{List, [], ◌∷◌}
use lib.ListN.{length}
use Rattle.basics.proofs.Lists.{first_same, rest_same}
use Rattle.definitions.specs.Pattern.{Pattern, fits}
use Rattle.definitions.specs.Rules.{Rule}
use Rattle.patterns.specs.Remainder.{fits_empty, is_nothing, after}
use Rattle.patterns.proofs.Plain.{nothing_is}
use Rattle.patterns.proofs.Remainder.{remainders}
use Rattle.lexing.specs.ByRules.{Member}
use Rattle.lexing.specs.Scan.{go_on}
use Rattle.lexing.proofs.Best.{no_member}

unfoldable pub count : (Pattern → Bool) → List Rule → ℕ
count f [] = 0
count f (r ∷ rs) =
    let n = count f rs in
    cond (f r.pattern) (suc n) n

-- of how many the text fits the pattern
abbrev pub fitting : List ℕ → List Rule → ℕ
fitting u rs = count (λ (p : Pattern). fits p u) rs

-- ---------------------------------------------------------------- members

pub at_most_all : (f : Pattern → Bool) (rs : List Rule) → count f rs ≤ length rs
unfolding count
at_most_all f [] = omega arith
at_most_all f (r ∷ rs) = go (f r.pattern) (at_most_all f rs)
  where
    go : (t : Bool) → count f rs ≤ length rs → cond t (suc (count f rs)) (count f rs) ≤ suc (length rs)
    go true h = omega (arith, h)
    go false h = omega (arith, h)

-- those that follow are no more
no_fewer : (f : Pattern → Bool) (r : Rule) (rs : List Rule) → count f rs ≤ count f (r ∷ rs)
unfolding count
no_fewer f r rs = go (f r.pattern)
  where
    go : (t : Bool) → count f rs ≤ cond t (suc (count f rs)) (count f rs)
    go true = omega arith
    go false = omega arith

first_counts : (f : Pattern → Bool) (r : Rule) (rs : List Rule) → f r.pattern ≡ true → count f (r ∷ rs) ≡ suc (count f rs)
unfolding count
first_counts f r rs e = ap (λ (t : Bool). cond t (suc (count f rs)) (count f rs)) e

pub member_counts : (f : Pattern → Bool) (rs a : List Rule) (r : Rule) → Member r rs a → f r.pattern ≡ true → 1 ≤ count f rs
member_counts f [] a r m e = absurd (no_member m)
member_counts f (x ∷ rs) [] r m e =
    let c = first_counts f x rs (ap (λ (q : Rule). f q.pattern) (first_same m.stands) ∙ e) in
    omega (arith, c)
member_counts f (x ∷ rs) (y ∷ a) r m e =
    let c = member_counts f rs a r (record { behind = m.behind; stands = rest_same m.stands }) e in
    omega (arith, c, no_fewer f x rs)

-- where one passes at most, two that pass are one
pub one_place : (f : Pattern → Bool) (rs a b : List Rule) (r q : Rule) → Member r rs a → Member q rs b
    → f r.pattern ≡ true → f q.pattern ≡ true → count f rs ≤ 1 → (a ≡ b) × (r ≡ q)
one_place f [] a b r q m n e g h = absurd (no_member m)
one_place f (x ∷ rs) [] [] r q m n e g h = (refl, sym (first_same m.stands) ∙ first_same n.stands)
one_place f (x ∷ rs) [] (z ∷ b) r q m n e g h =
    let c = first_counts f x rs (ap (λ (y : Rule). f y.pattern) (first_same m.stands) ∙ e) in
    let d = member_counts f rs b q (record { behind = n.behind; stands = rest_same n.stands }) g in
    absurd (omega (arith, c, d, h))
one_place f (x ∷ rs) (y ∷ a) [] r q m n e g h =
    let c = first_counts f x rs (ap (λ (y : Rule). f y.pattern) (first_same n.stands) ∙ g) in
    let d = member_counts f rs a r (record { behind = m.behind; stands = rest_same m.stands }) e in
    absurd (omega (arith, c, d, h))
one_place f (x ∷ rs) (y ∷ a) (z ∷ b) r q m n e g h =
    let (s, t) =
    one_place f rs a b r q (record { behind = m.behind; stands = rest_same m.stands })
    (record { behind = n.behind; stands = rest_same n.stands }) e g (omega (arith, h, no_fewer f x rs)) in
    let w : y ≡ z = sym (first_same m.stands) ∙ first_same n.stands in
    ((λ i. w i ∷ s i), t)

-- ---------------------------------------------------------------- a byte that is read, and none

nothing_fits : (p : Pattern) (u : List ℕ) → is_nothing p ≡ true → fits p u ≡ false
unfolding fits
nothing_fits p u e = ap (λ (q : Pattern). fits q u) (nothing_is p e)

pub one_read : (b : ℕ) (u : List ℕ) (rs : List Rule) → fitting (b ∷ u) rs ≡ fitting u (go_on b rs)
unfolding count go_on
one_read b u [] = refl
one_read b u (r ∷ rs) = go (is_nothing p) refl (one_read b u rs)
  where
    p : Pattern
    p = after b r.pattern

    l : List Rule
    l = go_on b rs

    go : (t : Bool) → is_nothing p ≡ t → fitting (b ∷ u) rs ≡ fitting u l
        → cond (fits r.pattern (b ∷ u)) (suc (fitting (b ∷ u) rs)) (fitting (b ∷ u) rs)
        ≡ fitting u (cond t l (record { kind = r.kind; pattern = p; callback = r.callback } ∷ l))
    go true e i =
        let f = remainders.at_byte r.pattern b u ∙ nothing_fits p u e in
        λ k. cond (f k) (suc (i k)) (i k)
    go false e i =
        let f = remainders.at_byte r.pattern b u in
        λ k. cond (f k) (suc (i k)) (i k)

pub none_read : (rs : List Rule) → fitting [] rs ≡ count fits_empty rs
unfolding count
none_read [] = refl
none_read (r ∷ rs) =
    let e = remainders.at_end r.pattern in
    let i = none_read rs in
    λ k. cond (e k) (suc (i k)) (i k)
