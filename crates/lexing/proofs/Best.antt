-- What the definitions' search finds, said with their test: of the rules that a text fits, the first; of the lengths at
-- which one does, the greatest.
use Prim.Native.Nat.{ℕ, zero, suc, ◌≤◌, ◌<◌}
use native.Mathlib.Omega.{arith}
use mathlib.Core.Path.{◌≡◌, refl, ap, subst}
use mathlib.Core.Logic.{◌⊎◌, inl, inr}
use mathlib.Core.Bool.{Bool, true, false, cond}
use mathlib.Core.List.{List, [], ◌∷◌}
use lib.Dec.{leb}
use lib.ListN.{take}
use borrow.Author.Tests.{leb-true, leb-false}
use Rattle.definitions.specs.Pattern.{fits}
use Rattle.definitions.specs.Rules.{Rule, rules}
use Rattle.definitions.specs.Lex.{Match, no_match, matched, else, first_rule, longest}
use Rattle.basics.proofs.Lists.{first_same, rest_same, none_some}
use Rattle.lexing.specs.ByRules.{Member}

-- ---------------------------------------------------------------- members

pub no_member : {q : Rule} {others : List Rule} → Member q [] others → ⊥
no_member {others = []} m = none_some m.stands
no_member {others = x ∷ others} m = none_some m.stands

-- what stands in a list stands in one that is longer by a rule
pub one_on : {q r : Rule} {rs others : List Rule} → Member q rs others → Member q (r ∷ rs) (r ∷ others)
one_on {r = r} m = record { behind = m.behind; stands = ap (λ (l : List Rule). r ∷ l) m.stands }

-- a member is the first rule, or one of those that follow
pub first_or : {q r : Rule} {rs : List Rule} (others : List Rule) → Member q (r ∷ rs) others → (r ≡ q) ⊎ ((l : List Rule) × Member q rs l)
first_or [] m = inl (first_same m.stands)
first_or (x ∷ others) m = inr (others, record { behind = m.behind; stands = rest_same m.stands })

-- ---------------------------------------------------------------- the first rule

-- none of these rules is one that the text fits
abbrev pub NoneFits : List Rule → List ℕ → Type 0
NoneFits rs u = (q : Rule) (others : List Rule) → Member q rs others → fits q.pattern u ≡ false

-- r stands in rs after `before`, the text fits it and none of these
pub record First (rs : List Rule) (u : List ℕ) (before : List Rule) (r : Rule) : Type 0 where
  pub a_rule : Member r rs before
  pub it_fits : fits r.pattern u ≡ true
  pub none_before : NoneFits before u

pub none_on : (r : Rule) (rs : List Rule) (u : List ℕ) → fits r.pattern u ≡ false → NoneFits rs u → NoneFits (r ∷ rs) u
none_on r rs u e n q others m = by (first_or others m)
  where
    by : (r ≡ q) ⊎ ((l : List Rule) × Member q rs l) → fits q.pattern u ≡ false
    by (inl s) = subst (λ (r : Rule). fits r.pattern u ≡ false) s e
    by (inr l) = n q l.0 l.1

pub data IsFirst (n : ℕ) (rs : List Rule) (u : List ℕ) : Match → Type 0 where
  there_is_none : NoneFits rs u → IsFirst n rs u no_match
  there_is : (before : List Rule) (r : Rule) → First rs u before r → IsFirst n rs u (matched n r.kind r.callback)

pub is_first : (n : ℕ) (rs : List Rule) (u : List ℕ) → IsFirst n rs u (first_rule n rs u)
unfolding first_rule
is_first n [] u = there_is_none (λ q others m. absurd (no_member m))
is_first n (r ∷ rs) u = by (fits r.pattern u) refl (first_rule n rs u) (is_first n rs u)
  where
    by : (f : Bool) → fits r.pattern u ≡ f → (m : Match) → IsFirst n rs u m
        → IsFirst n (r ∷ rs) u (cond f (matched n r.kind r.callback) m)
    by true e m i =
        there_is [] r (record { a_rule = record { behind = rs; stands = refl }; it_fits = e; none_before = λ q others m. absurd (no_member m) })
    by false e m (there_is_none n) = there_is_none (none_on r rs u e n)
    by false e m (there_is before q i) =
        there_is (r ∷ before) q (record { a_rule = one_on i.a_rule; it_fits = i.it_fits; none_before = none_on r before u e i.none_before })

-- ---------------------------------------------------------------- the greatest length

-- of the lengths above n, up to k, none at which a rule fits
abbrev pub NoneAbove : ℕ → ℕ → List ℕ → Type 0
NoneAbove n k s = (m : ℕ) → n < m → m ≤ k → NoneFits rules (take m s)

pub data IsLongest (k : ℕ) (s : List ℕ) : Match → Type 0 where
  at_none : NoneAbove 0 k s → IsLongest k s no_match
  at_one : (n : ℕ) (before : List Rule) (r : Rule) → 1 ≤ n → n ≤ k → First rules (take n s) before r → NoneAbove n k s
      → IsLongest k s (matched n r.kind r.callback)

none_above_on : (n k : ℕ) (s : List ℕ) → NoneFits rules (take (suc k) s) → NoneAbove n k s → NoneAbove n (suc k) s
none_above_on n k s e a m h i = by (leb m k) refl
  where
    by : (f : Bool) → leb m k ≡ f → NoneFits rules (take m s)
    by true l = a m h (leb-true m k l)
    by false l =
        let g = leb-false m k l in
        let j : suc k ≡ m = omega (arith, i, g) in
        subst (λ (m : ℕ). NoneFits rules (take m s)) j e

pub is_longest : (k : ℕ) (s : List ℕ) → IsLongest k s (longest k s)
unfolding longest
is_longest zero s = at_none (λ m h i. absurd (omega (arith, h, i)))
is_longest (suc k) s = by (first_rule (suc k) rules (take (suc k) s)) (is_first (suc k) rules (take (suc k) s)) (longest k s) (is_longest k s)
  where
    on : (m : Match) → NoneFits rules (take (suc k) s) → IsLongest k s m → IsLongest (suc k) s m
    on m e (at_none a) = at_none (none_above_on 0 k s e a)
    on m e (at_one n before r h i f a) = at_one n before r h (omega (arith, i)) f (none_above_on n k s e a)

    by : (m : Match) → IsFirst (suc k) rules (take (suc k) s) m → (l : Match) → IsLongest k s l → IsLongest (suc k) s (else m l)
    by m (there_is_none e) l i = on l e i
    by m (there_is before r f) l i = at_one (suc k) before r (omega arith) (omega arith) f (λ m h j. absurd (omega (arith, h, j)))
