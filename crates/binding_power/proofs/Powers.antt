-- LEVELS of the code is the definitions' list, proved once over the whole table; and the powers of a level.
use Prim.Native.Nat.{ℕ, ◌-◌, ◌≤◌, ◌<◌}
use mathlib.Core.Path.{◌≡◌, refl, sym, ap, ◌∙◌}
use mathlib.Core.Bool.{Bool, true, false, cond}
use mathlib.Core.List.{List, [], ◌∷◌}
use native.Mathlib.Omega.{arith}
use lib.Dec.{leb, eqb}
use lib.ListN.{get_or}
use borrow.Author.Tests.{leb-true, eqb-true, ne_eqb, eq-eqb, le-leb, lt-leb}
use Rattle.basics.proofs.Below.{all_below, at_below}
use Rattle.definitions.specs.TokenKind as K
use Rattle.definitions.specs.Token.{one_of}
use Rattle.definitions.specs.BindingPower.{binary_levels, left_power, right_power}
use Rattle.binding_power.specs.Power.{level_in, worked_out, left_of, right_of, is_binary}

-- ---------------------------------------------------------------- levels

abbrev pub table : List ℕ
table =
    5 ∷ 0 ∷ 0 ∷ 0 ∷ 0 ∷ 0 ∷ 0 ∷ 0 ∷ 0 ∷ 7 ∷ 7 ∷ 0 ∷ 0 ∷ 9 ∷ 9 ∷ 10 ∷ 10 ∷ 10 ∷ 3 ∷ 4 ∷ 0 ∷ 8 ∷ 8 ∷ 2 ∷ 1 ∷ 0 ∷ 7 ∷ 7 ∷ 6 ∷ 6 ∷ []

-- what the code gives for a kind, by its two tests
abbrev look : Bool → Bool → ℕ → ℕ
look low high k = cond low (cond high (get_or table (k - K.Ampersand) 0) 0) 0

-- two tests with one outcome
same : Bool → Bool → Bool
same true b = b
same false b = cond b false true

same_true : (a b : Bool) → same a b ≡ true → a ≡ b
unfolding same
same_true true b e = sym e
same_true false true e = e
same_true false false e = refl

-- the table has the definitions' level; a level is at most 10; and a kind with a level is a binary operator
right : ℕ → Bool
right k = eqb (look (leb K.Ampersand k) (leb k K.RelationalNeq) k) (level_in binary_levels k)

bounded : ℕ → Bool
bounded k = leb (level_in binary_levels k) 10

binary : ℕ → Bool
binary k = same (is_binary k) (cond (eqb (level_in binary_levels k) 0) false true)

all_right : all_below right 256 ≡ true
unfolding all_below right level_in one_of
all_right = refl

all_bounded : all_below bounded 256 ≡ true
unfolding all_below bounded level_in one_of
all_bounded = refl

all_binary : all_below binary 256 ≡ true
unfolding all_below binary same level_in is_binary one_of
all_binary = refl

-- by where the kind stands
module _ (k : ℕ) (h : k < 256) where
  found : (low high : Bool) → leb K.Ampersand k ≡ low → leb k K.RelationalNeq ≡ high → look low high k ≡ level_in binary_levels k
  unfolding right
  found low high e f = rw (← e, ← f) (eqb-true (look (leb K.Ampersand k) (leb k K.RelationalNeq) k) (level_in binary_levels k) (at_below right 256 k all_right h))

  pub level_inside : K.Ampersand ≤ k → k ≤ K.RelationalNeq → get_or table (k - K.Ampersand) 0 ≡ level_in binary_levels k
  level_inside a b = found true true (le-leb K.Ampersand k a) (le-leb k K.RelationalNeq b)

  pub level_below : k < K.Ampersand → 0 ≡ level_in binary_levels k
  level_below a = found false (leb k K.RelationalNeq) (lt-leb K.Ampersand k a) refl

  pub level_above : K.Ampersand ≤ k → K.RelationalNeq < k → 0 ≡ level_in binary_levels k
  level_above a b = found true false (le-leb K.Ampersand k a) (lt-leb k K.RelationalNeq b)

pub level_small : (k n : ℕ) → k < 256 → n ≡ level_in binary_levels k → n ≤ 10
unfolding bounded
level_small k n h e = let z = leb-true (level_in binary_levels k) 10 (at_below bounded 256 k all_bounded h) in omega (arith, z, e)

pub inside_small : (k : ℕ) → k < 256 → K.Ampersand ≤ k → k ≤ K.RelationalNeq → get_or table (k - K.Ampersand) 0 ≤ 10
inside_small k h a b = level_small k (get_or table (k - K.Ampersand) 0) h (level_inside k h a b)

-- what `level` asks
pub ruleset levels = (level_inside, level_below, level_above, inside_small)

-- ---------------------------------------------------------------- powers, for any level

-- the two powers, and whether the operator is binary
abbrev PowersAre : ℕ → ℕ → ℕ → Bool → Type 0
PowersAre k l r b = (l ≡ left_of k) × ((r ≡ right_of k) × (b ≡ is_binary k))

pub ternary_powers : PowersAre K.QuestionMark 2 1 false
unfolding left_of right_of is_binary one_of level_in
ternary_powers = (refl, (refl, refl))

-- a kind that is not the ternary's, and its level
module _ (k n : ℕ) (small : k < 256) (other : k ≡ K.QuestionMark → ⊥) (e : n ≡ level_in binary_levels k) where
  not_ternary : one_of (K.QuestionMark ∷ []) k ≡ false
  unfolding one_of
  not_ternary = ap (λ (b : Bool). cond b true false) (ne_eqb K.QuestionMark k (λ i. other (sym i)))

  from_level : (t : ℕ) (power : ℕ → ℕ) → worked_out power n ≡ cond (one_of (K.QuestionMark ∷ []) k) t (worked_out power (level_in binary_levels k))
  from_level t power = ap (worked_out power) e ∙ ap (λ (b : Bool). cond b t (worked_out power (level_in binary_levels k))) (sym not_ternary)

  binary_level : cond (eqb n 0) false true ≡ is_binary k
  unfolding binary
  binary_level =
      ap (λ (n : ℕ). cond (eqb n 0) false true) e
      ∙ sym (same_true (is_binary k) (cond (eqb (level_in binary_levels k) 0) false true) (at_below binary 256 k all_binary small))

  -- by whether there is one
  by_level : (none : Bool) → eqb n 0 ≡ none → PowersAre k (cond none 0 (left_power n)) (cond none 0 (right_power n)) (cond none false true)
  unfolding left_of right_of
  by_level none z = (
    ap (λ (b : Bool). cond b 0 (left_power n)) (sym z) ∙ from_level 2 left_power,
    (
      ap (λ (b : Bool). cond b 0 (right_power n)) (sym z) ∙ from_level 1 right_power,
      ap (λ (b : Bool). cond b false true) (sym z) ∙ binary_level,
    ),
  )

  pub no_powers : n ≡ 0 → PowersAre k 0 0 false
  no_powers z = by_level true (eq-eqb n 0 z)

  pub level_powers : (n ≡ 0 → ⊥) → PowersAre k (left_power n) (right_power n) true
  level_powers z = by_level false (ne_eqb n 0 z)
