-- The powers of an expression's outermost operator, and what a place in an expression asks, by powers and by C's
-- numbers.
use Prim.Native.Nat.{ℕ, suc, ◌+◌, ◌*◌, ◌-◌, ◌≤◌, ◌<◌}
use native.Mathlib.Omega.{arith}
use mathlib.Core.Path.{◌≡◌, refl}
use mathlib.Core.Logic.{◌⊎◌, inl, inr}
use Rattle.definitions.specs.C.{plain, line_of, Expr, literal, name, invocation, bracketed, prefix, binary, ternary, precedence, WellFormed}
use Rattle.precedence.proofs.Pratt.{Operator, asks, binds, none, operator}
use Rattle.precedence.proofs.Tables.{Powers, OperatorOf, operator_of}

-- an operand and a prefix have what the rule of the binary operators makes of 1 and 2
abbrev pub lb : Expr → ℕ
lb (literal k) = 25
lb name = 25
lb (invocation xs) = 25
lb (bracketed e) = 25
lb (prefix k e) = 23
lb (binary l k r) = 27 - 2 * line_of k
lb (ternary c a b) = 2

abbrev pub rb : Expr → ℕ
rb (literal k) = 26
rb name = 26
rb (invocation xs) = 26
rb (bracketed e) = 26
rb (prefix k e) = 24
rb (binary l k r) = 28 - 2 * line_of k
rb (ternary c a b) = 1

-- p: the expression's number
pub record Plain (p l r : ℕ) : Type 0 where
  pub left_is : l + 2 * p ≡ 27
  pub right_is : r ≡ suc l
  pub low : 1 ≤ p
  pub high : p ≤ 12

pub record Asks (p l r : ℕ) : Type 0 where
  pub left_is : l ≡ 2
  pub right_is : r ≡ 1
  pub number_is : p ≡ 13

abbrev pub Has : Expr → Type 0
Has e = Plain (precedence e) (lb e) (rb e) ⊎ Asks (precedence e) (lb e) (rb e)

high_from : (k : ℕ) (x : Operator) → OperatorOf k x → line_of k ≤ 12
high_from k asks h = omega arith
high_from k (binds j l r) h = omega arith
high_from k none h = omega arith

has_binary : (k : ℕ) → 1 ≤ line_of k → Plain (line_of k) (27 - 2 * line_of k) (28 - 2 * line_of k)
has_binary k h =
    let z = high_from k (operator (plain k)) (operator_of k) in
    record { left_is = omega arith; right_is = omega arith; low = h; high = z }

pub powers : (e : Expr) → WellFormed e → Has e
powers (literal k) a = inl (record { left_is = refl; right_is = refl; low = omega arith; high = omega arith })
powers name a = inl (record { left_is = refl; right_is = refl; low = omega arith; high = omega arith })
powers (invocation xs) a = inl (record { left_is = refl; right_is = refl; low = omega arith; high = omega arith })
powers (bracketed e) a = inl (record { left_is = refl; right_is = refl; low = omega arith; high = omega arith })
powers (prefix k e) a = inl (record { left_is = refl; right_is = refl; low = omega arith; high = omega arith })
powers (binary l k r) a = inl (has_binary k a.0)
powers (ternary c x b) a = inr (record { left_is = refl; right_is = refl; number_is = refl })

-- what a place asks of what stands there, given the powers l, r of the operator k
module _ (e : Expr) (has : Has e) where
  pub under_prefix : 23 ≤ lb e → precedence e ≤ 2
  under_prefix h = go has
    where
      go : Has e → precedence e ≤ 2
      go (inl p) = omega arith
      go (inr p) = omega arith

  pub under_prefix' : precedence e ≤ 2 → 23 ≤ lb e
  under_prefix' h = go has
    where
      go : Has e → 23 ≤ lb e
      go (inl p) = omega arith
      go (inr p) = omega arith

  pub as_left : (n l r : ℕ) → Powers n l r → l < rb e → precedence e ≤ n
  as_left n l r q h = go has
    where
      go : Has e → precedence e ≤ n
      go (inl p) = omega arith
      go (inr p) = omega arith

  pub as_left' : (n l r : ℕ) → Powers n l r → precedence e ≤ n → (l < rb e) × (l ≤ lb e)
  as_left' n l r q h = go has
    where
      go : Has e → (l < rb e) × (l ≤ lb e)
      go (inl p) = omega arith
      go (inr p) = omega arith

  pub as_right : (n l r : ℕ) → Powers n l r → r ≤ lb e → precedence e < n
  as_right n l r q h = go has
    where
      go : Has e → precedence e < n
      go (inl p) = omega arith
      go (inr p) = omega arith

  pub as_right' : (n l r : ℕ) → Powers n l r → precedence e < n → r ≤ lb e
  as_right' n l r q h = go has
    where
      go : Has e → r ≤ lb e
      go (inl p) = omega arith
      go (inr p) = omega arith

  pub as_condition : 2 < rb e → precedence e < 13
  as_condition h = go has
    where
      go : Has e → precedence e < 13
      go (inl p) = omega arith
      go (inr p) = omega arith

  pub as_condition' : precedence e < 13 → (2 < rb e) × (2 ≤ lb e)
  as_condition' h = go has
    where
      go : Has e → (2 < rb e) × (2 ≤ lb e)
      go (inl p) = omega arith
      go (inr p) = omega arith

  pub as_branch : 1 ≤ lb e
  as_branch = go has
    where
      go : Has e → 1 ≤ lb e
      go (inl p) = omega arith
      go (inr p) = omega arith
