-- The two tables beside each other: C's numbers and the definitions' binding powers, compared once for every kind.
use Prim.Native.Nat.{ℕ, suc, ◌+◌, ◌*◌, ◌≤◌, ◌<◌}
use native.Mathlib.Omega.{arith}
use mathlib.Core.Path.{◌≡◌, refl, ap, subst}
use mathlib.Core.Bool.{Bool, true, false, cond, ◌&&◌, false≢true}
use mathlib.Core.List.{List, [], ◌∷◌}
use lib.Dec.{leb, eqb, ltb}
use borrow.Author.Tests.{ltb-true, ltb-false, leb-true, eqb-true, ne_eqb}
use Rattle.basics.proofs.Below.{all_below, at_below}
use Rattle.definitions.specs.TokenKind as K
use Rattle.definitions.specs.Token.{one_of}
use Rattle.definitions.specs.BindingPower.{Level, binary_levels}
use Rattle.definitions.specs.Grammar.{PREFIX_OPERATORS_SET}
use Rattle.definitions.specs.C.{Symbol, plain, arguments, Line, table, line_in, line_of, prefix_operators}
use Rattle.precedence.specs.Tables.{Levels, NoneHas, TablesAgree}
use Rattle.precedence.proofs.Pratt.{Operand, prefixes, brackets, names, literals, nothing, operand, Operator, asks, binds, none, operator_in, operator, is}

-- ---------------------------------------------------------------- kinds of a set

pub both : (a b : Bool) → a && b ≡ true → (a ≡ true) × (b ≡ true)
both true b h = (refl, h)
both false b h = let z : ◌≡◌ {A = Bool} false true = h in (z, cc)

-- every kind of a set is at most 60
small : List ℕ → Bool
small [] = true
small (x ∷ xs) = leb x K.QuestionMark && small xs

one_of_large : (ks : List ℕ) (k : ℕ) → small ks ≡ true → K.QuestionMark < k → one_of ks k ≡ false
unfolding small one_of
one_of_large [] k h l = refl
one_of_large (x ∷ xs) k h l =
    let b = both (leb x K.QuestionMark) (small xs) h in
    let x-small = leb-true x K.QuestionMark b.0 in
    rw (ne_eqb x k (λ e. omega arith)) (one_of_large xs k b.1 l)

-- ---------------------------------------------------------------- numbers and powers

small_rows : List Line → Bool
small_rows [] = true
small_rows (r ∷ rs) = small r.operators && small_rows rs

number_large : (rs : List Line) (k : ℕ) → small_rows rs ≡ true → K.QuestionMark < k → line_in rs k ≡ 0
unfolding small_rows line_in
number_large [] k h l = refl
number_large (r ∷ rs) k h l =
    let b = both (small r.operators) (small_rows rs) h in
    rw (one_of_large r.operators k b.0 l) (number_large rs k b.1 l)

small_levels : List Level → Bool
small_levels [] = true
small_levels (l ∷ ls) = small l.kinds && small_levels ls

level_large : (ls : List Level) (k : ℕ) → small_levels ls ≡ true → K.QuestionMark < k → operator_in ls k ≡ none
unfolding small_levels operator_in
level_large [] k h l = refl
level_large (x ∷ xs) k h l =
    let b = both (small x.kinds) (small_levels xs) h in
    rw (one_of_large x.kinds k b.0 l) (level_large xs k b.1 l)

-- a kind k, its number p in C's table, and its place among the operators: left is 27 less twice the number, right is
-- one more
agree : ℕ → ℕ → Operator → Bool
agree k p asks = eqb k K.QuestionMark && eqb p 0
agree k p (binds j l r) = eqb j k && (eqb (l + 2 * p) 27 && (eqb r (suc l) && (leb 3 p && leb p 12)))
agree k p none = eqb p 0

agree_at : ℕ → Bool
agree_at k = agree k (line_of k) (operator (plain k))

agree_small : all_below agree_at (suc K.QuestionMark) ≡ true
unfolding all_below one_of operator_in line_in agree operator agree_at
agree_small = refl

agree_large : (k : ℕ) → K.QuestionMark < k → agree_at k ≡ true
unfolding agree_at agree operator small small_rows small_levels
agree_large k l =
    rw (one_of_large (K.QuestionMark ∷ []) k refl l, level_large binary_levels k refl l, number_large table k refl l)

agrees : (k : ℕ) → agree_at k ≡ true
agrees k = go (ltb k (suc K.QuestionMark)) refl
  where
    go : (b : Bool) → ltb k (suc K.QuestionMark) ≡ b → agree_at k ≡ true
    go true e = at_below agree_at (suc K.QuestionMark) k agree_small (ltb-true k (suc K.QuestionMark) e)
    go false e = agree_large k (ltb-false k (suc K.QuestionMark) e)

-- a binary operator's powers by its number
pub record Powers (p l r : ℕ) : Type 0 where
  pub left_is : l + 2 * p ≡ 27
  pub right_is : r ≡ suc l
  pub low : 3 ≤ p
  pub high : p ≤ 12

-- what an operator is, in C's table
abbrev pub OperatorOf : ℕ → Operator → Type 0
OperatorOf k asks = (k ≡ K.QuestionMark) × (line_of k ≡ 0)
OperatorOf k (binds j l r) = (j ≡ k) × Powers (line_of k) l r
OperatorOf k none = line_of k ≡ 0

operator_from : (k : ℕ) (x : Operator) → agree k (line_of k) x ≡ true → OperatorOf k x
unfolding agree
operator_from k asks h = let b = both (eqb k K.QuestionMark) _ h in (eqb-true k K.QuestionMark b.0, eqb-true (line_of k) 0 b.1)
operator_from k (binds j l r) h =
    let p = line_of k in
    let b = both (eqb j k) _ h in
    let c = both (eqb (l + 2 * p) 27) _ b.1 in
    let d = both (eqb r (suc l)) _ c.1 in
    let e = both (leb 3 p) (leb p 12) d.1 in (
      eqb-true j k b.0,
      record { left_is = eqb-true (l + 2 * p) 27 c.0; right_is = eqb-true r (suc l) d.0; low = leb-true 3 p e.0; high = leb-true p 12 e.1 },
    )
operator_from k none h = eqb-true (line_of k) 0 h

pub operator_of : (k : ℕ) → OperatorOf k (operator (plain k))
unfolding agree_at
operator_of k = operator_from k (operator (plain k)) (agrees k)

-- ---------------------------------------------------------------- sets

-- k is one of the list
pub data Member : ℕ → List ℕ → Type 0 where
  here : {k : ℕ} {xs : List ℕ} → Member k (k ∷ xs)
  there : {k x : ℕ} {xs : List ℕ} → Member k xs → Member k (x ∷ xs)

pub member : (ks : List ℕ) (k : ℕ) → one_of ks k ≡ true → Member k ks
unfolding one_of
member [] k h = absurd (false≢true h)
member (x ∷ xs) k h = go (eqb x k) refl h (member xs k)
  where
    go : (b : Bool) → eqb x k ≡ b → cond b true (one_of xs k) ≡ true → (one_of xs k ≡ true → Member k xs) → Member k (x ∷ xs)
    go true e h more = rw (eqb-true x k e) here
    go false e h more = there (more h)

pub member_one : {k j : ℕ} → Member k (j ∷ []) → k ≡ j
member_one here = refl
member_one (there h) = elim h [ ]

-- ---------------------------------------------------------------- what an operand is

abbrev pub OperandOf : Symbol → Operand → Type 0
OperandOf x (prefixes k) = (x ≡ plain k) × (one_of prefix_operators k ≡ true)
OperandOf x brackets = x ≡ plain K.LParen
OperandOf x names = x ≡ plain K.Ident
OperandOf x (literals k) = (x ≡ plain k) × (one_of (K.Number ∷ K.Char ∷ []) k ≡ true)
OperandOf x nothing = Unit {0}

kind_is : (k j : ℕ) → one_of (j ∷ []) k ≡ true → plain k ≡ plain j
kind_is k j h = ap plain (member_one (member (j ∷ []) k h))

operand_literal : (k : ℕ) (b : Bool) → one_of (K.Number ∷ K.Char ∷ []) k ≡ b → OperandOf (plain k) (cond b (literals k) nothing)
operand_literal k true e = (refl, e)
operand_literal k false e = tt

operand_name : (k : ℕ) (b : Bool) → one_of (K.Ident ∷ []) k ≡ b
    → OperandOf (plain k) (cond b names (cond (one_of (K.Number ∷ K.Char ∷ []) k) (literals k) nothing))
operand_name k true e = kind_is k K.Ident e
operand_name k false e = operand_literal k (one_of (K.Number ∷ K.Char ∷ []) k) refl

operand_bracket : (k : ℕ) (b : Bool) → one_of (K.LParen ∷ []) k ≡ b
    → OperandOf (plain k)
    (cond b brackets (cond (one_of (K.Ident ∷ []) k) names (cond (one_of (K.Number ∷ K.Char ∷ []) k) (literals k) nothing)))
operand_bracket k true e = kind_is k K.LParen e
operand_bracket k false e = operand_name k (one_of (K.Ident ∷ []) k) refl

operand_kind : (k : ℕ) (b : Bool) → one_of PREFIX_OPERATORS_SET k ≡ b
    → OperandOf (plain k)
    (cond b (prefixes k)
    (cond (one_of (K.LParen ∷ []) k) brackets
    (cond (one_of (K.Ident ∷ []) k) names (cond (one_of (K.Number ∷ K.Char ∷ []) k) (literals k) nothing))))
operand_kind k true e = (refl, e)
operand_kind k false e = operand_bracket k (one_of (K.LParen ∷ []) k) refl

pub operand_of : (x : Symbol) → OperandOf x (operand x)
unfolding operand
operand_of (plain k) = operand_kind k (one_of PREFIX_OPERATORS_SET k) refl
operand_of arguments = tt

pub prefix_operand : (k : ℕ) → one_of prefix_operators k ≡ true → operand (plain k) ≡ prefixes k
unfolding operand
prefix_operand k h = rw h

literal_member : {k : ℕ} → Member k (K.Number ∷ K.Char ∷ []) → operand (plain k) ≡ literals k
unfolding operand one_of
literal_member here = refl
literal_member (there here) = refl
literal_member (there (there h)) = elim h [ ]

pub literal_operand : (k : ℕ) → one_of (K.Number ∷ K.Char ∷ []) k ≡ true → operand (plain k) ≡ literals k
literal_operand k h = literal_member (member (K.Number ∷ K.Char ∷ []) k h)

pub is_kind : (k : ℕ) (x : Symbol) → is k x ≡ true → x ≡ plain k
unfolding is
is_kind k (plain j) h = kind_is j k h
is_kind k arguments h = absurd (false≢true h)

-- ---------------------------------------------------------------- the statement of specs/Tables.antt

rows_agree : Levels binary_levels
unfolding line_in one_of
rows_agree = (omega arith, (omega arith, (omega arith, (omega arith, (omega arith, (omega arith, (omega arith, (omega arith, (omega arith, (omega arith, tt))))))))))

level_none : (ls : List Level) (k : ℕ) → NoneHas ls k → operator_in ls k ≡ none
unfolding operator_in
level_none [] k h = refl
level_none (l ∷ ls) k h = rw h.0 (level_none ls k h.1)

none_by : (k : ℕ) (b : Bool) → OperatorOf k (cond b asks none) → line_of k ≡ 0
none_by k true h = h.1
none_by k false h = h

unlisted : (k : ℕ) → NoneHas binary_levels k → line_of k ≡ 0
unfolding operator
unlisted k h =
    none_by k (one_of (K.QuestionMark ∷ []) k)
    (subst (λ (x : Operator). OperatorOf k (cond (one_of (K.QuestionMark ∷ []) k) asks x)) (level_none binary_levels k h) (operator_of k))

-- THE TWO TABLES AGREE
pub tables_agree : TablesAgree
tables_agree = record { lines = rows_agree; all_of_them = unlisted; prefix_line = refl; ternary_lowest = omega arith; ternary_right = refl }
