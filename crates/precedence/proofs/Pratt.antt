-- expr.rs up to its first report, on symbols; used in proofs only. It reads the definitions' own tables and sets.
use Prim.Native.Nat.{ℕ, zero, suc}
use mathlib.Core.Bool.{Bool, true, false, cond}
use mathlib.Core.List.{List, [], ◌∷◌}
use lib.Dec.{ltb}
use lib.ListN.{length}
use Rattle.definitions.specs.TokenKind as K
use Rattle.definitions.specs.Token.{one_of}
use Rattle.definitions.specs.BindingPower.{Level, binary_levels, left_power, right_power, ternary_left, ternary_right, prefix_power}
use Rattle.definitions.specs.Grammar.{PREFIX_OPERATORS_SET}
use Rattle.definitions.specs.C.{Symbol, plain, arguments, Change, opens, closes, keeps, change, Expr, literal, name, invocation, bracketed, prefix, binary, ternary}

-- ----------------------------------------------------- what a symbol is, where an operand and where an operator is due

pub data Operand : Type 0 where
  prefixes : ℕ → Operand
  brackets : Operand
  names : Operand
  literals : ℕ → Operand
  nothing : Operand

-- the tests of `lhs`, in its order
unfoldable pub operand : Symbol → Operand
unfolding one_of
operand (plain k) =
    cond (one_of PREFIX_OPERATORS_SET k) (prefixes k)
    (cond (one_of (K.LParen ∷ []) k) brackets
    (cond (one_of (K.Ident ∷ []) k) names (cond (one_of (K.Number ∷ K.Char ∷ []) k) (literals k) nothing)))
operand arguments = nothing

-- binds: a kind with its left and right power
pub data Operator : Type 0 where
  asks : Operator
  binds : ℕ → ℕ → ℕ → Operator
  none : Operator

unfoldable pub operator_in : List Level → ℕ → Operator
unfolding one_of
operator_in [] k = none
operator_in (l ∷ ls) k = let r = operator_in ls k in cond (one_of l.kinds k) (binds k (left_power l.number) (right_power l.number)) r

-- the tests of `infix_turn`, in its order
unfoldable pub operator : Symbol → Operator
unfolding one_of operator_in
operator (plain k) = cond (one_of (K.QuestionMark ∷ []) k) asks (operator_in binary_levels k)
operator arguments = none

unfoldable pub is : ℕ → Symbol → Bool
unfolding one_of
is k (plain j) = one_of (k ∷ []) j
is k arguments = false

-- ---------------------------------------------------------------- results

-- done: a tree and the symbols after it. report: the first report, with the symbols not taken when it is made. refused:
-- a 65th open call.
-- spent: the loop's bound is reached, which never happens.
pub data Res : Type 0 where
  done : Expr → List Symbol → Res
  report : List Symbol → Res
  refused : Res
  spent : Res

abbrev pub Reader : Type 0
Reader = ℕ → List Symbol → Res

abbrev pub bind : Res → (Expr → List Symbol → Res) → Res
bind (done e us) f = f e us
bind (report us) f = report us
bind refused f = refused
bind spent f = spent

abbrev pub expect_if : Bool → List Symbol → Res → Res
expect_if true us x = x
expect_if false us x = report us

-- `p.expect(k)`
abbrev pub expect : ℕ → List Symbol → (List Symbol → Res) → Res
expect k [] f = report []
expect k (x ∷ us) f = expect_if (is k x) (x ∷ us) (f us)

-- ---------------------------------------------------------------- an operand

-- an argument list: the symbols up to the bracket that closes it, and those after that
pub data Args : Type 0 where
  closed : List Symbol → List Symbol → Args
  unclosed : Args

abbrev pub push : Symbol → Args → Args
push x (closed xs us) = closed (x ∷ xs) us
push x unclosed = unclosed

abbrev pub args_turn : Change → Symbol → (ℕ → Args) → List Symbol → ℕ → Args
args_turn opens x f us n = push x (f (suc n))
args_turn closes x f us zero = closed [] us
args_turn closes x f us (suc n) = push x (f n)
args_turn keeps x f us n = push x (f n)

-- n: the brackets open inside the list
abbrev pub args : List Symbol → ℕ → Args
args [] n = unclosed
args (x ∷ us) n = args_turn (change x) x (args us) us n

abbrev pub invoked : Args → Res
invoked (closed xs us) = done (invocation xs) us
invoked unclosed = report []

-- `macro_invocation`, after the name
abbrev pub named : List Symbol → Res
named [] = done name []
named (plain k ∷ us) = done name (plain k ∷ us)
named (arguments ∷ us) = invoked (args us 0)

abbrev pub lhs_by : Operand → Reader → Symbol → List Symbol → Res
lhs_by (prefixes k) rec x us = bind (rec prefix_power us) (λ e vs. done (prefix k e) vs)
lhs_by brackets rec x us = bind (rec 0 us) (λ e vs. expect K.RParen vs (λ ws. done (bracketed e) ws))
lhs_by names rec x us = named us
lhs_by (literals k) rec x us = done (literal k) us
lhs_by nothing rec x us = report (x ∷ us)

abbrev pub lhs : Reader → List Symbol → Res
lhs rec [] = report []
lhs rec (x ∷ us) = lhs_by (operand x) rec x us

-- ---------------------------------------------------------------- the loop over operators

-- out: the minimum keeps the operator out
abbrev pub bind_if : Bool → (Expr → List Symbol → Res) → Reader → Expr → ℕ → ℕ → List Symbol → List Symbol → Res
bind_if true more rec e k r vs us = done e vs
bind_if false more rec e k r vs us = bind (rec r us) (λ f ws. more (binary e k f) ws)

abbrev pub ask_if : Bool → (Expr → List Symbol → Res) → Reader → Expr → List Symbol → List Symbol → Res
ask_if true more rec e vs us = done e vs
ask_if false more rec e vs us =
    bind (rec 0 us) (λ a ws. expect K.Colon ws (λ xs. bind (rec ternary_right xs) (λ b ys. more (ternary e a b) ys)))

abbrev pub step_by : Operator → (Expr → List Symbol → Res) → Reader → ℕ → Expr → Symbol → List Symbol → Res
step_by asks more rec m e x us = ask_if (ltb ternary_left m) more rec e (x ∷ us) us
step_by (binds k l r) more rec m e x us = bind_if (ltb l m) more rec e k r (x ∷ us) us
step_by none more rec m e x us = done e (x ∷ us)

abbrev pub step : (Expr → List Symbol → Res) → Reader → ℕ → Expr → List Symbol → Res
step more rec m e [] = done e []
step more rec m e (x ∷ us) = step_by (operator x) more rec m e x us

-- at most n more turns
abbrev pub loop : Reader → ℕ → ℕ → Expr → List Symbol → Res
loop rec zero m e us = step (λ f vs. spent) rec m e us
loop rec (suc n) m e us = step (loop rec n m) rec m e us

-- `expr_binding_power`, with so many more open calls allowed
abbrev pub reader : ℕ → Reader
reader zero m us = refused
reader (suc d) m us = bind (lhs (reader d) us) (λ e vs. loop (reader d) (length vs) m e vs)

-- `dt_expr` after its LParen: the tree, and the symbols after its RParen
abbrev pub cell : ℕ → List Symbol → Res
cell d us = bind (reader d 0 us) (λ e vs. expect K.RParen vs (λ ws. done e ws))
