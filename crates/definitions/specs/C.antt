-- C's expressions, from the public precedence table (cppreference, "C operator precedence"), over document 01's
-- operands and operators.
-- Nothing here knows of a parser or of a binding power.
use Rattle.std.specs.Prelude.{ℕ, zero, suc, ◌≤◌, ◌<◌, ◌≡◌, Bool, true, false, cond, ◌&&◌, List, [], ◌∷◌, ◌++◌, eqb}
use Rattle.std.proofs.Math.Option.{Option, none, some}
use Rattle.definitions.specs.TokenKind as K
use Rattle.definitions.specs.Token.{Token, seen, trivia, one_of}

-- ---------------------------------------------------------------- what the table sees of the tokens

-- a token's kind; or that it is an LParen directly after an Ident, which opens an argument list
pub data Symbol : Type 0 where
  plain : ℕ → Symbol
  arguments : Symbol

-- named: an Ident stands directly before the token
unfoldable pub symbol : Bool → Token → Symbol
unfolding seen
symbol named t = cond (named && eqb (seen t) K.LParen) arguments (plain (seen t))

-- the tokens, trivia passed over; named: an Ident stands directly before the first
unfoldable pub symbols : Bool → List Token → List Symbol
unfolding seen trivia symbol
symbols named [] = []
symbols named (t ∷ ts) =
    let passed = symbols false ts in
    let more : List Symbol = symbol named t ∷ symbols (eqb (seen t) K.Ident) ts in
    cond (trivia t) passed more

-- how a symbol changes the number of open brackets
pub data Change : Type 0 where
  opens closes keeps : Change

abbrev pub change : Symbol → Change
change (plain k) = cond (eqb k K.LParen) opens (cond (eqb k K.RParen) closes keeps)
change arguments = opens

abbrev pub changed : Change → (ℕ → Option ℕ) → ℕ → Option ℕ
changed opens f n = f (suc n)
changed closes f zero = none
changed closes f (suc n) = f n
changed keeps f n = f n

-- the brackets open after the symbols, n being open before them; none if one closes that was not opened
abbrev pub open_after : List Symbol → ℕ → Option ℕ
open_after [] n = some n
open_after (x ∷ xs) n = changed (change x) (open_after xs) n

-- An RParen balances an LParen if what stands between them is balanced.
abbrev pub Balanced : List Symbol → Type 0
Balanced xs = open_after xs 0 ≡ some 0

-- ---------------------------------------------------------------- the table

-- the number of a line of the table, and its operators; a smaller number binds tighter
pub record Line : Type 0 where
  pub line_number : ℕ
  pub operators : List ℕ

abbrev pub line : ℕ → List ℕ → Line
line n ks = record { line_number = n; operators = ks }

-- the table's line 1 is an operand, line 2 a prefix operator, line 13 the ternary (both from right to left)
abbrev pub prefix_operators : List ℕ
prefix_operators = K.Plus ∷ K.Minus ∷ K.BitwiseNot ∷ K.LogicalNot ∷ []

-- the binary operators, each line from left to right
abbrev pub table : List Line
table =
    line 3 (K.Asterisk ∷ K.Slash ∷ K.Modulo ∷ [])
    ∷ line 4 (K.Plus ∷ K.Minus ∷ [])
    ∷ line 5 (K.BitwiseShl ∷ K.BitwiseShr ∷ [])
    ∷ line 6 (K.LAngle ∷ K.RelationalLtEq ∷ K.RAngle ∷ K.RelationalGtEq ∷ [])
    ∷ line 7 (K.RelationalEq ∷ K.RelationalNeq ∷ [])
    ∷ line 8 (K.Ampersand ∷ [])
    ∷ line 9 (K.BitwiseXor ∷ [])
    ∷ line 10 (K.BitwiseOr ∷ [])
    ∷ line 11 (K.LogicalAnd ∷ [])
    ∷ line 12 (K.LogicalOr ∷ [])
    ∷ []

-- the number of the line that has an operator, 0 if none has it
unfoldable pub line_in : List Line → ℕ → ℕ
unfolding one_of
line_in [] k = 0
line_in (r ∷ rs) k = let n = line_in rs k in cond (one_of r.operators k) r.line_number n

abbrev pub line_of : ℕ → ℕ
line_of k = line_in table k

-- ---------------------------------------------------------------- expressions

-- operands: a Number or a Char by its kind, an Ident, an Ident with its arguments, a bracketed expression; operators by
-- their kinds
pub data Expr : Type 0 where
  literal : ℕ → Expr
  name : Expr
  invocation : List Symbol → Expr
  bracketed : Expr → Expr
  prefix : ℕ → Expr → Expr
  binary : Expr → ℕ → Expr → Expr
  ternary : Expr → Expr → Expr → Expr

-- the symbols of an expression, in order
abbrev pub spelling : Expr → List Symbol
spelling (literal k) = plain k ∷ []
spelling name = plain K.Ident ∷ []
spelling (invocation xs) = plain K.Ident ∷ arguments ∷ (xs ++ (plain K.RParen ∷ []))
spelling (bracketed e) = plain K.LParen ∷ (spelling e ++ (plain K.RParen ∷ []))
spelling (prefix k e) = plain k ∷ spelling e
spelling (binary l k r) = spelling l ++ (plain k ∷ spelling r)
spelling (ternary c a b) = spelling c ++ (plain K.QuestionMark ∷ (spelling a ++ (plain K.Colon ∷ spelling b)))

-- the number of the line that an expression's outermost operator has
abbrev pub precedence : Expr → ℕ
precedence (literal k) = 1
precedence name = 1
precedence (invocation xs) = 1
precedence (bracketed e) = 1
precedence (prefix k e) = 2
precedence (binary l k r) = line_of k
precedence (ternary c a b) = 13

-- What the table allows. A prefix operator's operand binds at least as tightly as one; a binary operator's left operand
-- at least as tight as the operator and its right operand tighter (from left to right); a ternary's condition tighter
-- than a ternary (from right to left), and what stands between `?` and `:`, or after `:`, is any expression.
abbrev pub WellFormed : Expr → Type 0
WellFormed (literal k) = one_of (K.Number ∷ K.Char ∷ []) k ≡ true
WellFormed name = Unit {0}
WellFormed (invocation xs) = Balanced xs
WellFormed (bracketed e) = WellFormed e
WellFormed (prefix k e) = (one_of prefix_operators k ≡ true) × WellFormed e × (precedence e ≤ 2)
WellFormed (binary l k r) = (1 ≤ line_of k) × WellFormed l × WellFormed r × (precedence l ≤ line_of k) × (precedence r < line_of k)
WellFormed (ternary c a b) = WellFormed c × WellFormed a × WellFormed b × (precedence c < 13)

-- C's table gives the symbols the tree
pub record Gives (xs : List Symbol) (e : Expr) : Type 0 where
  pub well_formed : WellFormed e
  pub symbols_are : spelling e ≡ xs
