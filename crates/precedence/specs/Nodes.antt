-- The nodes that the parser has for an expression of C's table. They are written as a skeleton, and the definitions'
-- `place` puts the raw tokens in, trivia where the sink puts them.
use Rattle.std.specs.Prelude.{ℕ, zero, suc, Bool, cond, List, [], ◌∷◌, eqb}
use Rattle.definitions.specs.TokenKind as K
use Rattle.definitions.specs.NodeKind as N
use Rattle.definitions.specs.Skeleton.{Skeleton, done, token, node, ◌⧺◌}
use Rattle.definitions.specs.C.{Symbol, plain, arguments, Change, opens, closes, keeps, change, Expr, literal, name, invocation, bracketed, prefix, binary, ternary}

-- the next token that is not trivia; `place` takes it from the raw tokens, and looks at no mark
abbrev pub one : Skeleton
one = token (record { kind = 0; len = 0 }) 0 done

-- a node with its children
abbrev pub nodes : ℕ → Skeleton → Skeleton
nodes k p = node k 0 0 done p done

-- ---------------------------------------------------------------- macro arguments

-- some symbols from inside an argument list: the tokens up to the first comma outside inner brackets, and the comma
-- with what follows it
pub record Split : Type 0 where
  pub first : Skeleton
  pub later : Skeleton

-- an argument is a MacroArgument
abbrev pub argument : Split → Skeleton
argument s = nodes N.MacroArgument s.first ⧺ s.later

abbrev pub taking : Split → Split
taking s = record { first = one ⧺ s.first; later = s.later }

-- the comma of an outer argument list
abbrev pub next_argument : Split → Split
next_argument s = record { first = done; later = one ⧺ argument s }

abbrev pub is_comma : Symbol → Bool
is_comma (plain k) = eqb k K.Comma
is_comma arguments = Bool.false

-- in so many inner brackets
abbrev pub split_change : Change → Symbol → (ℕ → Split) → ℕ → Split
split_change opens x f n = taking (f (suc n))
split_change closes x f zero = taking (f zero)
split_change closes x f (suc n) = taking (f n)
split_change keeps x f zero = let s = f zero in cond (is_comma x) (next_argument s) (taking s)
split_change keeps x f (suc n) = taking (f (suc n))

abbrev pub split : List Symbol → ℕ → Split
split [] n = record { first = done; later = done }
split (x ∷ xs) n = split_change (change x) x (split xs) n

-- no argument between two brackets that stand next to each other
abbrev pub argument_list : List Symbol → Skeleton
argument_list [] = done
argument_list (x ∷ xs) = argument (split (x ∷ xs) 0)

-- ---------------------------------------------------------------- expressions

-- a ternary is one InfixExpr of five parts
abbrev pub expr_nodes : Expr → Skeleton
expr_nodes (literal k) = nodes N.LiteralExpr one
expr_nodes name = nodes N.MacroInvocation one
expr_nodes (invocation xs) = nodes N.MacroInvocation (one ⧺ one ⧺ argument_list xs ⧺ one)
expr_nodes (bracketed e) = nodes N.ParenExpr (one ⧺ expr_nodes e ⧺ one)
expr_nodes (prefix k e) = nodes N.PrefixExpr (one ⧺ expr_nodes e)
expr_nodes (binary l k r) = nodes N.InfixExpr (expr_nodes l ⧺ one ⧺ expr_nodes r)
expr_nodes (ternary c a b) = nodes N.InfixExpr (expr_nodes c ⧺ one ⧺ expr_nodes a ⧺ one ⧺ expr_nodes b)

-- a cell: its LParen, an expression, its RParen
abbrev pub cell : Expr → Skeleton
cell e = nodes N.DtExpr (one ⧺ expr_nodes e ⧺ one)
