-- NO ANSWER CHANGES with document 02's 3/14: the powers that are worked out are those of document 01's list, pair by
-- pair, and the run of every call is what it is with that list. The pairs stand here to be compared with, and in no
-- other definition or code.
use Rattle.std.specs.Prelude.{ℕ, zero, suc, ◌≡◌, List, [], ◌∷◌}
use Rattle.definitions.specs.TokenKind as K
use Rattle.definitions.specs.NodeKind as N
use Rattle.definitions.specs.Errors as E
use Rattle.definitions.specs.Prog.{no, yes, again, Rule, item, propvalues, eat_cell, expr_binding_power, less, Prog, ret, act, ◌⨟◌, chain, open_call}
use Rattle.definitions.specs.Check.{tell, when◌then◌else◌, ◌and◌, bump!, expected, set, of_kind, silent, expect}
use Rattle.definitions.specs.BindingPower.{Level, binary_levels, left_power, right_power, ternary_left, ternary_right, prefix_power}
use Rattle.definitions.specs.Grammar.{rhs, lhs, grammar, Entry, whole}
use Rattle.definitions.specs.Layout.{MOST_OPEN_CALLS}
use Rattle.definitions.specs.Token.{Token}
use Rattle.definitions.specs.Skeleton.{no_label, Skeleton, over, done}
use Rattle.definitions.specs.Run.{State, Out, mark_of, taken, makes, exec}
use Rattle.definitions.specs.Call.{run_entry}

-- left, right, and the operators that have them
pub record Pair : Type 0 where
  pub left : ℕ
  pub right : ℕ
  pub operators : List ℕ

abbrev pub pair : ℕ → ℕ → List ℕ → Pair
pair l r ks = record { left = l; right = r; operators = ks }

-- "Pairs (left, right): ternary 2,1; || 3,4; && 5,6; | 7,8; ^ 9,10; & 11,12; == != 13,14; < > <= >= 15,16; << >> 17,18;
-- + - 19,20; × / % (asterisk, slash, percent) 21,22"
abbrev pub listed_ternary : Pair
listed_ternary = pair 2 1 (K.QuestionMark ∷ [])

abbrev pub listed : List Pair
listed =
    pair 3 4 (K.LogicalOr ∷ [])
    ∷ pair 5 6 (K.LogicalAnd ∷ [])
    ∷ pair 7 8 (K.BitwiseOr ∷ [])
    ∷ pair 9 10 (K.BitwiseXor ∷ [])
    ∷ pair 11 12 (K.Ampersand ∷ [])
    ∷ pair 13 14 (K.RelationalEq ∷ K.RelationalNeq ∷ [])
    ∷ pair 15 16 (K.LAngle ∷ K.RAngle ∷ K.RelationalLtEq ∷ K.RelationalGtEq ∷ [])
    ∷ pair 17 18 (K.BitwiseShl ∷ K.BitwiseShr ∷ [])
    ∷ pair 19 20 (K.Plus ∷ K.Minus ∷ [])
    ∷ pair 21 22 (K.Asterisk ∷ K.Slash ∷ K.Modulo ∷ [])
    ∷ []

-- what the levels give
abbrev pub pairs_of : List Level → List Pair
pairs_of [] = []
pairs_of (l ∷ ls) = pair (left_power l.number) (right_power l.number) l.kinds ∷ pairs_of ls

-- With powers from a list, t the ternary's: the turn of expr.rs' loop (specs/Grammar, `infix_turn`), the grammar, its
-- runs (specs/Run, `run`) and the run of a call (specs/Call, `run_entry`), of which all that the call answers is made.
unfoldable pub binary_turn : List Pair → ℕ → Prog
unfolding silent rhs
binary_turn [] min-bp = tell yes
binary_turn (p ∷ ps) min-bp =
    when silent (set p.operators) then
    (when act (less p.left min-bp) then tell yes else bump! ⨟ rhs p.right)
    else binary_turn ps min-bp

unfoldable pub turn_with : Pair → List Pair → ℕ → Prog
unfolding silent expect rhs binary_turn
turn_with t ps min-bp =
    expected E.InfixOperator
    ⨟ when silent (set t.operators) then
    (when act (less t.left min-bp) then tell yes
    else (bump! ⨟ when open_call (expr_binding_power 0) and expect (of_kind K.Colon) then
    rhs t.right else ret N.InfixExpr yes))
    else binary_turn ps min-bp

unfoldable pub grammar_with : Pair → List Pair → Rule → Prog
unfolding grammar lhs turn_with
grammar_with t ps item = grammar item
grammar_with t ps (propvalues semicolon) = grammar (propvalues semicolon)
grammar_with t ps (eat_cell until_end) = grammar (eat_cell until_end)
grammar_with t ps (expr_binding_power min-bp) = chain (when lhs then tell again else tell no) (turn_with t ps min-bp)

unfoldable pub run_with : Pair → List Pair → ℕ → Rule → State → Out
unfolding exec grammar_with makes
run_with t ps zero r s = makes no (over (mark_of s) done) s
run_with t ps (suc n) r s = exec (run_with t ps n) no_label (grammar_with t ps r) s

unfoldable pub entry_with : Pair → List Pair → Entry → List Token → Skeleton
unfolding exec run_with whole
entry_with t ps e ts = (exec (run_with t ps MOST_OPEN_CALLS) no_label (whole e) (taken ts)).made

pub record AsListed : Type 0 where
  pub ternary : pair ternary_left ternary_right (K.QuestionMark ∷ []) ≡ listed_ternary
  pub pairs : pairs_of binary_levels ≡ listed
  -- "prefix + - ~ ! 23"
  pub prefix : prefix_power ≡ 23
  pub runs : (e : Entry) (ts : List Token) → run_entry e ts ≡ entry_with listed_ternary listed e ts
