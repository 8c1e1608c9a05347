-- What falls in the cycle of calls, the open calls left and then the members' order; and the loop of `infix_chain`.
use Prim.Native.Nat.{◌+◌, ◌*◌}
use Rattle.definitions.specs.Grammar.{infix_turn}
use Rattle.parser.specs.View.{tokens_left}
use Rattle.expr.proofs.Chain.{Linking}
use Rattle.expr.proofs.+expression.Given as goal

abbrev pub decreases-expr_binding_power : goal.decreases-expr_binding_power
decreases-expr_binding_power l = l.allowed * 8 + 0

abbrev pub decreases-infix_chain : goal.decreases-infix_chain
decreases-infix_chain l = l.allowed * 8 + 4

abbrev pub decreases-infix_turn : goal.decreases-infix_turn
decreases-infix_turn l = l.allowed * 8 + 3

abbrev pub decreases-lhs : goal.decreases-lhs
decreases-lhs l = l.allowed * 8 + 3

abbrev pub decreases-missing_lhs : goal.decreases-missing_lhs
decreases-missing_lhs l = l.allowed * 8 + 1

abbrev pub decreases-no_lhs : goal.decreases-no_lhs
decreases-no_lhs l = l.allowed * 8 + 2

abbrev pub decreases-paren_expr : goal.decreases-paren_expr
decreases-paren_expr l = l.allowed * 8 + 1

abbrev pub decreases-prefix_expr : goal.decreases-prefix_expr
decreases-prefix_expr l = l.allowed * 8 + 1

abbrev pub decreases-ternary_rhs : goal.decreases-ternary_rhs
decreases-ternary_rhs l = l.allowed * 8 + 2

abbrev pub invariant-infix_chain-loop-right : goal.invariant-infix_chain-loop-right
invariant-infix_chain-loop-right l = Linking l.allowed (infix_turn l.min_bp) l.initial.p l.initial.m l.p l.m

abbrev pub decreases-infix_chain-loop-right : goal.decreases-infix_chain-loop-right
decreases-infix_chain-loop-right l = tokens_left l.p
