-- The subprograms of the definitions' `lhs` and `infix_turn` that are functions here.
use Rattle.definitions.specs.TokenKind as K
use Rattle.definitions.specs.NodeKind as N
use Rattle.definitions.specs.Errors as E
use Rattle.definitions.specs.Prog.{no, yes, expr_binding_power, Prog, ret, ◌⨟◌, in_marker, open_call}
use Rattle.definitions.specs.Check.{tell, when◌then◌else◌, ◌and◌, in_node, bump!, expected, error, error!, error_wrap!, set, of_kind, silent, expect}
use Rattle.definitions.specs.BindingPower.{ternary_right, prefix_power}
use Rattle.definitions.specs.Grammar.{INFIX_BUT_TERNARY, PREFIX_OPERATORS_SET, rhs}

-- `PrefixOp::at`
abbrev pub at_prefix_op : Prog
at_prefix_op = expected E.PrefixOperator ⨟ silent (set PREFIX_OPERATORS_SET)

abbrev pub prefix_expr : Prog
prefix_expr = in_marker (bump! ⨟ when open_call (expr_binding_power prefix_power) then ret N.PrefixExpr yes else ret N.PrefixExpr no)

abbrev pub paren_expr : Prog
paren_expr =
    in_marker
    (bump!
    ⨟ when open_call (expr_binding_power 0) then expect (of_kind K.RParen) ⨟ ret N.ParenExpr yes
    else expect (of_kind K.RParen) ⨟ ret N.ParenExpr no)

abbrev pub literal_expr : Prog
literal_expr = in_node N.LiteralExpr bump!

abbrev pub missing_lhs : Prog
missing_lhs = error E.msg_expected E.missing_left_side ⨟ in_node N.ParseError (bump! ⨟ open_call (expr_binding_power 0)) ⨟ tell no

abbrev pub no_lhs : Prog
no_lhs =
    when expected E.InfixOperator ⨟ silent (set INFIX_BUT_TERNARY) then missing_lhs
    else when silent (of_kind K.RParen) then error! ⨟ tell no
    else error_wrap! ⨟ tell no

-- after the question mark
abbrev pub ternary_rhs : Prog
ternary_rhs = when open_call (expr_binding_power 0) and expect (of_kind K.Colon) then rhs ternary_right else ret N.InfixExpr yes
