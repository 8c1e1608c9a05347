-- grammar.rs, grammar/expr.rs and grammar/preprocessor_directive.rs as programs, in the Rust's order inside each part:
-- each function under its Rust name, a counted one as NAME-body. What the Rust has inside a function and what is named
-- here for itself: the turn of a loop (NAME-turn), one branch of a conditional, one value and what follows it, a path's
-- rest, an operator's right side, a node without a property, one top-level statement. A function that completes its
-- caller's marker is a program whose ret says what the marker becomes.
use Rattle.std.specs.Prelude.{ℕ, Bool, true, false, List, [], ◌∷◌, ◌++◌}
use Rattle.definitions.specs.Prog.{Ans, no, yes, also, again, Rule, item, propvalues, eat_cell, expr_binding_power, silent_at, immediate, immediate_next, bump_argument, emit_unclosed, less, Prog, ret, act, ◌⨟◌, case, in_marker, loop, chain, brace, open_call}
use Rattle.definitions.specs.Check.{tell, when◌then◌else◌, ◌and◌, ◌or◌, not!, while◌run◌, in_node, end?, bump!, expected, error, error_bump, error_wrap, error!, error_bump!, error_wrap!, Matcher, set, of_kind, NAME_SET, Name, LabelName, silent, at, silent_eat, eat, assert_eat, expect, expect_recoverable, eat_starting◌inside◌else◌}
use Rattle.definitions.specs.BindingPower.{Level, binary_levels, left_power, right_power, ternary_left, ternary_right, prefix_power}
use Rattle.definitions.specs.TokenKind as K
use Rattle.definitions.specs.NodeKind as N
use Rattle.definitions.specs.Errors as E

-- ================================================================ preprocessor_directive.rs

abbrev pub BEGIN_COND_SET : List ℕ
BEGIN_COND_SET = K.IfndefDirective ∷ K.IfdefDirective ∷ K.IfDirective ∷ []

abbrev pub CONTINUE_COND_SET : List ℕ
CONTINUE_COND_SET = K.ElifndefDirective ∷ K.ElifdefDirective ∷ K.ElifDirective ∷ K.ElseDirective ∷ []

-- lexer.rs: `is_preprocessor_directive`
abbrev pub PREPROCESSOR_DIRECTIVES : List ℕ
PREPROCESSOR_DIRECTIVES =
    K.IfDirective ∷ K.IfdefDirective ∷ K.IfndefDirective ∷ K.ElifDirective ∷ K.ElifdefDirective ∷ K.ElifndefDirective ∷ K.ElseDirective
    ∷ K.EndifDirective ∷ K.PragmaDirective ∷ K.DefineDirective ∷ K.UndefDirective ∷ K.IncludeDirective ∷ K.ErrorDirective ∷ []

-- The `eat_inside` closures: an item, values with their ending, or a cell with its `AT_END`.
pub data Inside : Type 0 where
  Item : Inside
  Values : Bool → Inside
  Cell : Bool → Inside

unfoldable pub eat_inside : Inside → Prog
eat_inside Item = open_call item ⨟ tell yes
eat_inside (Values semicolon) = open_call (propvalues semicolon) ⨟ tell yes
eat_inside (Cell until_end) = open_call (eat_cell until_end)

-- a turn of one branch's loop. The branch stops at `#endif`, at the end of input, and where nothing is there to eat
-- (no), or at a continuation (yes).
unfoldable pub branch_turn : Inside → Prog
unfolding at silent eat_inside
branch_turn inner =
    when at (of_kind K.EndifDirective) or end? then tell no
    else when silent (set CONTINUE_COND_SET) then tell yes
    else when eat_inside inner then tell again
    else tell no

-- one branch of `cond_branches_and_end`, up to a continuation (yes) or up to its end (no)
unfoldable pub branch : Inside → Prog
unfolding branch_turn
branch inner = in_marker (when loop (branch_turn inner) then ret N.PreprocessorBranch yes else ret N.PreprocessorBranch no)

unfoldable pub cond_branches_turn : Inside → Prog
unfolding branch
cond_branches_turn inner = when branch inner then bump! ⨟ tell again else tell yes

unfoldable pub cond_branches_and_end : Inside → Prog
unfolding cond_branches_turn expect
cond_branches_and_end inner = loop (cond_branches_turn inner) ⨟ expect (of_kind K.EndifDirective)

unfoldable pub eat_preprocessor_directive : Inside → Prog
unfolding silent cond_branches_and_end
eat_preprocessor_directive inner =
    expected E.PreprocessorDirective
    ⨟ when not! (silent (set PREPROCESSOR_DIRECTIVES)) then tell no
    else when silent (set BEGIN_COND_SET) then in_node N.PreprocessorConditional (bump! ⨟ cond_branches_and_end inner) ⨟ tell yes
    else bump! ⨟ tell yes

unfoldable pub catch_unmatched_pp_directive : Inside → Prog
unfolding silent cond_branches_and_end
catch_unmatched_pp_directive inner =
    when silent (of_kind K.EndifDirective) then error_wrap E.unmatched_endif E.no_hint ⨟ tell yes
    else when silent (set CONTINUE_COND_SET) then
    (error E.stray_continuation E.no_hint ⨟ in_node N.ParseError (bump! ⨟ cond_branches_and_end inner) ⨟ tell yes)
    else tell no

-- ================================================================ grammar.rs: macro invocations, names, references

-- an argument, and the comma after it
unfoldable pub macro_argument_turn : Prog
macro_argument_turn =
    when in_marker (when act bump_argument then ret N.MacroArgument yes else ret N.MacroArgument no) then bump! ⨟ tell again
    else tell yes

unfoldable pub macro_invocation : Prog
unfolding at expect macro_argument_turn
macro_invocation =
    in_node N.MacroInvocation
    (assert_eat K.Ident
    ⨟ when expected K.LParen ⨟ act (immediate K.LParen) then
    (bump! ⨟ (when not! (at (of_kind K.RParen)) then loop macro_argument_turn else tell yes) ⨟ expect (of_kind K.RParen))
    else tell yes)

-- parser/mod.rs
unfoldable pub silent_at_macro_invocation_with_args : Prog
silent_at_macro_invocation_with_args = act (silent_at (K.Ident ∷ [])) and act (immediate_next K.LParen)

unfoldable pub MacroSubstitutableName : Matcher
unfolding silent_at_macro_invocation_with_args macro_invocation
MacroSubstitutableName =
    record {
      matches = Name.matches;
      push_expected = Name.push_expected;
      consume = when silent_at_macro_invocation_with_args then macro_invocation else Name.consume;
    }

unfoldable pub UnitAddress : Matcher
unfolding expect MacroSubstitutableName
UnitAddress =
    record {
      matches = act (silent_at (K.AtSign ∷ []));
      push_expected = expected K.AtSign;
      consume = in_node N.UnitAddress (bump! ⨟ expect MacroSubstitutableName);
    }

unfoldable pub path_segment : Prog
unfolding eat UnitAddress
path_segment = when eat Name then eat UnitAddress else error_wrap!

unfoldable pub path_turn : Prog
unfolding at silent expect path_segment
path_turn =
    while not! (at (of_kind K.RCurly)) and not! end? and not! (silent (set CONTINUE_COND_SET)) and not! (silent (of_kind K.EndifDirective))
    run (expect (of_kind K.Slash) ⨟ path_segment)

-- what follows the first segment of a path
unfoldable pub path_rest : Prog
unfolding path_turn expect
path_rest = loop path_turn ⨟ expect (of_kind K.RCurly)

unfoldable pub reference_noamp : Prog
unfolding eat path_segment path_rest silent_at_macro_invocation_with_args macro_invocation
reference_noamp =
    when eat (of_kind K.LCurly) then
    (when eat (of_kind K.Slash) then (when eat (of_kind K.RCurly) then tell yes else path_segment ⨟ path_rest)
    else ((when eat Name then tell yes else error_wrap!) ⨟ path_rest))
    else when silent_at_macro_invocation_with_args then macro_invocation
    else when eat LabelName then tell yes
    else error_wrap!

unfoldable pub Reference : Matcher
unfolding reference_noamp
Reference =
    record {
      matches = act (silent_at (K.Ampersand ∷ []));
      push_expected = expected K.Ampersand;
      consume = in_node N.DtPhandle (bump! ⨟ reference_noamp);
    }

-- ================================================================ expr.rs

-- what `InfixOp::at` knows, the ternary apart
abbrev pub INFIX_BUT_TERNARY : List ℕ
INFIX_BUT_TERNARY =
    K.Plus ∷ K.Minus ∷ K.Asterisk ∷ K.Slash ∷ K.Modulo ∷ K.Ampersand ∷ K.BitwiseOr ∷ K.BitwiseXor ∷ K.BitwiseShl ∷ K.BitwiseShr
    ∷ K.LogicalAnd ∷ K.LogicalOr ∷ K.LAngle ∷ K.RAngle ∷ K.RelationalLtEq ∷ K.RelationalGtEq ∷ K.RelationalEq ∷ K.RelationalNeq ∷ []

abbrev pub INFIX_OPERATORS_SET : List ℕ
INFIX_OPERATORS_SET = INFIX_BUT_TERNARY ++ (K.QuestionMark ∷ [])

abbrev pub PREFIX_OPERATORS_SET : List ℕ
PREFIX_OPERATORS_SET = K.Plus ∷ K.Minus ∷ K.BitwiseNot ∷ K.LogicalNot ∷ []

abbrev pub OPERATORS_SET : List ℕ
OPERATORS_SET = INFIX_OPERATORS_SET ++ (PREFIX_OPERATORS_SET ++ (K.Colon ∷ []))

-- the right side, and the InfixExpr that it completes
unfoldable pub rhs : ℕ → Prog
rhs right = when open_call (expr_binding_power right) then ret N.InfixExpr again else ret N.InfixExpr yes

-- an operator of a level, if its left power is at least the minimum
unfoldable pub infix_levels : ℕ → List Level → Prog
unfolding silent rhs
infix_levels min-bp [] = tell yes
infix_levels min-bp (l ∷ ls) =
    when silent (set l.kinds) then
    (when act (less (left_power l.number) min-bp) then tell yes else bump! ⨟ rhs (right_power l.number))
    else infix_levels min-bp ls

-- one turn of the loop over infix operators
unfoldable pub infix_turn : ℕ → Prog
unfolding silent expect rhs infix_levels
infix_turn min-bp =
    expected E.InfixOperator
    ⨟ when silent (of_kind K.QuestionMark) then
    (when act (less ternary_left min-bp) then tell yes
    else (bump! ⨟ when open_call (expr_binding_power 0) and expect (of_kind K.Colon) then
    rhs ternary_right else ret N.InfixExpr yes))
    else infix_levels min-bp binary_levels

unfoldable pub lhs : Prog
unfolding silent at expect macro_invocation
lhs =
    when expected E.PrefixOperator ⨟ silent (set PREFIX_OPERATORS_SET) then
    in_marker (bump! ⨟ when open_call (expr_binding_power prefix_power) then ret N.PrefixExpr yes else ret N.PrefixExpr no)
    else when at (of_kind K.LParen) then
    in_marker (bump!
    ⨟ when open_call (expr_binding_power 0) then expect (of_kind K.RParen) ⨟ ret N.ParenExpr yes
    else expect (of_kind K.RParen) ⨟ ret N.ParenExpr no)
    else when at (of_kind K.Ident) then macro_invocation ⨟ tell yes
    else when at (set (K.Number ∷ K.Char ∷ [])) then in_node N.LiteralExpr bump!
    else when expected E.InfixOperator ⨟ silent (set INFIX_BUT_TERNARY) then
    error E.msg_expected E.missing_left_side ⨟ in_node N.ParseError (bump! ⨟ open_call (expr_binding_power 0)) ⨟ tell no
    else when silent (of_kind K.RParen) then error! ⨟ tell no
    else error_wrap! ⨟ tell no

unfoldable pub expr_binding_power_body : ℕ → Prog
unfolding lhs infix_turn
expr_binding_power_body min-bp = chain (when lhs then tell again else tell no) (infix_turn min-bp)

-- ================================================================ grammar.rs: cells

unfoldable pub dt_expr : Prog
unfolding expect
dt_expr = in_node N.DtExpr (assert_eat K.LParen ⨟ open_call (expr_binding_power 0) ⨟ expect (of_kind K.RParen))

unfoldable pub eat_dts_include : Prog
unfolding eat_starting◌inside◌else◌ expect
eat_dts_include = eat_starting of_kind K.DtIncludeDirective inside expect (of_kind K.String) ⨟ ret N.DtsDirective yes else tell no

unfoldable pub eat_cell_body : Bool → Prog
unfolding silent silent_eat at macro_invocation Reference dt_expr eat_dts_include eat_preprocessor_directive
eat_cell_body until_end =
    expected E.Cell
    ⨟ when silent_eat (set (K.Number ∷ K.Char ∷ [])) then tell yes
    else when silent (of_kind K.Ident) then macro_invocation ⨟ tell yes
    else when silent_eat Reference then tell yes
    else when silent (of_kind K.LParen) then dt_expr ⨟ tell yes
    else when eat_dts_include or eat_preprocessor_directive (Cell until_end) then tell yes
    else when silent (set OPERATORS_SET) and not! (at (of_kind K.RAngle)) then error_wrap E.msg_expected E.missing_parentheses ⨟ tell yes
    else tell no

-- whether cells end here, by `AT_END`
unfoldable pub cells_end : Bool → Prog
unfolding at
cells_end true = expected E.End ⨟ end?
cells_end false = at (of_kind K.RAngle)

unfoldable pub cells_turn : Bool → Prog
unfolding silent cells_end
cells_turn until_end =
    when open_call (eat_cell until_end) then tell again
    else when cells_end until_end then tell yes
    else when silent (set (K.Semicolon ∷ K.LCurly ∷ K.RCurly ∷ [])) or end?
    or silent (set CONTINUE_COND_SET) or silent (of_kind K.EndifDirective) then
    error! ⨟ tell no
    else error_wrap E.msg_expected E.in_cells ⨟ tell again

unfoldable pub cells : Bool → Prog
unfolding cells_turn
cells until_end = loop (cells_turn until_end)

-- the caller's marker
unfoldable pub dt_cell_list : Prog
unfolding expect cells
dt_cell_list =
    assert_eat K.LAngle
    ⨟ when cells false then expect (of_kind K.RAngle) ⨟ ret N.DtCellList yes
    else ret N.ParseError no

-- ================================================================ grammar.rs: values and properties

abbrev pub ITEM_RECOVERY_SET : List ℕ
ITEM_RECOVERY_SET =
    (K.Slash ∷ [])
    ++ (NAME_SET
    ++ ((K.Ampersand ∷ K.Equals ∷ K.LCurly ∷ K.Semicolon ∷ K.V1Directive ∷ K.PluginDirective ∷ K.DtIncludeDirective ∷ K.MemreserveDirective
    ∷ K.DeleteNodeDirective ∷ K.DeletePropertyDirective ∷ K.RCurly ∷ K.EndifDirective ∷ [])
    ++ (BEGIN_COND_SET ++ CONTINUE_COND_SET)))

abbrev pub PROPERTY_VALUE_RECOVERY_SET : List ℕ
PROPERTY_VALUE_RECOVERY_SET = K.String ∷ K.LAngle ∷ K.DtBytestring ∷ K.Ampersand ∷ []

abbrev pub ending_kinds : Bool → List ℕ
ending_kinds true = K.Semicolon ∷ []
ending_kinds false = []

-- `/bits/ 8 <..>`
unfoldable pub bits_value : Prog
unfolding at expect dt_cell_list
bits_value =
    in_marker
    (in_node N.DtsDirective (bump! ⨟ expect (of_kind K.Number))
    ⨟ when at (of_kind K.LAngle) then dt_cell_list else error_bump! ⨟ ret N.ParseError yes)

-- one value. yes: it was there. also: it was not, and the loop breaks. no: `?` returned the cell list's error.
unfoldable pub propvalue : Bool → Prog
unfolding silent silent_eat bits_value dt_cell_list Reference macro_invocation eat_dts_include eat_preprocessor_directive
propvalue semicolon =
    expected E.Value
    ⨟ when silent (of_kind K.BitsDirective) then bits_value
    else when silent_eat (of_kind K.String) then tell yes
    else when silent (of_kind K.LAngle) then in_marker dt_cell_list
    else when silent_eat Reference then tell yes
    else when silent (of_kind K.Ident) then macro_invocation ⨟ tell yes
    else when silent_eat (of_kind K.DtBytestring) or eat_dts_include or eat_preprocessor_directive (Values semicolon) then tell yes
    else error_wrap! ⨟ tell also

-- what follows a value
unfoldable pub after_propvalue : Bool → Prog
unfolding silent eat at
after_propvalue semicolon =
    when eat (of_kind K.Comma) then tell again
    else when at (set (ending_kinds semicolon)) then tell yes
    else when silent (set PROPERTY_VALUE_RECOVERY_SET) then error! ⨟ tell again
    else tell no

unfoldable pub propvalues_turn : Bool → Prog
unfolding propvalue after_propvalue
propvalues_turn semicolon =
    when end? then tell yes
    else case (propvalue semicolon) (tell no) (after_propvalue semicolon) (tell yes)

unfoldable pub propvalues_body : Bool → Prog
unfolding propvalues_turn
propvalues_body semicolon = loop (propvalues_turn semicolon)

-- the caller's marker
unfoldable pub dt_property : Prog
unfolding eat expect_recoverable
dt_property =
    when eat (of_kind K.Semicolon) then ret N.DtProperty yes
    else assert_eat K.Equals
    ⨟ when in_marker (when open_call (propvalues true) then ret N.PropValueList yes else ret N.PropValueList no) then
    expect_recoverable (of_kind K.Semicolon) ITEM_RECOVERY_SET ⨟ ret N.DtProperty yes
    else ret N.ParseError yes

-- ================================================================ grammar.rs: nodes and items

unfoldable pub node_body_turn : Prog
unfolding at
node_body_turn = while not! (at (of_kind K.RCurly)) and not! end? run open_call item

-- the caller's marker
unfoldable pub dt_node_body : Prog
unfolding node_body_turn expect expect_recoverable
dt_node_body =
    brace
    (assert_eat K.LCurly
    ⨟ loop node_body_turn
    ⨟ when end? then act emit_unclosed ⨟ ret N.DtNode yes
    else expect (of_kind K.RCurly) ⨟ expect_recoverable (of_kind K.Semicolon) ITEM_RECOVERY_SET ⨟ ret N.DtNode yes)

-- no: None. yes: Some(false). also: Some(true). `own_name`: the answer at a node's or property's own name, by
-- `allow_prop`.
unfoldable pub prefix_turn : Ans → Prog
unfolding eat silent eat_starting◌inside◌else◌ MacroSubstitutableName UnitAddress Reference
prefix_turn own_name =
    eat_starting MacroSubstitutableName inside
    (when eat (of_kind K.Colon) then ret N.DtLabel again
    else when eat UnitAddress and silent (of_kind K.Colon) then error_bump E.at_sign_in_label E.no_hint ⨟ ret N.ParseError again
    else ret N.NO_NODE own_name)
    else when eat Reference then tell yes
    else when eat (of_kind K.Slash) then tell yes
    else tell no

unfoldable pub eat_node_or_prop_prefix : Prog
unfolding eat prefix_turn
eat_node_or_prop_prefix = when eat (of_kind K.OmitIfNoRefDirective) then loop (prefix_turn yes) else loop (prefix_turn also)

-- `!allow_prop && ..`
unfoldable pub forbidden_property : Bool → Prog
unfolding silent
forbidden_property true = tell no
forbidden_property false = silent (set (K.Equals ∷ K.Semicolon ∷ []))

-- what follows the prefix, a property apart; the marker of eat_node_or_prop
unfoldable pub no_property : Bool → Prog
unfolding silent at dt_node_body dt_property forbidden_property
no_property allow-prop =
    when at (of_kind K.LCurly) then dt_node_body
    else when silent (of_kind K.RCurly) then (error_bump! ⨟ ret N.ParseError yes)
    else when forbidden_property allow-prop then (error E.msg_expected E.property_not_allowed ⨟ in_marker dt_property ⨟ ret N.ParseError yes)
    else (error! ⨟ (when not! (silent (set ITEM_RECOVERY_SET)) and not! end? then bump! else tell yes) ⨟ ret N.ParseError yes)

unfoldable pub eat_node_or_prop : Prog
unfolding at eat_node_or_prop_prefix no_property dt_property
eat_node_or_prop =
    in_marker
    (case eat_node_or_prop_prefix
    (ret N.NO_NODE no)
    (no_property false)
    (when at (set (K.Equals ∷ K.Semicolon ∷ [])) then dt_property else no_property true))

unfoldable pub eat_dts_directive : Prog
unfolding eat expect expect_recoverable eat_starting◌inside◌else◌ eat_dts_include Reference MacroSubstitutableName UnitAddress
eat_dts_directive =
    eat_starting set (K.V1Directive ∷ K.PluginDirective ∷ []) inside
    (expect_recoverable (of_kind K.Semicolon) ITEM_RECOVERY_SET ⨟ ret N.DtsDirective yes)
    else when eat_dts_include then tell yes
    else eat_starting of_kind K.MemreserveDirective inside
    (in_node N.DtsDirectiveArguments (expect (of_kind K.Number) ⨟ expect (of_kind K.Number))
    ⨟ expect_recoverable (of_kind K.Semicolon) ITEM_RECOVERY_SET ⨟ ret N.DtsDirective yes)
    else eat_starting set (K.DeleteNodeDirective ∷ K.DeletePropertyDirective ∷ []) inside
    (in_node N.DtsDirectiveArguments
    (when eat Reference then tell yes
    else when eat MacroSubstitutableName then eat UnitAddress
    else error!)
    ⨟ expect_recoverable (of_kind K.Semicolon) ITEM_RECOVERY_SET ⨟ ret N.DtsDirective yes)
    else tell no

unfoldable pub item_body : Prog
unfolding silent eat_node_or_prop dt_property dt_node_body eat_dts_directive eat_preprocessor_directive
item_body =
    when eat_node_or_prop then tell yes
    else when silent (of_kind K.Equals) then in_node N.ParseError (error E.msg_expected E.unnamed_property ⨟ in_marker dt_property)
    else when silent (of_kind K.LCurly) then in_node N.ParseError (error E.msg_expected E.unnamed_node ⨟ in_marker dt_node_body)
    else when silent (of_kind K.Semicolon) then error_wrap E.unmatched_semicolon E.no_hint
    else when eat_dts_directive or eat_preprocessor_directive Item then tell yes
    else error_wrap!

-- the four counted functions
unfoldable pub grammar : Rule → Prog
unfolding item_body propvalues_body eat_cell_body expr_binding_power_body
grammar item = item_body
grammar (propvalues semicolon) = propvalues_body semicolon
grammar (eat_cell until_end) = eat_cell_body until_end
grammar (expr_binding_power min-bp) = expr_binding_power_body min-bp

-- ================================================================ the entries

-- one top-level statement
unfoldable pub sourcefile_part : Prog
unfolding silent catch_unmatched_pp_directive
sourcefile_part =
    when silent (of_kind K.RCurly) then error E.unmatched_rcurly E.no_hint ⨟ in_node N.ParseError bump!
    else when catch_unmatched_pp_directive Item then tell yes
    else open_call item

unfoldable pub sourcefile_turn : Prog
unfolding sourcefile_part
sourcefile_turn = while not! end? run sourcefile_part

unfoldable pub entry_sourcefile : Prog
unfolding sourcefile_turn
entry_sourcefile = loop sourcefile_turn

-- document 01: entries 1 to 4
pub data Entry : Type 0 where
  SourceFile ReferenceNoamp PropValues Cells : Entry

unfoldable pub entry : Entry → Prog
unfolding entry_sourcefile reference_noamp cells
entry SourceFile = entry_sourcefile
entry ReferenceNoamp = reference_noamp
entry PropValues = open_call (propvalues false)
entry Cells = cells true

unfoldable pub root_kind : Entry → ℕ
root_kind SourceFile = N.SourceFile
root_kind ReferenceNoamp = N.DtPhandle
root_kind PropValues = N.EntryPropValues
root_kind Cells = N.EntryCells

-- parser/mod.rs, `Entrypoint::parse`: what is left over goes into one ParseError
unfoldable pub left_over_turn : Prog
left_over_turn = while not! end? run bump!

unfoldable pub left_over : Prog
unfolding left_over_turn
left_over = when end? then tell yes else expected E.End ⨟ in_node N.ParseError (error! ⨟ loop left_over_turn)

unfoldable pub whole : Entry → Prog
unfolding entry left_over
whole e = entry e ⨟ left_over
