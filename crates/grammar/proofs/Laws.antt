-- The programs of specs/Subprograms.antt, here and of crate `ends`, stand in the definitions' terms.
use Prim.Native.Nat.{ℕ}
use mathlib.Core.Path.{◌≡◌, refl}
use mathlib.Core.Bool.{Bool}
use mathlib.Core.List.{List, [], ◌∷◌}
use Rattle.definitions.specs.TokenKind as K
use Rattle.definitions.specs.NodeKind as N
use Rattle.definitions.specs.Errors as E
use Rattle.definitions.specs.Token.{Token}
use Rattle.definitions.specs.Skeleton.{Span}
use Rattle.definitions.specs.Prog.{yes, Rule, item, Prog, ret, ◌⨟◌, in_marker, loop, brace, open_call}
use Rattle.definitions.specs.Check.{tell, when◌then◌else◌, in_node, expected, error, error_bump!, set, of_kind, silent, at, silent_eat, assert_eat}
use Rattle.definitions.specs.Grammar.{Item, Reference, macro_invocation, dt_expr, eat_cell_body, bits_value, dt_cell_list, propvalue, dt_property, node_body_turn, dt_node_body, forbidden_property, no_property, eat_node_or_prop, item_body, catch_unmatched_pp_directive, sourcefile_part}
use Rattle.machine.specs.Machine.{Machine}
use Rattle.machine.specs.Walk.{Walked, walk, walk_rule, walk_prog, unlabelled}
use Rattle.plain_cells.specs.Subprograms.{plain_cell}
use Rattle.plain_cells.proofs.Laws.{cases_first}
use Rattle.ends.specs.Subprograms.{unfinished, node_end, unmatched_rcurly}
use Rattle.grammar.specs.Subprograms.{cell_rest, value_rest, item_rest}

-- `eat_cell_body`: the plain cells are the test
pub cell_is : (ask : Rule → Machine → Walked) (ts : List Token) (b : Span) (until_end : Bool) (m : Machine)
    → walk ask ts b (when plain_cell then tell yes else when silent (of_kind K.LParen) then dt_expr ⨟ tell yes else cell_rest until_end) m
    ≡ walk ask ts b (eat_cell_body until_end) m
unfolding eat_cell_body
cell_is ask ts b until_end m =
    cases_first ask ts b (expected E.Cell) (silent_eat (set (K.Number ∷ K.Char ∷ []))) (silent (of_kind K.Ident)) macro_invocation (silent_eat Reference)
    (when silent (of_kind K.LParen) then dt_expr ⨟ tell yes else cell_rest until_end) m

pub value_is : (semicolon : Bool) → propvalue semicolon
    ≡ (expected E.Value
    ⨟ when silent (of_kind K.BitsDirective) then bits_value
    else when silent_eat (of_kind K.String) then tell yes
    else when silent (of_kind K.LAngle) then in_marker dt_cell_list
    else value_rest semicolon)
unfolding propvalue
value_is semicolon = refl

pub body_is : dt_node_body
    ≡ brace (assert_eat K.LCurly
    ⨟ loop node_body_turn
    ⨟ node_end)
unfolding dt_node_body
body_is = refl

pub item_is : item_body
    ≡ (when eat_node_or_prop then tell yes
    else when silent (of_kind K.Equals) then in_node N.ParseError (error E.msg_expected E.unnamed_property ⨟ in_marker dt_property)
    else when silent (of_kind K.LCurly) then in_node N.ParseError (error E.msg_expected E.unnamed_node ⨟ in_marker dt_node_body)
    else item_rest)
unfolding item_body
item_is = refl

pub no_property_is : (allow-prop : Bool) → no_property allow-prop
    ≡ (when at (of_kind K.LCurly) then dt_node_body
    else when silent (of_kind K.RCurly) then error_bump! ⨟ ret N.ParseError yes
    else when forbidden_property allow-prop then error E.msg_expected E.property_not_allowed ⨟ in_marker dt_property ⨟ ret N.ParseError yes
    else unfinished)
unfolding no_property
no_property_is allow-prop = refl

pub sourcefile_is : sourcefile_part
    ≡ (when silent (of_kind K.RCurly) then unmatched_rcurly
    else when catch_unmatched_pp_directive Item then tell yes
    else open_call item)
unfolding sourcefile_part
sourcefile_is = refl

-- a sequence, one way or the other
pub sequence_is : (ask : Rule → Machine → Walked) (ts : List Token) (b : Span) (p q r : Prog) (m : Machine) → walk ask ts b (p ⨟ q ⨟ r) m ≡ walk ask ts b ((p ⨟ q) ⨟ r) m
unfolding walk
sequence_is ask ts b p q r m = refl

pub cell_body_is : (n : ℕ) (ts : List Token) (until_end : Bool) (m : Machine)
    → walk_prog n ts unlabelled (when plain_cell then tell yes else when silent (of_kind K.LParen) then dt_expr ⨟ tell yes else cell_rest until_end) m
    ≡ walk_prog n ts unlabelled (eat_cell_body until_end) m
unfolding walk_prog
cell_body_is n ts until_end m = cell_is (walk_rule n ts) ts unlabelled until_end m
