-- What the names of the programs of a macro invocation stand for: each line of Grammar.antt that a proof here looks
-- into.
use mathlib.Core.Path.{◌≡◌, refl}
use Rattle.definitions.specs.TokenKind as K
use Rattle.definitions.specs.NodeKind as N
use Rattle.definitions.specs.Prog.{no, yes, again, immediate, bump_argument, ret, act, ◌⨟◌, in_marker, loop}
use Rattle.definitions.specs.Check.{tell, when◌then◌else◌, not!, in_node, bump!, expected, of_kind, at, assert_eat, expect}
use Rattle.definitions.specs.Grammar.{macro_argument_turn, macro_invocation}
use Rattle.macros.specs.Subprograms.{argument_list}

pub macro_argument_turn_is : macro_argument_turn ≡ when in_marker (when act bump_argument then ret N.MacroArgument yes else ret N.MacroArgument no) then bump! ⨟ tell again else tell yes
unfolding macro_argument_turn
macro_argument_turn_is = refl

pub argument_list_is : argument_list ≡ bump! ⨟ (when not! (at (of_kind K.RParen)) then loop macro_argument_turn else tell yes) ⨟ expect (of_kind K.RParen)
unfolding argument_list
argument_list_is = refl

pub macro_invocation_is : macro_invocation ≡ in_node N.MacroInvocation (assert_eat K.Ident ⨟ when expected K.LParen ⨟ act (immediate K.LParen) then argument_list else tell yes)
unfolding macro_invocation argument_list
macro_invocation_is = refl
