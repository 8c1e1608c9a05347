-- The subprogram of the definitions' `macro_invocation` that is a function here. Used in proofs only.
use Rattle.definitions.specs.TokenKind as K
use Rattle.definitions.specs.Prog.{yes, Prog, ◌⨟◌, loop}
use Rattle.definitions.specs.Check.{tell, when◌then◌else◌, not!, bump!, of_kind, at, expect}
use Rattle.definitions.specs.Grammar.{macro_argument_turn}

-- `macro_invocation`: from the LParen on
unfoldable pub argument_list : Prog
unfolding at expect macro_argument_turn
argument_list =
    bump!
    ⨟ (when not! (at (of_kind K.RParen)) then loop macro_argument_turn else tell yes)
    ⨟ expect (of_kind K.RParen)
