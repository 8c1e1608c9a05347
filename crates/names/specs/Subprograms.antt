-- The subprograms of the definitions' programs that are functions here. Used in proofs only.
use Rattle.definitions.specs.TokenKind as K
use Rattle.definitions.specs.Prog.{yes, Prog, ◌⨟◌}
use Rattle.definitions.specs.Check.{tell, when◌then◌else◌, ◌and◌, not!, end?, error_wrap!, set, of_kind, Name, silent, at, eat}
use Rattle.definitions.specs.Grammar.{CONTINUE_COND_SET, path_segment, path_rest}

-- whether a path goes on: the test of `path_turn`
unfoldable pub at_segment : Prog
unfolding at silent
at_segment =
    not! (at (of_kind K.RCurly)) and not! end? and not! (silent (set CONTINUE_COND_SET)) and not!
    (silent (of_kind K.EndifDirective))

-- `reference_noamp`: after the LCurly
unfoldable pub path : Prog
unfolding eat path_segment path_rest
path =
    when eat (of_kind K.Slash) then
    (when eat (of_kind K.RCurly) then tell yes else path_segment ⨟ path_rest)
    else (when eat Name then tell yes else error_wrap!) ⨟ path_rest
