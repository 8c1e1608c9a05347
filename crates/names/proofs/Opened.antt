-- What the names of the grammar's programs stand for: each line of Grammar.antt that a proof here looks into.
use mathlib.Core.Path.{◌≡◌, refl}
use mathlib.Core.List.{[], ◌∷◌}
use Rattle.definitions.specs.TokenKind as K
use Rattle.definitions.specs.NodeKind as N
use Rattle.definitions.specs.Prog.{yes, silent_at, bump_name, act, ◌⨟◌, loop}
use Rattle.definitions.specs.Check.{tell, when◌then◌else◌, ◌and◌, not!, while◌run◌, in_node, end?, bump!, error_wrap!, of_kind, NAME_SET, Name, LabelName, silent, at, eat, expect}
use Rattle.definitions.specs.Grammar.{CONTINUE_COND_SET, macro_invocation, silent_at_macro_invocation_with_args, MacroSubstitutableName, UnitAddress, path_segment, path_turn, path_rest, reference_noamp, Reference}
use Rattle.names.specs.Subprograms.{at_segment, path}

-- ---------------------------------------------------------------- the grammar's matchers

pub name_consume_is : MacroSubstitutableName.consume ≡ when silent_at_macro_invocation_with_args then macro_invocation else act (bump_name NAME_SET)
unfolding MacroSubstitutableName
name_consume_is = refl

pub address_consume_is : UnitAddress.consume ≡ in_node N.UnitAddress (bump! ⨟ expect MacroSubstitutableName)
unfolding UnitAddress
address_consume_is = refl

pub reference_consume_is : Reference.consume ≡ in_node N.DtPhandle (bump! ⨟ reference_noamp)
unfolding Reference
reference_consume_is = refl

-- ---------------------------------------------------------------- references

pub path_segment_is : path_segment ≡ when eat Name then eat UnitAddress else error_wrap!
unfolding path_segment
path_segment_is = refl

pub at_segment_is : at_segment
    ≡ not! (at (of_kind K.RCurly)) and not! end? and not! (act (silent_at CONTINUE_COND_SET)) and not! (act (silent_at (K.EndifDirective ∷ [])))
unfolding at_segment silent
at_segment_is = refl

pub path_turn_is : path_turn ≡ while at_segment run (expect (of_kind K.Slash) ⨟ path_segment)
unfolding path_turn at_segment
path_turn_is = refl

pub path_rest_is : path_rest ≡ loop path_turn ⨟ expect (of_kind K.RCurly)
unfolding path_rest
path_rest_is = refl

pub path_is : path ≡ when eat (of_kind K.Slash) then
    (when eat (of_kind K.RCurly) then tell yes else path_segment ⨟ path_rest)
    else (when eat Name then tell yes else error_wrap!) ⨟ path_rest
unfolding path
path_is = refl

pub reference_noamp_is : reference_noamp ≡ when eat (of_kind K.LCurly) then path
    else when silent_at_macro_invocation_with_args then macro_invocation
    else when eat LabelName then tell yes
    else error_wrap!
unfolding reference_noamp path
reference_noamp_is = refl
