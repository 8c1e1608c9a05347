-- The programs of specs/Subprograms.antt stand in the definitions' terms.
use mathlib.Core.Path.{◌≡◌, refl}
use mathlib.Core.List.{[], ◌∷◌}
use Rattle.definitions.specs.TokenKind as K
use Rattle.definitions.specs.NodeKind as N
use Rattle.definitions.specs.Prog.{no, yes, ret, ◌⨟◌, in_marker}
use Rattle.definitions.specs.Check.{tell, when◌then◌else◌, bump!, set, of_kind, at, expect, eat_starting◌inside◌else◌}
use Rattle.definitions.specs.Grammar.{eat_dts_include, eat_dts_directive}
use Rattle.directives.specs.Subprograms.{directive_end, memreserve_arguments, delete_arguments, directive_with_arguments}

pub directive_is : eat_dts_directive
    ≡ (eat_starting set (K.V1Directive ∷ K.PluginDirective ∷ []) inside directive_end
    else when eat_dts_include then tell yes
    else directive_with_arguments)
unfolding eat_dts_directive
directive_is = refl

pub include_is : eat_dts_include ≡ when at (of_kind K.DtIncludeDirective) then in_marker (bump! ⨟ expect (of_kind K.String) ⨟ ret N.DtsDirective yes) else tell no
unfolding eat_dts_include eat_starting◌inside◌else◌
include_is = refl

pub version_is : eat_dts_directive
    ≡ (when at (set (K.V1Directive ∷ K.PluginDirective ∷ [])) then in_marker (bump! ⨟ directive_end)
    else when eat_dts_include then tell yes
    else directive_with_arguments)
unfolding eat_dts_directive eat_starting◌inside◌else◌
version_is = refl

pub arguments_are : directive_with_arguments
    ≡ (when at (of_kind K.MemreserveDirective) then in_marker (bump! ⨟ memreserve_arguments ⨟ directive_end)
    else when at (set (K.DeleteNodeDirective ∷ K.DeletePropertyDirective ∷ [])) then in_marker (bump! ⨟ delete_arguments ⨟ directive_end)
    else tell no)
unfolding eat_starting◌inside◌else◌
arguments_are = refl
