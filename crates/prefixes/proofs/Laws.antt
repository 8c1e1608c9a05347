-- The programs of specs/Subprograms.antt stand in the definitions' terms.
use mathlib.Core.Path.{◌≡◌, refl}
use Rattle.definitions.specs.TokenKind as K
use Rattle.definitions.specs.Prog.{Ans, no, yes, also}
use Rattle.definitions.specs.Check.{tell, when◌then◌else◌, of_kind, at, eat, eat_starting◌inside◌else◌}
use Rattle.definitions.specs.Grammar.{MacroSubstitutableName, Reference, prefix_turn, eat_node_or_prop_prefix}
use Rattle.prefixes.specs.Subprograms.{label_or_name, labels_and_name}

pub prefix_is : (own_name : Ans) → prefix_turn own_name
    ≡ (when at MacroSubstitutableName then label_or_name own_name
    else when eat Reference then tell yes
    else when eat (of_kind K.Slash) then tell yes
    else tell no)
unfolding prefix_turn eat_starting◌inside◌else◌
prefix_is own_name = refl

pub labels_is : eat_node_or_prop_prefix ≡ (when eat (of_kind K.OmitIfNoRefDirective) then labels_and_name yes else labels_and_name also)
unfolding eat_node_or_prop_prefix
labels_is = refl
