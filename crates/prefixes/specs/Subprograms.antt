-- The subprograms of the definitions' programs that are functions here. proofs/Laws.antt shows that each stands in its
-- program.
use Rattle.definitions.specs.TokenKind as K
use Rattle.definitions.specs.NodeKind as N
use Rattle.definitions.specs.Errors as E
use Rattle.definitions.specs.Prog.{Ans, again, Prog, ret, ◌⨟◌, in_marker, loop}
use Rattle.definitions.specs.Check.{when◌then◌else◌, ◌and◌, error_bump, of_kind, silent, eat}
use Rattle.definitions.specs.Grammar.{MacroSubstitutableName, UnitAddress, prefix_turn}

-- the first case of `prefix_turn`, from its marker on
abbrev pub label_or_name : Ans → Prog
label_or_name own_name =
    in_marker
    (MacroSubstitutableName.consume
    ⨟ when eat (of_kind K.Colon) then ret N.DtLabel again
    else when eat UnitAddress and silent (of_kind K.Colon) then error_bump E.at_sign_in_label E.no_hint ⨟ ret N.ParseError again
    else ret N.NO_NODE own_name)

-- the loop of `eat_node_or_prop_prefix`
abbrev pub labels_and_name : Ans → Prog
labels_and_name own_name = loop (prefix_turn own_name)
