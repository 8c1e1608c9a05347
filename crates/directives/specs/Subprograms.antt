-- The subprograms of the definitions' programs that are functions here. proofs/Laws.antt shows that each stands in its
-- program.
use Rattle.std.specs.Prelude.{[], ◌∷◌}
use Rattle.definitions.specs.TokenKind as K
use Rattle.definitions.specs.NodeKind as N
use Rattle.definitions.specs.Prog.{no, yes, Prog, ret, ◌⨟◌}
use Rattle.definitions.specs.Check.{tell, when◌then◌else◌, in_node, error!, set, of_kind, eat, expect, expect_recoverable, eat_starting◌inside◌else◌}
use Rattle.definitions.specs.Grammar.{ITEM_RECOVERY_SET, MacroSubstitutableName, UnitAddress, Reference}

-- a directive's semicolon; the caller's marker
abbrev pub directive_end : Prog
directive_end = expect_recoverable (of_kind K.Semicolon) ITEM_RECOVERY_SET ⨟ ret N.DtsDirective yes

abbrev pub memreserve_arguments : Prog
memreserve_arguments = in_node N.DtsDirectiveArguments (expect (of_kind K.Number) ⨟ expect (of_kind K.Number))

abbrev pub deleted : Prog
deleted =
    when eat Reference then tell yes
    else when eat MacroSubstitutableName then eat UnitAddress
    else error!

abbrev pub delete_arguments : Prog
delete_arguments = in_node N.DtsDirectiveArguments deleted

-- the last cases of `eat_dts_directive`: those with arguments
abbrev pub directive_with_arguments : Prog
directive_with_arguments =
    eat_starting of_kind K.MemreserveDirective inside memreserve_arguments ⨟ directive_end
    else eat_starting set (K.DeleteNodeDirective ∷ K.DeletePropertyDirective ∷ []) inside delete_arguments ⨟ directive_end
    else tell no
