-- The subprograms of the definitions' programs that are functions here. proofs/Laws.antt shows that each stands in its
-- program.
use Rattle.std.specs.Prelude.{Bool, [], ◌∷◌}
use Rattle.definitions.specs.TokenKind as K
use Rattle.definitions.specs.NodeKind as N
use Rattle.definitions.specs.Errors as E
use Rattle.definitions.specs.Prog.{yes, emit_unclosed, Prog, ret, act, ◌⨟◌}
use Rattle.definitions.specs.Check.{error, tell, when◌then◌else◌, ◌and◌, ◌or◌, not!, in_node, end?, bump!, error!, set, of_kind, silent, at, expect, expect_recoverable}
use Rattle.definitions.specs.Grammar.{CONTINUE_COND_SET, ITEM_RECOVERY_SET, ending_kinds}

-- whether a node's body goes on: the test of `node_body_turn`
abbrev pub at_item : Prog
at_item = not! (at (of_kind K.RCurly)) and not! end?

-- whether cells are cut off: the third test of `cells_turn`
abbrev pub at_cells_recovery : Prog
at_cells_recovery =
    silent (set (K.Semicolon ∷ K.LCurly ∷ K.RCurly ∷ [])) or end? or silent (set CONTINUE_COND_SET) or silent (of_kind K.EndifDirective)

-- whether values end: the second test of `after_propvalue`
abbrev pub at_values_end : Bool → Prog
at_values_end semicolon = at (set (ending_kinds semicolon))

-- the last case of `no_property`; the caller's marker
abbrev pub unfinished : Prog
unfinished =
    error!
    ⨟ (when not! (silent (set ITEM_RECOVERY_SET)) and not! end? then bump! else tell yes)
    ⨟ ret N.ParseError yes

-- the end of `dt_node_body`; the caller's marker, and the brace's label
abbrev pub node_end : Prog
node_end =
    when end? then act emit_unclosed ⨟ ret N.DtNode yes
    else expect (of_kind K.RCurly) ⨟ expect_recoverable (of_kind K.Semicolon) ITEM_RECOVERY_SET ⨟ ret N.DtNode yes

-- the first case of `sourcefile_part`
abbrev pub unmatched_rcurly : Prog
unmatched_rcurly = error E.unmatched_rcurly E.no_hint ⨟ in_node N.ParseError bump!
