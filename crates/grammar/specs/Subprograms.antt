-- The subprograms of the definitions' programs that are functions here, and the code's enums as the definitions have
-- them. proofs/Laws.antt shows that each subprogram stands in its program.
use Rattle.std.specs.Prelude.{Bool}
use Rattle.definitions.specs.TokenKind as K
use Rattle.definitions.specs.Errors as E
use Rattle.definitions.specs.Prog.{no, yes, also, Prog, ◌⨟◌}
use Rattle.definitions.specs.Check.{tell, when◌then◌else◌, ◌and◌, ◌or◌, not!, error_wrap, error_wrap!, set, of_kind, silent, at, silent_eat}
use Rattle.definitions.specs.Grammar.{Inside, Item, Values, Cell, OPERATORS_SET, macro_invocation, Reference, eat_dts_include, eat_preprocessor_directive, eat_dts_directive, Entry}
use Rattle.definitions.specs.Grammar as G
use Rattle.grammar.specs.declared.preprocessor_directive.Inside.TheVariants as I
use Rattle.grammar.specs.declared.preprocessor_directive.Inside as D
use Rattle.grammar.specs.declared.entry.Entrypoint.TheVariants as E'
use Rattle.grammar.specs.declared.entry.Entrypoint as D'

-- ---------------------------------------------------------------- enums

abbrev pub inside_of : D.Inside → Inside
inside_of I.Item = Item
inside_of (I.Values semicolon) = Values semicolon
inside_of (I.Cell until_end) = Cell until_end

abbrev pub entry_for : D'.Entrypoint → Entry
entry_for E'.SourceFile = G.SourceFile
entry_for E'.ReferenceNoamp = G.ReferenceNoamp
entry_for E'.PropValues = G.PropValues
entry_for E'.Cells = G.Cells

-- ---------------------------------------------------------------- programs

-- the last cases of `eat_cell_body`
abbrev pub cell_rest : Bool → Prog
cell_rest until_end =
    when eat_dts_include or eat_preprocessor_directive (Cell until_end) then tell yes
    else when silent (set OPERATORS_SET) and not! (at (of_kind K.RAngle)) then error_wrap E.msg_expected E.missing_parentheses ⨟ tell yes
    else tell no

-- the last cases of `propvalue`
abbrev pub value_rest : Bool → Prog
value_rest semicolon =
    when silent_eat Reference then tell yes
    else when silent (of_kind K.Ident) then macro_invocation ⨟ tell yes
    else when silent_eat (of_kind K.DtBytestring) or eat_dts_include or eat_preprocessor_directive (Values semicolon) then tell yes
    else error_wrap! ⨟ tell also

-- the last cases of `item_body`
abbrev pub item_rest : Prog
item_rest =
    when silent (of_kind K.Semicolon) then error_wrap E.unmatched_semicolon E.no_hint
    else when eat_dts_directive or eat_preprocessor_directive Item then tell yes
    else error_wrap!
