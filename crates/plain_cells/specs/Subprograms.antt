-- The subprograms of the definitions' programs that are functions here. proofs/Laws.antt shows that each stands in its
-- program.
use Rattle.std.specs.Prelude.{[], ◌∷◌}
use Rattle.definitions.specs.TokenKind as K
use Rattle.definitions.specs.Errors as E
use Rattle.definitions.specs.Prog.{yes, Prog, ◌⨟◌}
use Rattle.definitions.specs.Check.{tell, when◌then◌else◌, expected, set, of_kind, silent, silent_eat}
use Rattle.definitions.specs.Grammar.{macro_invocation, Reference}

-- the first cases of `eat_cell_body`: those that open no call
abbrev pub plain_cell : Prog
plain_cell =
    expected E.Cell
    ⨟ when silent_eat (set (K.Number ∷ K.Char ∷ [])) then tell yes
    else when silent (of_kind K.Ident) then macro_invocation ⨟ tell yes
    else silent_eat Reference
