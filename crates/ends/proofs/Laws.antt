-- The programs of specs/Subprograms.antt stand in the definitions' terms.
use mathlib.Core.Path.{◌≡◌, refl}
use mathlib.Core.Bool.{Bool}
use Rattle.definitions.specs.TokenKind as K
use Rattle.definitions.specs.Errors as E
use Rattle.definitions.specs.Prog.{no, yes, again, item, eat_cell, ◌⨟◌, open_call}
use Rattle.definitions.specs.Check.{tell, when◌then◌else◌, while◌run◌, error!, error_wrap, set, of_kind, silent, eat}
use Rattle.definitions.specs.Grammar.{PROPERTY_VALUE_RECOVERY_SET, cells_end, cells_turn, after_propvalue, node_body_turn}
use Rattle.ends.specs.Subprograms.{at_item, at_cells_recovery, at_values_end}

pub body_is : node_body_turn ≡ (while at_item run open_call item)
unfolding node_body_turn
body_is = refl

pub cells_is : (at_end : Bool) → cells_turn at_end
    ≡ (when open_call (eat_cell at_end) then tell again
    else when cells_end at_end then tell yes
    else when at_cells_recovery then error! ⨟ tell no
    else error_wrap E.msg_expected E.in_cells ⨟ tell again)
unfolding cells_turn
cells_is at_end = refl

pub after_is : (semicolon : Bool) → after_propvalue semicolon
    ≡ (when eat (of_kind K.Comma) then tell again
    else when at_values_end semicolon then tell yes
    else when silent (set PROPERTY_VALUE_RECOVERY_SET) then error! ⨟ tell again
    else tell no)
unfolding after_propvalue
after_is semicolon = refl
