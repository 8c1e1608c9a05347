-- What `MayRefuse` allows, and what it shuts out: another number, and a place where nothing is refused.
use native.Mathlib.Omega.{arith}
use mathlib.Core.Path.{refl}
use Rattle.definitions.specs.Layout.{TOO_LONG, TOO_DEEP, NO_REPORT_ROOM, NO_TREE_ROOM}
use Rattle.grammar.specs.Runs.{MayRefuse}

pub nothing : MayRefuse 0 0
nothing = record { none = λ e. refl; least = λ h. absurd (omega (arith, h)); most = omega arith }

pub too_deep : MayRefuse TOO_DEEP 3
too_deep = record { none = λ e. absurd (omega (arith, e)); least = λ h. omega arith; most = omega arith }

pub no_report_room : MayRefuse NO_REPORT_ROOM 0
no_report_room = record { none = λ e. absurd (omega (arith, e)); least = λ h. omega arith; most = omega arith }

pub not_too_long : MayRefuse TOO_LONG 0 → ⊥
not_too_long h = omega (arith, h.least (omega arith))

pub not_for_the_tree : MayRefuse NO_TREE_ROOM 0 → ⊥
not_for_the_tree h = omega (arith, h.most)

pub no_place_of_nothing : MayRefuse 0 1 → ⊥
no_place_of_nothing h = omega (arith, h.none refl)
