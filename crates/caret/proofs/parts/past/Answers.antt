-- `past`: as many rows are passed from here as are left of those from the start.
use native.Mathlib.Omega.{arith}
use mathlib.Core.Path.{refl}
use Rattle.caret.proofs.Turns.{passing, passed_on, passed_all}
use Rattle.caret.proofs.parts.past.Goals as goal

pub loop-rest-init : goal.loop-rest-init
loop-rest-init c = passing (record { classes = c.requires.0; room = c.requires.1.0; adds = c.requires.1.1 }) refl (omega arith)

pub loop-rest-preserved : goal.loop-rest-preserved
loop-rest-preserved c = passed_on c.loop-rest.invariant c.loop-rest-test.true

pub returns : goal.returns
returns c = passed_all c.loop-rest.invariant (omega arith)
