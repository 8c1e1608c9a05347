use Rattle.std.proofs.Common.{ap, refl}
use Rattle.basics.proofs.Flags.{flags}
use Rattle.definitions.specs.Prog.{yes}
use Rattle.machine.specs.Machine as M
use Rattle.machine.specs.Walk.{said, perform}
use Rattle.parser.specs.View.{view, tokens_left}
use Rattle.parser.proofs.Ways.{acts}
use Rattle.parser.proofs.Parser.add_code.Goals as goal

pub returns : goal.returns
unfolding perform M.expect_code tokens_left
returns c =
    acts (λ b. ap (λ (x : M.Pending). said yes (M.with_pending x (view c.args.self.now))) c.add.ensures)
    (record { tokens = refl; events = refl; reports = refl; pool = refl }) (omega flags)
