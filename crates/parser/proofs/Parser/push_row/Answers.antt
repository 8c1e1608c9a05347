-- `push_row`: the tag by its number.
use Rattle.std.proofs.Common.{◌∙◌}
use mathlib.Core.Path.{ap}
use Rattle.machine.specs.Machine.{push_row as push_row_machine}
use Rattle.parser.specs.View.{view}
use Rattle.parser.proofs.Parser.push_row.Goals as goal

pub returns : goal.returns
returns c =
    let h = c.push_row_numbers.ensures in
    record { is = h.is ∙ ap (λ t. push_row_machine t c.args.argument (view c.args.self.now)) c.number.ensures; same = h.same; left = h.left }
