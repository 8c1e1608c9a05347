-- `push_event`: the tag by its number.
use Rattle.std.proofs.Common.{◌∙◌}
use mathlib.Core.Path.{ap}
use Rattle.machine.specs.Machine.{push}
use Rattle.parser.specs.View.{view}
use Rattle.parser.proofs.Parser.push_event.Goals as goal

pub returns : goal.returns
returns c =
    let h = c.push_event_numbers.ensures in
    record { is = h.is ∙ ap (λ t. push t c.args.argument (view c.args.self.now)) c.number.ensures; same = h.same; left = h.left }
