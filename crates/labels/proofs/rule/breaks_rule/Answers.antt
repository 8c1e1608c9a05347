-- `breaks_rule`: the part of the bytes judged, if it is inside.
use Rattle.std.proofs.Common.{arith}
use Rattle.std.proofs.lemmas.Grind.{common_steps}
use Rattle.labels.specs.Model.{breaks}
use Rattle.labels.proofs.rule.breaks_rule.Goals as goal

pub returns-in-Some : goal.returns-in-Some
unfolding breaks
returns-in-Some c = grind (arith, common_steps, c.in-Some.ensures.lookup)

pub returns-in-None : goal.returns-in-None
unfolding breaks
returns-in-None c = grind (arith, common_steps, c.in-None.ensures.lookup)
