-- `judge_root`: the root's own Names, else those of the nodes below it.
use Rattle.std.proofs.Common.{arith}
use Rattle.std.proofs.lemmas.Grind.{common_steps}
use Rattle.labels.specs.Model.{strict_on}
use Rattle.labels.proofs.run.Run.judge_root.Goals as goal

pub returns-then-is_judged : goal.returns-then-is_judged
unfolding strict_on
returns-then-is_judged c = grind (arith, common_steps)

pub returns-else-is_judged : goal.returns-else-is_judged
unfolding strict_on
returns-else-is_judged c = grind (arith, common_steps)
