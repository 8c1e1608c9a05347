-- `add_name`: past the name; its report if it stands directly in the node and breaks the rule.
use Rattle.std.proofs.Common.{arith}
use Rattle.std.proofs.lemmas.Grind.{common_steps}
use Rattle.labels.specs.Model.{name_on}
use Rattle.labels.proofs.run.Run.add_name.Goals as goal

pub returns-then-breaks_rule : goal.returns-then-breaks_rule
unfolding name_on
returns-then-breaks_rule c = grind (arith, common_steps)

pub returns-else-walk-eq0 : goal.returns-else-walk-eq0
unfolding name_on
returns-else-walk-eq0 c = grind (arith, common_steps)
