-- `keeps_rule`: the first byte a letter, and the others in a label.
use Rattle.std.proofs.Common.{arith}
use Rattle.std.proofs.lemmas.Grind.{common_steps}
use Rattle.definitions.specs.Strict.{keeps_rule}
use Rattle.labels.proofs.LabelBytes.{first_keeps}
use Rattle.labels.proofs.rule.keeps_rule.Goals as goal

pub returns-in-empty : goal.returns-in-empty
unfolding keeps_rule
returns-in-empty c = grind (arith)

pub returns-then-is_letter : goal.returns-then-is_letter
returns-then-is_letter c = grind (arith, common_steps, first_keeps)

pub returns-else-is_letter : goal.returns-else-is_letter
returns-else-is_letter c = grind (arith, common_steps, first_keeps)
