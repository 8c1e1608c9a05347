-- `add_token`: past the token; an LCurly directly in the node is noted.
use Rattle.std.proofs.Common.{arith}
use Rattle.std.proofs.lemmas.Grind.{common_steps}
use Rattle.labels.specs.Model.{token_on}
use Rattle.labels.proofs.run.Run.add_token.Goals as goal

pub returns : goal.returns
unfolding token_on
returns c = grind (arith, common_steps)
