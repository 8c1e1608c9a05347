-- `finish`: the promise is kept, since the answer is the model's.
use native.Mathlib.Omega.{arith}
use Rattle.std.proofs.lemmas.Grind.{common_steps}
use Rattle.sink.specs.Model.{finish_all, finished_in}
use Rattle.sink.proofs.Whole.{kept_promise}
use Rattle.sink.proofs.finish.Goals as goal

pub returns-then-errors_fit-clause-promise : goal.returns-then-errors_fit-clause-promise
unfolding finish_all finished_in
returns-then-errors_fit-clause-promise c = kept_promise _ _ _ _ _ _ _ _ (grind (arith, common_steps))

pub returns-else-rows_fit-clause-promise : goal.returns-else-rows_fit-clause-promise
unfolding finish_all finished_in
returns-else-rows_fit-clause-promise c = kept_promise _ _ _ _ _ _ _ _ (grind (arith, common_steps))
