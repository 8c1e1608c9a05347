-- `one_event`: a case for each event.
use Rattle.std.proofs.Common.{arith}
use Rattle.std.proofs.lemmas.Grind.{common_steps}
use Rattle.labels.specs.Model.{event_on}
use Rattle.labels.proofs.run.Run.one_event.Goals as goal

pub returns-in-Start : goal.returns-in-Start
unfolding event_on
returns-in-Start c = rw c.in-Start.is

pub returns-in-Token : goal.returns-in-Token
unfolding event_on
returns-in-Token c = rw (c.in-Token.is, ← c.add_token.ensures)

pub returns-in-Name : goal.returns-in-Name
unfolding event_on
returns-in-Name c = rw (c.in-Name.is, ← c.add_name.ensures)

pub returns-in-Finish : goal.returns-in-Finish
unfolding event_on
returns-in-Finish c = grind (arith, common_steps)

pub returns-in-Other : goal.returns-in-Other
unfolding event_on
returns-in-Other c = rw c.in-Other.is
