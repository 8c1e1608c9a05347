-- What is left is a tail of what was, step by step.
use Rattle.std.proofs.Common.{rules}
use Rattle.cases.proofs.Tails.{on}
use Rattle.queries_run.proofs.asked.wide.Goals as goal

pub returns : goal.returns
returns c = search (rules, on)
