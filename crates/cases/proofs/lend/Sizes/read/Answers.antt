use Rattle.std.proofs.Common.{rules}
use Rattle.cases.proofs.Tails.{on}
use Rattle.cases.proofs.lend.Sizes.read.Goals as goal

pub returns : goal.returns
returns c = search (rules, on)
