use Rattle.std.proofs.Common.{rules}
use Rattle.cases.proofs.Tails.{on}
use Rattle.cases.proofs.scan.Scanner.numbers.Goals as goal

pub loop-preserved : goal.loop-preserved
loop-preserved c = search (rules, on)
