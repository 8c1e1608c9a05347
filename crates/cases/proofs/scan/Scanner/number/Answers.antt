-- What stands before the digits is read, and then the digits.
use Rattle.std.proofs.Common.{rules}
use Rattle.cases.proofs.Tails.{on, past}
use Rattle.cases.proofs.scan.Scanner.number.Goals as goal

pub returns : goal.returns
returns c = search (rules, on, past)
