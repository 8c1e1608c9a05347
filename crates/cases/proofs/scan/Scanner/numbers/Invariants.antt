-- What is left stays a tail of what was.
use Rattle.std.proofs.Common.{◌≡◌, vec_len}
use Rattle.cases.specs.Scanner.{ReadsOn}
use Rattle.cases.proofs.scan.Scanner.numbers.Given as goal

abbrev pub invariant-loop : goal.invariant-loop
invariant-loop l = (vec_len l.numbers ≡ l.counter) × ReadsOn l.fn.self l.self
