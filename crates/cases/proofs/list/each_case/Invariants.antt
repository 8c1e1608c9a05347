-- Each turn takes a byte or the last ones.
use Rattle.std.proofs.Common.{length}
use Rattle.cases.proofs.list.each_case.Given as goal

abbrev pub decreases-loop-scanner : goal.decreases-loop-scanner
decreases-loop-scanner g l = length l.scanner.rest.now
