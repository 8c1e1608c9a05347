use Rattle.input.proofs.RowChecks.{AtText}
use Rattle.input.proofs.causes.check_texts.Given as goal

abbrev pub invariant-loop-i : goal.invariant-loop-i
invariant-loop-i l = AtText l.rows l.bytes l.i l.rest
