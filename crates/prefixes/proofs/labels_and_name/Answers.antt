use Rattle.std.proofs.Common.{arith, ap}
use Rattle.definitions.specs.Prog.{no}
use Rattle.machine.specs.Walk.{said, unlabelled}
use Rattle.parser.specs.View.{ans_of}
use Rattle.steps.specs.View.{took_if_again}
use Rattle.parser.proofs.Ways.{walks, answers, turns}
use Rattle.prefixes.proofs.Stops.{stops}
use Rattle.prefixes.proofs.labels_and_name.Goals as goal

pub loop-answer-preserved : goal.loop-answer-preserved
loop-answer-preserved c = λ ask b.
    turns (c.loop-answer.invariant ask b) (answers (ap ans_of c.in-Again.is) (c.turn.ensures.walks.way ask b))
    (omega (arith, c.turn.ensures.taken_again, ap took_if_again c.in-Again.is))

pub returns-in_default : goal.returns-in_default
returns-in_default c =
    let here = c.loop-answer.invariant (λ ts r m. said no m) unlabelled in
    record {
      walks = walks (λ ask b. stops c.turn.result c.in_default.not-Again (c.loop-answer.invariant ask b) (c.turn.ensures.walks.way ask b));
      taken = omega (arith, here.left, c.turn.ensures.taken);
    }
