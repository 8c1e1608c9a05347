use Rattle.std.proofs.Common.{arith, sym}
use Rattle.input.proofs.RowChecks.{text_first, text_next, text_bad, text_end}
use Rattle.input.proofs.causes.check_texts.Goals as goal
use Rattle.input.proofs.causes.check_texts.Goals.{then-rest-n-via-then-rest-n, then-rest-n-via-else-rest-n+then-not-is_spelled}

pub loop-i-init : goal.loop-i-init
loop-i-init c = text_first c.args.rows.now c.args.bytes.now

pub loop-i-preserved : goal.loop-i-preserved
loop-i-preserved c = text_next c.args.rows.now c.args.bytes.now c.loop-i.i c.loop-i.rest.now c.loop-i-test.true c.loop-i.invariant c.if-rest-n.false (sym c.if-not-is_spelled.ensures)

pub returns-then-rest-n : goal.returns-then-rest-n
returns-then-rest-n c =
    let bad = text_bad c.args.rows.now c.args.bytes.now c.loop-i.i c.loop-i.rest.now c.loop-i-test.true c.loop-i.invariant in
    elim c.then-rest-n.branch [
      | then-rest-n-via-then-rest-n w ↦ λ p. bad p (λ b. absurd (omega (arith, b, w.if-rest-n.true)))
      | then-rest-n-via-else-rest-n+then-not-is_spelled w ↦ λ p. bad p (λ b. sym w.if-not-is_spelled.ensures)
    ]

pub returns : goal.returns
returns c = λ p. text_end c.args.rows.now c.args.bytes.now c.loop-i.i c.loop-i.rest.now c.loop-i-test.false c.loop-i.invariant
