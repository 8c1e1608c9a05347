use Rattle.std.proofs.Common.{◌∙◌, arith}
use Rattle.input.proofs.RowChecks.{row_refused, row_passed, rows_short, rows_covered, handed_on}
use Rattle.input.proofs.causes.check_rows.Goals as goal

pub returns-in_err-left : goal.returns-in_err-left
returns-in_err-left c =
    handed_on _ _ c.from_residual.ensures.1
    ∙ (row_refused c.args.size c.args.rows.now c.loop-i.i c.loop-i.left c.loop-i-test.true c.loop-i.invariant.inside _ c.in_err-left.ensures.value ∙ c.loop-i.invariant.as_all)

pub loop-i-preserved : goal.loop-i-preserved
loop-i-preserved c = record {
  inside = omega (arith, c.in_ok-left.ensures.rest);
  as_all = row_passed c.args.size c.args.rows.now c.loop-i.i c.loop-i.left c.loop-i-test.true c.loop-i.invariant.inside c.in_ok-left.left c.in_ok-left.ensures.value c.in_ok-left.ensures.rest ∙ c.loop-i.invariant.as_all;
}

pub returns-then-left-ne0 : goal.returns-then-left-ne0
returns-then-left-ne0 c =
    rows_short c.args.size c.args.rows.now c.loop-i.i c.loop-i.left c.loop-i-test.false c.loop-i.invariant.inside (omega arith) c.if-left-ne0.true
    ∙ c.loop-i.invariant.as_all

pub returns : goal.returns
returns c =
    rows_covered c.args.size c.args.rows.now c.loop-i.i c.loop-i.left c.loop-i-test.false c.loop-i.invariant.inside c.if-left-ne0.false
    ∙ c.loop-i.invariant.as_all
