-- `width_of`: the sum so far and the bytes still to add are all.
use Rattle.std.proofs.Common.{◌+◌, ◌-◌, ◌∙◌, sym, arith}
use Rattle.sink_tokens.proofs.Runs.{width_step, width_end}
use Rattle.sink_tokens.proofs.token_row.width_of.Goals as goal

pub loop-at-preserved : goal.loop-at-preserved
loop-at-preserved c =
    let l = c.loop-at in
    let left = c.args.from + c.args.n in
    rw (c.add-sum.ensures, ← width_step c.args.tokens.now l.at l.sum (left - (l.at + 1)) (left - l.at) (omega arith)) l.invariant

pub returns : goal.returns
returns c = sym (width_end _ _ _ (c.args.from + c.args.n - c.loop-at.at) (omega arith)) ∙ c.loop-at.invariant
