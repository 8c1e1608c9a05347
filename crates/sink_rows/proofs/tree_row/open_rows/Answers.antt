-- `open_rows`: what is left of the chain is written as all of it is.
use Rattle.std.proofs.Common.{◌-◌, arith}
use Rattle.sink_rows.proofs.Chains.{next_start, open_step, open_end}
use Rattle.sink_rows.proofs.tree_row.open_rows.Goals as goal

pub loop-left-preserved : goal.loop-left-preserved
loop-left-preserved c =
    let l = c.loop-left in
    rw (
      c.unwrap_or-j.ensures,
      next_start _ _ _ c.link.ensures.value,
      c.write_row.ensures,
      c.add-inner.ensures,
      c.add-up.ensures,
      c.field-kind.ensures,
      ← open_step c.args.events.now l.j c.args.first c.args.byte c.args.parent c.args.children l.trees (l.left - 1) l.left (omega arith),
    ) l.invariant

pub returns : goal.returns
returns c =
    let l = c.loop-left in
    rw (
      c.write_row-2.ensures,
      c.field-kind-2.ensures,
      ← open_end c.args.events.now l.j c.args.first c.args.byte c.args.parent c.args.children l.trees l.left (omega arith),
    ) l.invariant
