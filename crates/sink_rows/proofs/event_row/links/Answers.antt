-- `links`: those still to count and those counted are all.
use Rattle.std.proofs.Common.{◌+◌, ◌-◌, ◌/◌, length, arith}
use Rattle.definitions.specs.Layout.{EVENT_ROW}
use Rattle.sink_rows.proofs.Chains.{links_more, links_end, links_all}
use Rattle.sink_rows.proofs.event_row.links.Goals as goal

pub loop-next-init : goal.loop-next-init
loop-next-init c = record {
  all = omega (arith, links_all c.args.events.now c.args.i (length c.args.events.now / EVENT_ROW - 0) (omega arith));
  passed = omega arith;
  few = omega arith;
}

pub loop-next-preserved : goal.loop-next-preserved
loop-next-preserved c =
    let l = c.loop-next in
    let rows = length c.args.events.now / EVENT_ROW in
    record {
      all = omega (arith, l.invariant.all, links_more c.args.events.now l.j c.in-Some.next (rows - (l.n + 1)) (rows - l.n) c.in-Some.ensures.value (omega (arith, l.invariant.passed, c.in-Some.ensures)));
      passed = omega (arith, c.in-Some.ensures.value);
      few = omega (arith, c.in-Some.ensures.value, c.in-Some.ensures.inside);
    }

pub returns : goal.returns
returns c = omega (arith, c.loop-next.invariant.all, links_end c.args.events.now c.loop-next.j (length c.args.events.now / EVENT_ROW - c.loop-next.n) c.in_default.ensures.value)
