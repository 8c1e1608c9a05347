-- `rows_at`: the four places that an offset may have.
use Rattle.std.proofs.Common.{rules}
use Rattle.caret.proofs.Offsets.{at_inside, at_past, at_empty, at_end, as_listed, lists_none, lists_one}
use Rattle.caret.proofs.chain.rows_at.Goals as goal

pub returns-then-offset-length : goal.returns-then-offset-length
returns-then-offset-length c = as_listed (at_inside _ _ _ c.if-offset-length.true) c.chain.ensures

pub returns-then-offset-length-2 : goal.returns-then-offset-length-2
returns-then-offset-length-2 c = as_listed (at_past _ _ _ c.if-offset-length.false c.if-offset-length-2.true) (lists_none c.args.list.now)

pub returns-then-size-eq0 : goal.returns-then-size-eq0
returns-then-size-eq0 c = as_listed (at_empty _ _ _ c.if-offset-length-2.false c.if-size-eq0.true) (lists_one _ _ _ _ c.push.ensures.count (search rules))

pub returns-else-size-eq0 : goal.returns-else-size-eq0
returns-else-size-eq0 c = as_listed (at_end _ _ _ c.if-offset-length-2.false c.if-size-eq0.false) c.chain-else-size-eq0.ensures
