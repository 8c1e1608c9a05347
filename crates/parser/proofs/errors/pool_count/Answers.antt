-- `pool_count`: how many are pending, or none.
use Rattle.parser.proofs.Reports.{count_is}
use Rattle.parser.proofs.errors.pool_count.Goals as goal

pub returns-then-eq : goal.returns-then-eq
returns-then-eq c = rw (count_is c.args.message, ← c.eq.ensures, c.if-eq.true, ← c.different.ensures) c.low32.ensures

pub returns-else-eq : goal.returns-else-eq
returns-else-eq c = rw (count_is c.args.message, ← c.eq.ensures, c.if-eq.false)
