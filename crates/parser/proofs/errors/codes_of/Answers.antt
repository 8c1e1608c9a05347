-- `codes_of`: all that are pending, or none.
use Rattle.parser.proofs.Reports.{pool_is}
use Rattle.parser.proofs.errors.codes_of.Goals as goal

pub returns-then-eq : goal.returns-then-eq
returns-then-eq c = record { value = rw (pool_is c.args.message, ← c.eq.ensures, c.if-eq.true) c.as_slice.ensures }

pub returns-else-eq : goal.returns-else-eq
returns-else-eq c = record { value = rw (pool_is c.args.message, ← c.eq.ensures, c.if-eq.false) }
