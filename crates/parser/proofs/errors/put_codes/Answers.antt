-- `put_codes`: one code more.
use Rattle.basics.proofs.Flags.{flags}
use Rattle.parser.proofs.Lists.{codes_more}
use Rattle.parser.proofs.errors.put_codes.Goals as goal

pub loop-i-preserved : goal.loop-i-preserved
loop-i-preserved c = rw c.loop-i.invariant (codes_more c.args.pool.now c.args.codes.now c.args.first c.loop-i.i (omega flags))
