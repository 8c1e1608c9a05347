use Rattle.std.proofs.Common.{arith}
use Rattle.parser.proofs.Ways.{walks, opened, node, seq, stay}
use Rattle.names.proofs.Opened.{address_consume_is}
use Rattle.names.proofs.unit_address.UnitAddressTokenMatcher.consume.Goals as goal

pub returns-clause-walks : goal.returns-clause-walks
returns-clause-walks c = walks (λ ask b. opened address_consume_is
    (node (omega arith) c.start-m.ensures.marker c.start-m.ensures.becomes
    (seq (seq (c.bump.ensures.walks.way ask b) (c.expect.ensures.walks.way ask b)) stay) c.complete.ensures.becomes))
