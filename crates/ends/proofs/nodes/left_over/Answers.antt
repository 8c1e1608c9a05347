use Rattle.std.proofs.Common.{arith}
use Rattle.definitions.specs.Grammar.{left_over}
use Rattle.parser.proofs.Ways.{walks, node, seq, yes_case, no_case, stay}
use Rattle.ends.proofs.nodes.left_over.Goals as goal

pub returns-then-at_end : goal.returns-then-at_end
unfolding left_over
returns-then-at_end c = walks (λ ask b. yes_case (c.at_end.ensures.walks.way ask b) c.if-at_end.true stay)

pub returns : goal.returns
unfolding left_over
returns c = walks (λ ask b. no_case (c.at_end.ensures.walks.way ask b) c.if-at_end.false
    (seq (c.add_expected.ensures.way ask b)
    (node (omega arith) c.start-m.ensures.marker c.start-m.ensures.becomes (seq (seq (c.error.ensures.walks.way ask b) (c.bump_all.ensures.way ask b)) stay) c.complete.ensures.becomes)))
