use Rattle.definitions.specs.Grammar.{cells_end}
use Rattle.parser.proofs.Ways.{walks, seq}
use Rattle.ends.proofs.lists.at_cells_end.Goals as goal

pub returns-then-until_end : goal.returns-then-until_end
unfolding cells_end
returns-then-until_end c = rw (c.if-until_end.true) (walks (λ ask b. seq (c.add_expected.ensures.way ask b) (c.at_end.ensures.walks.way ask b)))

pub returns-else-until_end : goal.returns-else-until_end
unfolding cells_end
returns-else-until_end c = rw (c.if-until_end.false) c.at.ensures.walks
