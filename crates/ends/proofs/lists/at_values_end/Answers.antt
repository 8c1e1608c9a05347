use Rattle.definitions.specs.Check.{at}
use Rattle.machine.specs.Walk.{walk}
use Rattle.parser.proofs.Ways.{walks, seq, stay}
use Rattle.ends.proofs.lists.at_values_end.Goals as goal

-- a set of one kind is told of as that kind is
pub returns-then-semicolon : goal.returns-then-semicolon
unfolding at walk
returns-then-semicolon c =
    rw (c.if-semicolon.true) (walks (λ ask b. let w = c.at.ensures.walks.way ask b in record { is = w.is; same = w.same; left = w.left }))

pub returns-else-semicolon : goal.returns-else-semicolon
unfolding at
returns-else-semicolon c = rw (c.if-semicolon.false) (walks (λ ask b. seq stay (c.silent_at_set.ensures.walks.way ask b)))
