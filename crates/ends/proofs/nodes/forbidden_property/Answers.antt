use Rattle.definitions.specs.Check.{silent}
use Rattle.definitions.specs.Grammar.{forbidden_property}
use Rattle.parser.proofs.Ways.{walks, stay}
use Rattle.ends.proofs.nodes.forbidden_property.Goals as goal

pub returns-then-not-allow_prop : goal.returns-then-not-allow_prop
unfolding forbidden_property silent
returns-then-not-allow_prop c = rw (c.if-not-allow_prop.true) c.silent_at_set.ensures.walks

pub returns-else-not-allow_prop : goal.returns-else-not-allow_prop
unfolding forbidden_property
returns-else-not-allow_prop c = rw (c.if-not-allow_prop.false) (walks (λ ask b. stay))
