use Rattle.std.proofs.Common.{refl, ap}
use mathlib.Core.Bool.{true, false, not}
use Rattle.parser.proofs.Ways.{walks, shown, yes_case, no_case, stay}
use Rattle.ends.proofs.Tests.{negated}
use Rattle.ends.proofs.lists.at_item.Goals as goal

pub returns-then-not-at-clause-walks : goal.returns-then-not-at-clause-walks
returns-then-not-at-clause-walks c = walks (λ ask b.
    yes_case {t = true} (no_case (c.at.ensures.walks.way ask b) c.if-not-at.true stay) refl (negated c.at_end.result (c.at_end.ensures.walks.way ask b)))

pub returns-else-not-at-clause-walks : goal.returns-else-not-at-clause-walks
returns-else-not-at-clause-walks c = walks (λ ask b.
    shown {v = false} (ap not c.if-not-at.false) (no_case {t = false} (yes_case (c.at.ensures.walks.way ask b) c.if-not-at.false stay) refl stay))
