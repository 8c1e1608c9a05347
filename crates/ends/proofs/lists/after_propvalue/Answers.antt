use Rattle.definitions.specs.Check.{silent}
use Rattle.parser.proofs.Ways.{walks, opened, yes_case, no_case, seq, stay}
use Rattle.ends.proofs.Laws.{after_is}
use Rattle.ends.proofs.lists.after_propvalue.Goals as goal

pub returns-then-eat-clause-walks : goal.returns-then-eat-clause-walks
returns-then-eat-clause-walks c = walks (λ ask b. opened (after_is c.args.semicolon) (yes_case (c.eat.ensures.walks.way ask b) c.if-eat.true stay))

pub returns-then-at_values_end-clause-walks : goal.returns-then-at_values_end-clause-walks
returns-then-at_values_end-clause-walks c = walks (λ ask b. opened (after_is c.args.semicolon)
    (no_case (c.eat.ensures.walks.way ask b) c.if-eat.false (yes_case (c.at_values_end.ensures.way ask b) c.if-at_values_end.true stay)))

pub returns-then-silent_at_set-clause-walks : goal.returns-then-silent_at_set-clause-walks
unfolding silent
returns-then-silent_at_set-clause-walks c = walks (λ ask b. opened (after_is c.args.semicolon)
    (no_case (c.eat.ensures.walks.way ask b) c.if-eat.false (no_case (c.at_values_end.ensures.way ask b) c.if-at_values_end.false
    (yes_case (c.silent_at_set.ensures.walks.way ask b) c.if-silent_at_set.true (seq (c.error.ensures.walks.way ask b) stay)))))

pub returns-clause-walks : goal.returns-clause-walks
unfolding silent
returns-clause-walks c = walks (λ ask b. opened (after_is c.args.semicolon)
    (no_case (c.eat.ensures.walks.way ask b) c.if-eat.false (no_case (c.at_values_end.ensures.way ask b) c.if-at_values_end.false
    (no_case (c.silent_at_set.ensures.walks.way ask b) c.if-silent_at_set.false stay))))
