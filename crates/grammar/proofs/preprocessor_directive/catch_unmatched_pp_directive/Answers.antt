-- `catch_unmatched_pp_directive`: an `#endif`, or a continuation with what follows it.
use native.Mathlib.Omega.{arith}
use Rattle.definitions.specs.Check.{silent}
use Rattle.definitions.specs.Grammar.{catch_unmatched_pp_directive}
use Rattle.parser.proofs.Ways.{yes_case, no_case, seq, stay, node, lands}
use Rattle.grammar.proofs.preprocessor_directive.catch_unmatched_pp_directive.Goals as goal

pub returns-then-silent_at-clause-walks : goal.returns-then-silent_at-clause-walks
unfolding catch_unmatched_pp_directive silent
returns-then-silent_at-clause-walks c =
    yes_case (c.silent_at.ensures.walks.way _ _) c.if-silent_at.true (seq (c.error.ensures.walks.way _ _) stay)

pub returns-then-silent_at_set-clause-walks : goal.returns-then-silent_at_set-clause-walks
unfolding catch_unmatched_pp_directive silent
returns-then-silent_at_set-clause-walks c =
    no_case (c.silent_at.ensures.walks.way _ _) c.if-silent_at.false (yes_case (c.silent_at_set.ensures.walks.way _ _) c.if-silent_at_set.true (seq (c.error-then-silent_at_set.ensures.walks.way _ _)
    (seq (node (omega arith) c.start-m_err.ensures.marker c.start-m_err.ensures.becomes
    (seq (seq (c.bump.ensures.walks.way _ _) (lands c.cond_branches_and_end.ensures)) stay) c.complete.ensures.becomes) stay)))

pub returns-clause-walks : goal.returns-clause-walks
unfolding catch_unmatched_pp_directive silent
returns-clause-walks c =
    no_case (c.silent_at.ensures.walks.way _ _) c.if-silent_at.false (no_case (c.silent_at_set.ensures.walks.way _ _) c.if-silent_at_set.false stay)
