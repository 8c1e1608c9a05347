-- `sourcefile_part`: an unmatched bracket or directive, or an item.
use Rattle.definitions.specs.Check.{silent}
use Rattle.grammar.proofs.Laws.{sourcefile_is}
use Rattle.parser.proofs.Ways.{yes_case, no_case, stay, ends, ends_opened, lands, call_on}
use Rattle.grammar.proofs.entry.sourcefile_part.Goals as goal

pub returns-then-silent_at-clause-walks : goal.returns-then-silent_at-clause-walks
unfolding silent
returns-then-silent_at-clause-walks c =
    ends_opened sourcefile_is (ends (yes_case (c.silent_at.ensures.walks.way _ _) c.if-silent_at.true (c.unmatched_rcurly.ensures.walks.way _ _)))

pub returns-then-catch_unmatched_pp_directive-clause-walks : goal.returns-then-catch_unmatched_pp_directive-clause-walks
unfolding silent
returns-then-catch_unmatched_pp_directive-clause-walks c =
    ends_opened sourcefile_is (ends (no_case (c.silent_at.ensures.walks.way _ _) c.if-silent_at.false (yes_case c.catch_unmatched_pp_directive.ensures.walks c.if-catch_unmatched_pp_directive.true stay)))

pub returns-clause-walks : goal.returns-clause-walks
unfolding silent
returns-clause-walks c =
    ends_opened sourcefile_is (ends (no_case (c.silent_at.ensures.walks.way _ _) c.if-silent_at.false
    (no_case c.catch_unmatched_pp_directive.ensures.walks c.if-catch_unmatched_pp_directive.false (lands (call_on _ c.item.ensures.opens)))))
