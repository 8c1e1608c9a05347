use Rattle.parser.proofs.Ways.{walks, opened, yes_case, no_case}
use Rattle.names.proofs.Opened.{name_consume_is}
use Rattle.names.proofs.macro_substitutable_name.MacroSubstitutableNameTokenMatcher.consume.Goals as goal

pub returns-then-silent_at_macro_invocation_with_args-clause-walks : goal.returns-then-silent_at_macro_invocation_with_args-clause-walks
returns-then-silent_at_macro_invocation_with_args-clause-walks c = walks (λ ask b. opened name_consume_is
    (yes_case (c.silent_at_macro_invocation_with_args.ensures.walks.way ask b) c.if-silent_at_macro_invocation_with_args.true (c.macro_invocation.ensures.walks.way ask b)))

pub returns-else-silent_at_macro_invocation_with_args-clause-walks : goal.returns-else-silent_at_macro_invocation_with_args-clause-walks
returns-else-silent_at_macro_invocation_with_args-clause-walks c = walks (λ ask b. opened name_consume_is
    (no_case (c.silent_at_macro_invocation_with_args.ensures.walks.way ask b) c.if-silent_at_macro_invocation_with_args.false (c.consume.ensures.walks.way ask b)))
