use Rattle.parser.proofs.Ways.{walks_on, ends_opened, ends, yes_case, no_case, lands, stay}
use Rattle.names.proofs.Opened.{reference_noamp_is}
use Rattle.names.proofs.reference.reference_noamp.Goals as goal

pub returns-then-eat : goal.returns-then-eat
returns-then-eat c = walks_on (λ ask b. ends_opened reference_noamp_is (ends (yes_case (c.eat.ensures.walks.way ask b) c.if-eat.true (lands (c.path.ensures.way ask b)))))

pub returns-then-silent_at_macro_invocation_with_args : goal.returns-then-silent_at_macro_invocation_with_args
returns-then-silent_at_macro_invocation_with_args c = walks_on (λ ask b. ends_opened reference_noamp_is (ends
    (no_case (c.eat.ensures.walks.way ask b) c.if-eat.false
    (yes_case (c.silent_at_macro_invocation_with_args.ensures.walks.way ask b) c.if-silent_at_macro_invocation_with_args.true (c.macro_invocation.ensures.walks.way ask b)))))

pub returns-then-not-eat : goal.returns-then-not-eat
returns-then-not-eat c = walks_on (λ ask b. ends_opened reference_noamp_is (ends
    (no_case (c.eat.ensures.walks.way ask b) c.if-eat.false
    (no_case (c.silent_at_macro_invocation_with_args.ensures.walks.way ask b) c.if-silent_at_macro_invocation_with_args.false
    (no_case (c.eat-else-silent_at_macro_invocation_with_args.ensures.walks.way ask b) c.if-not-eat.true (c.error.ensures.walks.way ask b))))))

pub returns-else-not-eat : goal.returns-else-not-eat
returns-else-not-eat c = walks_on (λ ask b. ends_opened reference_noamp_is (ends
    (no_case (c.eat.ensures.walks.way ask b) c.if-eat.false
    (no_case (c.silent_at_macro_invocation_with_args.ensures.walks.way ask b) c.if-silent_at_macro_invocation_with_args.false
    (yes_case (c.eat-else-silent_at_macro_invocation_with_args.ensures.walks.way ask b) c.if-not-eat.false stay)))))
