use Rattle.std.proofs.Common.{refl, arith}
use Rattle.definitions.specs.Check.{silent}
use Rattle.parser.proofs.Ways.{walks, yes_case, no_case, if_no, seq, stay, node, ignored}
use Rattle.prefixes.proofs.label_or_name.Goals.{else-eat-2-via-then-eat-2+else-silent_at, else-eat-2-via-else-eat-2}
use Rattle.prefixes.proofs.label_or_name.Goals as goal

pub returns-then-eat-clause-walks : goal.returns-then-eat-clause-walks
returns-then-eat-clause-walks c = walks (λ ask b.
    node (omega arith) c.start-m.ensures.marker c.start-m.ensures.becomes
    (seq (c.consume.ensures.walks.way ask b) (yes_case (c.eat.ensures.walks.way ask b) c.if-eat.true stay)) c.complete.ensures.becomes)

pub returns-then-silent_at-clause-walks : goal.returns-then-silent_at-clause-walks
unfolding silent
returns-then-silent_at-clause-walks c = walks (λ ask b.
    node (omega arith) c.start-m.ensures.marker c.start-m.ensures.becomes
    (seq (c.consume.ensures.walks.way ask b)
    (no_case (c.eat.ensures.walks.way ask b) c.if-eat.false
    (yes_case (yes_case (c.eat-2.ensures.walks.way ask b) c.if-eat-2.true (c.silent_at.ensures.walks.way ask b)) c.if-silent_at.true
    (seq (c.error.ensures.walks.way ask b) stay)))) c.complete-then-silent_at.ensures.becomes)

pub returns-clause-walks : goal.returns-clause-walks
unfolding silent
returns-clause-walks c = elim c.else-eat-2.branch [
  | else-eat-2-via-then-eat-2+else-silent_at w ↦
      let last = rw (w.p-is) at c.ignore.ensures in
      walks (λ ask b. ignored c.start-m.ensures.marker c.start-m.ensures.becomes
      (seq (c.consume.ensures.walks.way ask b)
      (no_case (c.eat.ensures.walks.way ask b) c.if-eat.false
      (no_case (yes_case (c.eat-2.ensures.walks.way ask b) w.if-eat-2.true (w.silent_at.ensures.walks.way ask b)) w.if-silent_at.false stay))) last)
  | else-eat-2-via-else-eat-2 w ↦
      let last = rw (w.p-is) at c.ignore.ensures in
      walks (λ ask b. ignored c.start-m.ensures.marker c.start-m.ensures.becomes
      (seq (c.consume.ensures.walks.way ask b)
      (no_case (c.eat.ensures.walks.way ask b) c.if-eat.false
      (if_no (no_case (c.eat-2.ensures.walks.way ask b) w.if-eat-2.false stay) refl stay))) last)
]
