use Rattle.parser.proofs.Ways.{walks_on, ends_opened, ends, yes_case, no_case, seq, lands, stay}
use Rattle.names.proofs.Opened.{path_is}
use Rattle.names.proofs.reference.path.Goals.{then-eat+else-eat-2, else-eat+then-not-eat, else-eat+else-not-eat}
use Rattle.names.proofs.reference.path.Goals as goal

pub returns-then-eat-2 : goal.returns-then-eat-2
returns-then-eat-2 c = walks_on (λ ask b. ends_opened path_is (ends
    (yes_case (c.eat.ensures.walks.way ask b) c.if-eat.true (yes_case (c.eat-then-eat.ensures.walks.way ask b) c.if-eat-2.true stay))))

pub returns : goal.returns
returns c = elim c.if-eat.branch [
  | then-eat+else-eat-2 w ↦
      let rest = rw (w.p-is) at c.path_rest.ensures in
      walks_on (λ ask b. ends_opened path_is (ends
      (yes_case (c.eat.ensures.walks.way ask b) w.if-eat.true
      (no_case (w.eat-then-eat.ensures.walks.way ask b) w.if-eat-2.false (seq (lands (w.path_segment.ensures.walks.way ask b)) (lands (rest.way ask b)))))))
  | else-eat+then-not-eat w ↦
      let rest = rw (w.p-is) at c.path_rest.ensures in
      walks_on (λ ask b. ends_opened path_is (ends
      (no_case (c.eat.ensures.walks.way ask b) w.if-eat.false
      (seq (no_case (w.eat-else-eat.ensures.walks.way ask b) w.if-not-eat.true (w.error.ensures.walks.way ask b)) (lands (rest.way ask b))))))
  | else-eat+else-not-eat w ↦
      let rest = rw (w.p-is) at c.path_rest.ensures in
      walks_on (λ ask b. ends_opened path_is (ends
      (no_case (c.eat.ensures.walks.way ask b) w.if-eat.false
      (seq (yes_case (w.eat-else-eat.ensures.walks.way ask b) w.if-not-eat.false stay) (lands (rest.way ask b))))))
]
