use Rattle.std.proofs.Common.{ap}
use Rattle.std.specs.Prelude.{None}
use mathlib.Core.Bool.{not}
use Rattle.definitions.specs.TokenKind as K
use Rattle.definitions.specs.NodeKind.{NO_NODE}
use Rattle.definitions.specs.Run.{truth}
use Rattle.definitions.specs.Prog.{act, silent_at}
use Rattle.definitions.specs.Check.{◌and◌, not!, end?, of_kind, at}
use Rattle.definitions.specs.Grammar.{CONTINUE_COND_SET}
use Rattle.parser.specs.View.{Way}
use Rattle.parser.proofs.Ways.{walks, opened, yes_case, no_case, shown, stay}
use Rattle.names.proofs.Opened.{at_segment_is}
use Rattle.names.proofs.Chains.{regrouped, turned}
use Rattle.names.proofs.reference.at_segment.Goals.{then-not-at, else-not-at, then-not-at_end, else-not-at_end}
use Rattle.names.proofs.reference.at_segment.Goals as goal

pub returns-then-not-silent_at_set-clause-walks : goal.returns-then-not-silent_at_set-clause-walks
returns-then-not-silent_at_set-clause-walks c = walks (λ ask b.
    let two : Way ask b None (not! (at (of_kind K.RCurly)) and not! end?) c.args.p.now (truth c.if-not-at.value) NO_NODE c.if-not-at.p =
    elim c.if-not-at.branch [
      | then-not-at w ↦ rw (w.p-is, w.value-is) (yes_case (turned _ (c.at.ensures.walks.way ask b)) (ap not w.if-not-at.true) (turned _ (w.at_end.ensures.walks.way ask b)))
      | else-not-at w ↦ rw (w.p-is, w.value-is) (let no = ap not w.if-not-at.false in shown no (no_case (turned _ (c.at.ensures.walks.way ask b)) no stay))
    ] in
    let three : Way ask b None ((not! (at (of_kind K.RCurly)) and not! end?) and not! (act (silent_at CONTINUE_COND_SET))) c.args.p.now (truth c.if-not-at_end.value) NO_NODE c.if-not-at_end.p =
    elim c.if-not-at_end.branch [
      | then-not-at_end w ↦ rw (w.p-is, w.value-is) (yes_case two w.if-not-at_end.true (turned _ (w.silent_at_set.ensures.walks.way ask b)))
      | else-not-at_end w ↦ rw (w.p-is, w.value-is) (shown w.if-not-at_end.false (no_case two w.if-not-at_end.false stay))
    ] in
    opened at_segment_is (regrouped (regrouped (yes_case three c.if-not-silent_at_set.true (turned _ (c.silent_at.ensures.walks.way ask b))))))

pub returns-else-not-silent_at_set-clause-walks : goal.returns-else-not-silent_at_set-clause-walks
returns-else-not-silent_at_set-clause-walks c = walks (λ ask b.
    let two : Way ask b None (not! (at (of_kind K.RCurly)) and not! end?) c.args.p.now (truth c.if-not-at.value) NO_NODE c.if-not-at.p =
    elim c.if-not-at.branch [
      | then-not-at w ↦ rw (w.p-is, w.value-is) (yes_case (turned _ (c.at.ensures.walks.way ask b)) (ap not w.if-not-at.true) (turned _ (w.at_end.ensures.walks.way ask b)))
      | else-not-at w ↦ rw (w.p-is, w.value-is) (let no = ap not w.if-not-at.false in shown no (no_case (turned _ (c.at.ensures.walks.way ask b)) no stay))
    ] in
    let three : Way ask b None ((not! (at (of_kind K.RCurly)) and not! end?) and not! (act (silent_at CONTINUE_COND_SET))) c.args.p.now (truth c.if-not-at_end.value) NO_NODE c.if-not-at_end.p =
    elim c.if-not-at_end.branch [
      | then-not-at_end w ↦ rw (w.p-is, w.value-is) (yes_case two w.if-not-at_end.true (turned _ (w.silent_at_set.ensures.walks.way ask b)))
      | else-not-at_end w ↦ rw (w.p-is, w.value-is) (shown w.if-not-at_end.false (no_case two w.if-not-at_end.false stay))
    ] in
    opened at_segment_is (regrouped (regrouped (shown c.if-not-silent_at_set.false (no_case three c.if-not-silent_at_set.false stay)))))
