-- `at_cells_recovery`: four tests, of which the first that holds ends it.
use mathlib.Core.List.{[], ◌∷◌}
use Rattle.std.specs.Prelude.{None}
use Rattle.definitions.specs.TokenKind as K
use Rattle.definitions.specs.NodeKind.{NO_NODE}
use Rattle.definitions.specs.Prog.{Prog}
use Rattle.definitions.specs.Check.{◌or◌, end?, set, silent}
use Rattle.definitions.specs.Grammar.{CONTINUE_COND_SET}
use Rattle.definitions.specs.Run.{truth}
use Rattle.parser.specs.View.{Way}
use Rattle.parser.proofs.Ways.{walks, shown, yes_case, no_case, stay}
use Rattle.ends.proofs.Tests.{or_or}
use Rattle.ends.proofs.lists.at_cells_recovery.Goals.{then-silent_at_set, else-silent_at_set, then-at_end, else-at_end}
use Rattle.ends.proofs.lists.at_cells_recovery.Goals as goal

-- the first two, and the first three
abbrev two : Prog
two = silent (set (K.Semicolon ∷ K.LCurly ∷ K.RCurly ∷ [])) or end?

abbrev three : Prog
three = two or silent (set CONTINUE_COND_SET)

pub returns-then-silent_at_set-2-clause-walks : goal.returns-then-silent_at_set-2-clause-walks
unfolding silent
returns-then-silent_at_set-2-clause-walks c = walks (λ ask b.
    let first = c.silent_at_set.ensures.walks.way ask b in
    let two_way : Way ask b None two c.args.p.now (truth c.if-silent_at_set.value) NO_NODE c.if-silent_at_set.p = elim c.if-silent_at_set.branch [
      | then-silent_at_set w ↦ rw (w.p-is, w.value-is) (shown w.if-silent_at_set.true (yes_case first w.if-silent_at_set.true stay))
      | else-silent_at_set w ↦ rw (w.p-is, w.value-is) (no_case first w.if-silent_at_set.false (w.at_end.ensures.walks.way ask b))
    ] in
    let three_way : Way ask b None three c.args.p.now (truth c.if-at_end.value) NO_NODE c.if-at_end.p = elim c.if-at_end.branch [
      | then-at_end w ↦ rw (w.p-is, w.value-is) (shown w.if-at_end.true (yes_case two_way w.if-at_end.true stay))
      | else-at_end w ↦ rw (w.p-is, w.value-is) (no_case two_way w.if-at_end.false (w.silent_at_set-else-at_end.ensures.walks.way ask b))
    ] in
    shown c.if-silent_at_set-2.true (or_or (or_or (yes_case three_way c.if-silent_at_set-2.true stay))))

pub returns-else-silent_at_set-2-clause-walks : goal.returns-else-silent_at_set-2-clause-walks
unfolding silent
returns-else-silent_at_set-2-clause-walks c = walks (λ ask b.
    let first = c.silent_at_set.ensures.walks.way ask b in
    let two_way : Way ask b None two c.args.p.now (truth c.if-silent_at_set.value) NO_NODE c.if-silent_at_set.p = elim c.if-silent_at_set.branch [
      | then-silent_at_set w ↦ rw (w.p-is, w.value-is) (shown w.if-silent_at_set.true (yes_case first w.if-silent_at_set.true stay))
      | else-silent_at_set w ↦ rw (w.p-is, w.value-is) (no_case first w.if-silent_at_set.false (w.at_end.ensures.walks.way ask b))
    ] in
    let three_way : Way ask b None three c.args.p.now (truth c.if-at_end.value) NO_NODE c.if-at_end.p = elim c.if-at_end.branch [
      | then-at_end w ↦ rw (w.p-is, w.value-is) (shown w.if-at_end.true (yes_case two_way w.if-at_end.true stay))
      | else-at_end w ↦ rw (w.p-is, w.value-is) (no_case two_way w.if-at_end.false (w.silent_at_set-else-at_end.ensures.walks.way ask b))
    ] in
    or_or (or_or (no_case three_way c.if-silent_at_set-2.false (c.silent_at.ensures.walks.way ask b))))
