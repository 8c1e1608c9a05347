use Rattle.std.proofs.Common.{arith, refl}
use mathlib.Core.Bool.{true, false}
use Rattle.definitions.specs.NodeKind.{NO_NODE}
use Rattle.definitions.specs.Prog.{yes}
use Rattle.definitions.specs.Check.{silent}
use Rattle.parser.proofs.Ways.{closes, finished, seq, yes_case, no_case, stay}
use Rattle.ends.proofs.lists.unfinished.Goals.{then-not-silent_at_set+then-not-at_end, else-not-silent_at_set, else-not-silent_at_set-via-then-not-silent_at_set+else-not-at_end, else-not-silent_at_set-via-else-not-silent_at_set}
use Rattle.ends.proofs.lists.unfinished.Goals as goal

pub returns : goal.returns
unfolding silent
returns c = closes (λ ask b.
    let test = c.silent_at_set.ensures.walks.way ask b in
    finished (omega arith)
    (seq (c.error.ensures.walks.way ask b)
    (seq {a = yes} {k = NO_NODE} (elim c.if-not-silent_at_set.branch [
      | then-not-silent_at_set+then-not-at_end w ↦ rw (w.p-is)
          (yes_case {t = true} (yes_case {t = true} (no_case test w.if-not-silent_at_set.true stay) refl (no_case (w.at_end.ensures.walks.way ask b) w.if-not-at_end.true stay)) refl
          (w.bump.ensures.walks.way ask b))
      | else-not-silent_at_set w ↦ rw (w.p-is) (elim w.else-not-silent_at_set.branch [
        | else-not-silent_at_set-via-then-not-silent_at_set+else-not-at_end v ↦ rw (v.p-is)
            (no_case {t = false} (yes_case {t = true} (no_case test v.if-not-silent_at_set.true stay) refl (yes_case (v.at_end.ensures.walks.way ask b) v.if-not-at_end.false stay)) refl stay)
        | else-not-silent_at_set-via-else-not-silent_at_set v ↦ rw (v.p-is)
            (no_case {t = false} (no_case {t = false} (yes_case test v.if-not-silent_at_set.false stay) refl stay) refl stay)
      ])
    ])
    stay)) c.complete.ensures.becomes)
