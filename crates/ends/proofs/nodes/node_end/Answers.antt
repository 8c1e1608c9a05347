use Rattle.std.proofs.Common.{arith}
use Rattle.parser.proofs.Ways.{closes_at, finished, emits_unclosed, seq, yes_case, no_case, stay}
use Rattle.ends.proofs.nodes.node_end.Goals.{then-at_end, else-at_end}
use Rattle.ends.proofs.nodes.node_end.Goals as goal

pub returns : goal.returns
returns c = closes_at (λ ask. let end = c.at_end.ensures.walks.way ask _ in
    finished (omega arith) (elim c.if-at_end.branch [
      | then-at_end w ↦ rw (w.p-is) (yes_case end w.if-at_end.true (seq (emits_unclosed w.emit.ensures) stay))
      | else-at_end w ↦ rw (w.p-is) (no_case end w.if-at_end.false (seq (w.expect.ensures.walks.way ask _) (seq (w.expect_recoverable.ensures.way ask _) stay)))
    ]) c.complete.ensures.becomes)
