-- `pass_solid`: as `pass`, but trivia does not count.
use Rattle.std.proofs.Common.{◌≡◌, sym, ◌∙◌, arith}
use Rattle.labels.specs.Model.{past_solid}
use Rattle.labels.proofs.Turns.{solid_again, solid_past}
use Rattle.labels.proofs.Seats.{end_byte}
use Rattle.labels.proofs.seat.pass_solid.Goals as goal
use Rattle.labels.proofs.seat.pass_solid.Goals.{then-not-is_trivia, else-not-is_trivia}

pub loop-left-preserved : goal.loop-left-preserved
loop-left-preserved c =
    let tokens = c.args.tokens.now in
    let p = c.loop-left.seat in
    sym
    (solid_again tokens _ _ p _ (omega arith) (omega arith) (end_byte tokens p.at p.byte _ (omega arith) c.end_at.ensures)
    (elim c.if-not-is_trivia.branch [
      | then-not-is_trivia w ↦ rw (← c.is_trivia.ensures, w.if-not-is_trivia.true) w.left-is
      | else-not-is_trivia w ↦ rw (← c.is_trivia.ensures, w.if-not-is_trivia.false) w.left-is
    ]))
    ∙ c.loop-left.invariant

pub returns-else-seat-tokens : goal.returns-else-seat-tokens
returns-else-seat-tokens c = sym (solid_past c.args.tokens.now _ c.loop-left.seat (omega arith)) ∙ c.loop-left.invariant

pub returns-after-loop-left : goal.returns-after-loop-left
unfolding past_solid
returns-after-loop-left c = let none : c.loop-left.left ≡ 0 = omega arith in rw none at c.loop-left.invariant
