-- `pass`: from here on as many raw tokens are passed as are left of those to pass from the start.
use Rattle.std.proofs.Common.{◌≡◌, ◌-◌, sym, ◌∙◌, arith}
use Rattle.labels.specs.Model.{passed}
use Rattle.labels.proofs.Turns.{passed_again, passed_past}
use Rattle.labels.proofs.Seats.{end_byte}
use Rattle.labels.proofs.seat.pass.Goals as goal

pub loop-preserved : goal.loop-preserved
loop-preserved c =
    let tokens = c.args.tokens.now in
    let p = c.loop.seat in
    sym
    (passed_again tokens _ _ p _ (omega arith) (omega arith) (end_byte tokens p.at p.byte _ (omega arith) c.end_at.ensures))
    ∙ c.loop.invariant

pub returns-after-loop : goal.returns-after-loop
unfolding passed
returns-after-loop c = let none : c.args.n - c.loop.counter ≡ 0 = omega arith in rw none at c.loop.invariant

pub returns-then-seat-tokens : goal.returns-then-seat-tokens
returns-then-seat-tokens c = sym (passed_past c.args.tokens.now _ c.loop.seat (omega arith)) ∙ c.loop.invariant
