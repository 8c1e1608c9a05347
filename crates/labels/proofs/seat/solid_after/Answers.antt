-- `solid_after`: past those tokens, and then where the machine skips to.
use Rattle.labels.specs.Model.{solid_after}
use Rattle.labels.proofs.Seats.{solid_seat}
use Rattle.labels.proofs.seat.solid_after.Goals as goal

pub returns : goal.returns
unfolding solid_after
returns c = rw (← c.pass_solid-seat.ensures) (solid_seat _ _ _ c.skip_trivia.ensures.m_value)
