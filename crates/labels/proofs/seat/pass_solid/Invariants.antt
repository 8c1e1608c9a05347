-- `pass_solid`: as `pass`, but trivia does not count.
use Rattle.std.proofs.Common.{◌≡◌, ◌-◌, ◌/◌, length, drop}
use Rattle.definitions.specs.Layout.{TOKEN_ROW}
use Rattle.definitions.specs.Token.{tokens_of}
use Rattle.labels.specs.Model.{past_solid}
use Rattle.labels.proofs.seat.pass_solid.Given as goal

abbrev pub invariant-loop-left : goal.invariant-loop-left
invariant-loop-left l =
    past_solid l.left (drop l.seat.at (tokens_of l.tokens)) l.seat ≡ past_solid l.n (drop l.fn.from.at (tokens_of l.tokens)) l.fn.from

abbrev pub decreases-loop-left : goal.decreases-loop-left
decreases-loop-left l = length l.tokens / TOKEN_ROW - l.seat.at
