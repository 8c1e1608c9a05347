-- `pass`: from here on as many raw tokens are passed as are left of those to pass from the start.
use Rattle.std.proofs.Common.{◌≡◌, ◌-◌, drop}
use Rattle.definitions.specs.Token.{tokens_of}
use Rattle.labels.specs.Model.{passed}
use Rattle.labels.proofs.seat.pass.Given as goal

abbrev pub invariant-loop : goal.invariant-loop
invariant-loop l =
    passed (l.n - l.counter) (drop l.seat.at (tokens_of l.tokens)) l.seat ≡ passed l.n (drop l.fn.from.at (tokens_of l.tokens)) l.fn.from
