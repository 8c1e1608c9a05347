-- `width_of`: the sum so far and the bytes still to add are all.
use Prim.Native.Nat.{◌+◌, ◌-◌}
use mathlib.Core.Path.{◌≡◌}
use Rattle.sink_tokens.specs.Tokens.{widthN}
use Rattle.sink_tokens.proofs.token_row.width_of.Given as goal

abbrev pub invariant-loop-at : goal.invariant-loop-at
invariant-loop-at l = widthN (l.from + l.n - l.at) l.tokens l.at l.sum ≡ widthN l.n l.tokens l.from 0
