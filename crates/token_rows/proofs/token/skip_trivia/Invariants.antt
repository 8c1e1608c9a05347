use Prim.Native.Nat.{◌-◌, ◌/◌, ◌≤◌}
use mathlib.Core.Path.{◌≡◌}
use lib.ListN.{length, drop}
use Rattle.definitions.specs.Layout.{TOKEN_ROW}
use Rattle.definitions.specs.Token.{tokens_of}
use Rattle.machine.specs.Machine.{Machine, with_cursor, skip}
use Rattle.token_rows.proofs.token.skip_trivia.Given as goal

abbrev pub invariant-loop-t : goal.invariant-loop-t
invariant-loop-t l = record {
  skipped : (m : Machine) → skip (drop l.seat.at (tokens_of l.tokens)) (with_cursor l.seat.at l.seat.byte m) ≡ skip (drop l.from (tokens_of l.tokens)) (with_cursor l.from l.start m);
  onward : l.from ≤ l.seat.at;
}

abbrev pub decreases-loop-t : goal.decreases-loop-t
decreases-loop-t l = length l.tokens / TOKEN_ROW - l.seat.at
