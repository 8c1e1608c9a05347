-- `eat_trivia`: the trivia from here on are eaten as all are.
use Prim.Native.Nat.{◌-◌, ◌/◌}
use mathlib.Core.Path.{◌≡◌}
use lib.ListN.{length}
use Rattle.definitions.specs.Layout.{TOKEN_ROW}
use Rattle.sink.specs.Model.{on, trivia_on}
use Rattle.sink.proofs.Sink.eat_trivia.Given as goal

abbrev pub invariant-loop-self : goal.invariant-loop-self
invariant-loop-self l = trivia_on l.tokens (on l.self l.trees) ≡ trivia_on l.tokens (on l.fn.self l.fn.trees)

abbrev pub decreases-loop-self : goal.decreases-loop-self
decreases-loop-self l = length l.tokens / TOKEN_ROW - l.self.cursor
