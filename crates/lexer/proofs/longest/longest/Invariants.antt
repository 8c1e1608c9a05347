-- `longest`: as long as every state matches, the best match of a scan is that of its state.
use Prim.Native.Nat.{◌<◌}
use Rattle.lex_table.proofs.Turns.{Scanned}
use Rattle.lexer.proofs.longest.longest.Given as goal

abbrev pub invariant-loop-n : goal.invariant-loop-n
invariant-loop-n l = Scanned l.bytes l.at l.n l.row l.row l.n × (l.row < 5376)
