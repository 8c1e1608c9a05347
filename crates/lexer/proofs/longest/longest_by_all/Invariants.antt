-- `longest_by_all`: row, place and best match are those of a scan.
use Prim.Native.Nat.{◌≤◌}
use Rattle.lex_table.proofs.Turns.{Scanned}
use Rattle.lexer.proofs.longest.longest_by_all.Given as goal

abbrev pub invariant-loop-n : goal.invariant-loop-n
invariant-loop-n l = Scanned l.bytes l.at l.n l.row l.best.row l.best.end × (l.best.end ≤ l.n)
