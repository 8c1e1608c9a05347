-- `quote_end`: what is left to search from byte n on.
use Rattle.std.proofs.Common.{◌≡◌, false, drop}
use Rattle.definitions.specs.Lex.{quote_end}
use Rattle.lexer.proofs.Search.{placed}
use Rattle.lexer.proofs.ends.quote_end.Given as goal

abbrev pub invariant-loop-n : goal.invariant-loop-n
invariant-loop-n l = placed l.n (quote_end l.quote l.escaped (drop l.n l.rest)) ≡ quote_end l.quote false l.rest
