-- What the loops of `longest` find is the longest match, inside of the text.
use Prim.Native.Nat.{ℕ, ◌≤◌}
use mathlib.Core.List.{List}
use lib.ListN.{length}
use Rattle.lex_table.proofs.Turns.{Found}
use Rattle.lexer.specs.Found.{Hits}

pub hits : (bytes : List ℕ) (at row end : ℕ) → Found bytes at row end → end ≤ length bytes → Hits bytes at row end
hits bytes at row end f h =
    record { state = f.state; len = f.len; held = f.held; ends = f.ends; hit = f.it; known = f.known; inside = h }
