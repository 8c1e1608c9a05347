-- `kind_of`: the table's entry.
use native.Mathlib.Omega.{arith}
use mathlib.Core.Path.{◌∙◌, ap}
use mathlib.Core.List.{List}
use Prim.Native.Nat.{ℕ, ◌+◌, ◌/◌}
use lib.ListN.{get_or}
use Rattle.lex_table.specs.Table.{kind_of_row}
use Rattle.lex_table.proofs.Parts.{table_kind}
use Rattle.lex_table.proofs.Automaton.kind_of.Goals as goal

pub returns : goal.returns
unfolding kind_of_row
returns c =
    let i = c.args.row / 256 in
    ap (λ (l : List ℕ). get_or l (i + 7957) 0) c.args.self.now.of_the_rules ∙ table_kind i (i + 7957) (omega arith)
