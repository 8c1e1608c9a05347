-- `step`: the table's entry.
use Rattle.lex_table.proofs.Looks.{long_read}
use Rattle.lex_table.proofs.Automaton.step.Goals as goal

pub returns : goal.returns
returns c =
    let a = c.args in
    long_read a.self.now.table a.row c.from.result a.b c.into.result a.self.now.of_the_rules c.requires c.from.ensures c.into.ensures
