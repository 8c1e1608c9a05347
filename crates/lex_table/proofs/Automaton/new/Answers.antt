-- `new`: the lists, one behind the other.
use mathlib.Core.Path.{refl}
use Rattle.lex_table.specs.States.{long_rows, classes, short_rows, kinds}
use Rattle.lex_table.specs.Table.{table}
use Rattle.lex_table.proofs.Automaton.new.Goals as goal

pub invariant_of-result : goal.invariant_of-result
unfolding table long_rows classes short_rows kinds
invariant_of-result c = record { of_the_rules = refl }
