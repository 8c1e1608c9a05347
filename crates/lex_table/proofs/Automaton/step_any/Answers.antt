-- `step_any`: the table's entry, which for a short row is found by the byte's class.
use native.Mathlib.Omega.{arith}
use Rattle.basics.proofs.Flags.{flags}
use Rattle.lex_table.proofs.Looks.{class_read, class_small, short_read}
use Rattle.lex_table.proofs.Automaton.step_any.Goals as goal

pub bounds-self-row : goal.bounds-self-row
bounds-self-row c =
    let s = c.args.self.now in
    omega (flags, class_small s.table c.from.result c.args.b c.from-class.result s.of_the_rules c.from.ensures c.from-class.ensures (omega arith))

pub returns : goal.returns
returns c =
    let a = c.args in
    let s = a.self.now in
    short_read s.table a.row a.b c.from-class.result c.into.result s.of_the_rules c.if-row-lt-FIRST_SILENT.false
    (class_read s.table c.from.result a.b c.from-class.result s.of_the_rules c.from.ensures c.from-class.ensures) c.into.ensures
