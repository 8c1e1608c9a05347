-- `longest_by_all`: row, place and best match are those of a scan.
use Prim.Native.Nat.{◌+◌}
use native.Mathlib.Omega.{arith}
use Rattle.lex_table.proofs.Turns.{scanned_none, scanned_all, turn_dead, turn_final, turn_match, turn_on}
use Rattle.lexer.proofs.Hits.{hits}
use Rattle.lexer.proofs.longest.longest_by_all.Goals as goal
use Rattle.lexer.proofs.longest.longest_by_all.Goals.{then-next-lt-FIRST_SILENT, else-next-lt-FIRST_SILENT}

pub loop-n-init : goal.loop-n-init
loop-n-init c = (scanned_none c.args.bytes.now c.args.at, omega arith)

pub returns-then-next-eq-DEAD : goal.returns-then-next-eq-DEAD
returns-then-next-eq-DEAD c =
    let a = c.args in
    let l = c.loop-n in
    let s = c.step_any-next in
    hits a.bytes.now a.at l.best.row l.best.end
    (turn_dead a.bytes.now a.at l.n l.row l.best.row l.best.end s.result l.invariant.0 (omega arith) (omega (arith, c.type_inv.bytes l.n)) s.ensures c.if-next-eq-DEAD.true)
    (omega arith)

pub returns-else-next-eq-DEAD : goal.returns-else-next-eq-DEAD
returns-else-next-eq-DEAD c =
    let a = c.args in
    let l = c.loop-n in
    let s = c.step_any-next in
    hits a.bytes.now a.at s.result (l.n + 1)
    (turn_final a.bytes.now a.at l.n l.row l.best.row l.best.end s.result l.invariant.0 (omega arith) (omega (arith, c.type_inv.bytes l.n)) s.ensures (omega arith) c.if-next-eq-DEAD.false)
    (omega arith)

pub loop-n-preserved : goal.loop-n-preserved
loop-n-preserved c =
    let a = c.args in
    let l = c.loop-n in
    let s = c.step_any-next in
    elim c.if-next-lt-FIRST_SILENT.branch [
      | then-next-lt-FIRST_SILENT w ↦
          rw w.best-is (
            turn_match a.bytes.now a.at l.n l.row l.best.row l.best.end s.result l.invariant.0 (omega arith) (omega (arith, c.type_inv.bytes l.n)) s.ensures
                w.if-next-lt-FIRST_SILENT.true,
            omega arith,
          )
      | else-next-lt-FIRST_SILENT w ↦
          rw w.best-is (
            turn_on a.bytes.now a.at l.n l.row l.best.row l.best.end s.result l.invariant.0 (omega arith) (omega (arith, c.type_inv.bytes l.n)) s.ensures
                w.if-next-lt-FIRST_SILENT.false (omega arith),
            omega arith,
          )
    ]

pub returns : goal.returns
returns c =
    let a = c.args in
    let l = c.loop-n in
    hits a.bytes.now a.at l.best.row l.best.end
    (scanned_all a.bytes.now a.at l.n l.row l.best.row l.best.end l.invariant.0 (omega arith)) (omega arith)
