-- `longest`: as long as every state matches, the best match of a scan is that of its state.
use Prim.Native.Nat.{◌+◌}
use mathlib.Core.Path.{◌≡◌}
use native.Mathlib.Omega.{arith}
use lib.ListN.{length}
use Rattle.lex_table.proofs.Turns.{scanned_none, scanned_all, turn_dead, turn_final, turn_match}
use Rattle.lexer.proofs.Hits.{hits}
use Rattle.lexer.proofs.longest.longest.Goals as goal

pub loop-n-init : goal.loop-n-init
loop-n-init c = (scanned_none c.args.bytes.now c.args.at, omega arith)

pub returns-then-next-eq-DEAD : goal.returns-then-next-eq-DEAD
returns-then-next-eq-DEAD c =
    let a = c.args in
    let l = c.loop-n in
    let s = c.step-next in
    hits a.bytes.now a.at l.row l.n
    (turn_dead a.bytes.now a.at l.n l.row l.row l.n s.result l.invariant.0 (omega arith) (omega (arith, c.type_inv.bytes l.n)) s.ensures c.if-next-eq-DEAD.true)
    (omega arith)

pub returns-then-next-ge-FIRST_FINAL : goal.returns-then-next-ge-FIRST_FINAL
returns-then-next-ge-FIRST_FINAL c =
    let a = c.args in
    let l = c.loop-n in
    let s = c.step-next in
    hits a.bytes.now a.at s.result (l.n + 1)
    (turn_final a.bytes.now a.at l.n l.row l.row l.n s.result l.invariant.0 (omega arith) (omega (arith, c.type_inv.bytes l.n)) s.ensures (omega arith) c.if-next-eq-DEAD.false)
    (omega arith)

pub loop-n-preserved : goal.loop-n-preserved
loop-n-preserved c =
    let a = c.args in
    let l = c.loop-n in
    let s = c.step-next in
    (turn_match a.bytes.now a.at l.n l.row l.row l.n s.result l.invariant.0 (omega arith) (omega (arith, c.type_inv.bytes l.n)) s.ensures (omega arith), omega arith)

pub returns : goal.returns
returns c =
    let a = c.args in
    let l = c.loop-n in
    let e : length a.bytes.now ≡ l.n = omega arith in
    rw e (hits a.bytes.now a.at l.row l.n (scanned_all a.bytes.now a.at l.n l.row l.row l.n l.invariant.0 (omega arith)) (omega arith))
