-- `lex`: the tokens up to `at` are passed.
use native.Mathlib.Omega.{arith}
use Rattle.lexer.proofs.Passed.{past_token, at_directive, at_last}
use Rattle.lexer.proofs.rows.lex.Goals as goal

pub returns-then-starts_at : goal.returns-then-starts_at
returns-then-starts_at c =
    let a = c.args in
    let l = c.loop-at in
    at_directive a.bytes.now a.rows.now l.rows l.at l.index l.invariant (omega arith) c.if-starts_at.ensures

pub loop-at-preserved : goal.loop-at-preserved
loop-at-preserved c =
    let a = c.args in
    let l = c.loop-at in
    let t = c.token_at-token in
    rw c.put.ensures
    (past_token a.bytes.now a.rows.now l.rows l.at l.index l.invariant (omega arith) t.result.kind t.result.end t.ensures
    c.if-starts_at.ensures)

pub returns : goal.returns
returns c =
    let a = c.args in
    let l = c.loop-at in
    at_last a.bytes.now a.rows.now l.rows l.at l.index l.invariant (omega arith)
