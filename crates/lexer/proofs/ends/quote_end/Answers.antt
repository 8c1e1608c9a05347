-- `quote_end`: the quote, or one byte further.
use Rattle.std.proofs.Common.{arith, ◌≡◌, false}
use borrow.Author.Tests.{eq-eqb, ne_eqb}
use Rattle.lexer.proofs.Search.{closing, escaping, closed, passed, no_quote}
use Rattle.lexer.proofs.ends.quote_end.Goals as goal
use Rattle.lexer.proofs.ends.quote_end.Goals.{then-not-escaped-2, else-not-escaped-2, else-not-escaped-via-then-not-escaped+else-b-quote, else-not-escaped-via-else-not-escaped}

pub returns-then-b-quote-clause-found : goal.returns-then-b-quote-clause-found
returns-then-b-quote-clause-found c =
    let a = c.args in
    let l = c.loop-n in
    closed a.quote l.escaped a.rest.now l.n l.invariant (omega arith) (rw (c.if-not-escaped.true, eq-eqb _ _ c.if-b-quote.true))

pub loop-n-preserved : goal.loop-n-preserved
loop-n-preserved c =
    let a = c.args in
    let l = c.loop-n in
    let e : closing a.quote l.escaped a.rest.now l.n l.invariant ≡ false =
    elim c.else-not-escaped.branch [
      | else-not-escaped-via-then-not-escaped+else-b-quote w ↦ rw (w.if-not-escaped.true, ne_eqb _ _ w.if-b-quote.false)
      | else-not-escaped-via-else-not-escaped w ↦ rw w.if-not-escaped.false
    ] in
    let f : c.if-not-escaped-2.escaped ≡ escaping a.quote l.escaped a.rest.now l.n l.invariant =
    elim c.if-not-escaped-2.branch [
      | then-not-escaped-2 w ↦ rw (w.escaped-is, w.if-not-escaped-2.true)
      | else-not-escaped-2 w ↦ rw (w.escaped-is, w.if-not-escaped-2.false)
    ] in
    passed a.quote l.escaped a.rest.now l.n l.invariant _ (omega arith) e f

pub returns-clause-found : goal.returns-clause-found
returns-clause-found c =
    let a = c.args in
    let l = c.loop-n in
    no_quote a.quote l.escaped a.rest.now l.n l.invariant (omega arith)
