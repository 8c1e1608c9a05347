-- `token_at`: no match, a match without a callback, or with one.
use Prim.Native.Nat.{◌+◌}
use native.Mathlib.Omega.{arith}
use mathlib.Core.Path.{◌≡◌, ◌∙◌}
use lib.ListN.{length, drop, length-drop}
use Rattle.lexer.proofs.Search.{tail}
use Rattle.lexer.proofs.Made.{none_here, plain_here, called_here}
use Rattle.lexer.proofs.token.token_at.Goals as goal

pub returns-then-hit-eq-START : goal.returns-then-hit-eq-START
returns-then-hit-eq-START c =
    let a = c.args in
    let s = c.longest-hit in
    none_here a.bytes.now a.at s.result.row s.result.end c.requires s.ensures c.if-hit-eq-START.true

pub returns-in_default : goal.returns-in_default
returns-in_default c =
    let a = c.args in
    let s = c.longest-hit in
    plain_here a.bytes.now a.at s.result.row s.result.end c.requires s.ensures c.from-kind.result c.if-hit-eq-START.false
    (c.from-kind.ensures ∙ c.kind_of.ensures) c.in_default.ensures

pub returns-in-Ok : goal.returns-in-Ok
returns-in-Ok c =
    let a = c.args in
    let s = c.longest-hit in
    let k = c.from-kind.result in
    called_here a.bytes.now a.at s.result.row s.result.end c.requires s.ensures k k (s.result.end + c.in-Ok.n) c.if-hit-eq-START.false
    (c.from-kind.ensures ∙ c.kind_of.ensures) c.in-Some.ensures (rw (tail a.bytes.now s.result.end) at (c.in-Ok.ensures.found k s.result.end))

pub returns-in-Err : goal.returns-in-Err
returns-in-Err c =
    let a = c.args in
    let s = c.longest-hit in
    let k = c.from-kind.result in
    let rest = drop s.result.end a.bytes.now in
    let e : length a.bytes.now ≡ s.result.end + length rest = omega (arith, length-drop s.result.end a.bytes.now, s.ensures.inside) in
    called_here a.bytes.now a.at s.result.row s.result.end c.requires s.ensures k c.in-Err.error (length a.bytes.now) c.if-hit-eq-START.false
    (c.from-kind.ensures ∙ c.kind_of.ensures) c.in-Some.ensures (rw e (rw (tail a.bytes.now s.result.end) at (c.in-Err.ensures.found k s.result.end)))
