-- `starts_at`: the hash, blanks, and a word.
use Rattle.std.proofs.Common.{◌+◌}
use borrow.Author.Tests.{eq-eqb, ne_eqb}
use Rattle.lexer.proofs.Search.{tail}
use Rattle.lexer.proofs.Directives.{directive_at}
use Rattle.lexer.proofs.directive.starts_at.Goals as goal

pub returns-then-bytes-at-eq35 : goal.returns-then-bytes-at-eq35
returns-then-bytes-at-eq35 c =
    let a = c.args in
    let s = a.bytes.now in
    let n = a.at + 1 in
    rw (directive_at s a.at c.requires, eq-eqb _ _ c.if-bytes-at-eq35.true, c.begins_with_one.ensures, c.after_blanks.ensures, tail s n)

pub returns-else-bytes-at-eq35 : goal.returns-else-bytes-at-eq35
returns-else-bytes-at-eq35 c =
    rw (directive_at c.args.bytes.now c.args.at c.requires, ne_eqb _ _ c.if-bytes-at-eq35.false)
