-- `check`: the bytes, then both searches, then room.
use Rattle.std.proofs.lemmas.Result.{err_from_is_err_and}
use Rattle.lexer.proofs.Verdict.{many_bytes, refused, all_checked}
use Rattle.lexer.proofs.check.check.Goals as goal

pub returns-then-bytes-gt-MOST_BYTES : goal.returns-then-bytes-gt-MOST_BYTES
returns-then-bytes-gt-MOST_BYTES c = many_bytes c.args.bytes.now c.args.room c.if-bytes-gt-MOST_BYTES.true

pub returns-in_err-numbers : goal.returns-in_err-numbers
returns-in_err-numbers c =
    let p = err_from_is_err_and c.from_residual.result c.from_residual.ensures.1 in
    rw (p.1, p.2)
    (refused c.args.bytes.now c.first.result c.lex-lexed.result c.args.room c.if-bytes-gt-MOST_BYTES.false c.first.ensures c.lex-lexed.ensures
    _ c.in_err-numbers.ensures)

pub returns : goal.returns
returns c =
    all_checked c.args.bytes.now c.first.result c.lex-lexed.result c.args.room c.if-bytes-gt-MOST_BYTES.false c.first.ensures c.lex-lexed.ensures
    c.in_ok-numbers.numbers c.check_room.result c.in_ok-numbers.ensures c.check_room.ensures
