-- `lower`: by what each search found.
use Rattle.std.proofs.lemmas.Result.{err_from_is_err_and}
use Rattle.lexer.proofs.Verdict.{neither, only_directive, directive_first, only_high, high_first}
use Rattle.lexer.proofs.check.lower.Goals as goal

pub returns-in_err-lexed : goal.returns-in_err-lexed
returns-in_err-lexed c =
    let p = err_from_is_err_and c.from_residual.result c.from_residual.ensures.1 in
    rw (p.1, p.2) (only_directive c.args.high c.args.lexed _ c.in_default.is c.in_err-lexed.was)

pub returns-in_default : goal.returns-in_default
returns-in_default c = neither c.args.high c.args.lexed _ c.in_default.is c.in_ok-lexed.was

pub returns-in-Err : goal.returns-in-Err
returns-in-Err c =
    rw c.into.ensures (directive_first c.args.high c.args.lexed _ _ c.in-Some.is c.in-Err.is c.if-directive-high.true)

pub returns-in-Ok : goal.returns-in-Ok
returns-in-Ok c = only_high c.args.high c.args.lexed _ _ c.in-Some.is c.in-Ok.is

pub returns-in-Err-2 : goal.returns-in-Err-2
returns-in-Err-2 c = high_first c.args.high c.args.lexed _ _ c.in-Some.is c.in-Err.is c.if-directive-high.false
