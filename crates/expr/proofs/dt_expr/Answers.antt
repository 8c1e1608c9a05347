-- `dt_expr`: a marker around an expression in brackets.
use Rattle.std.proofs.Common.{arith}
use Rattle.definitions.specs.Grammar.{dt_expr}
use Rattle.machine.specs.Walk.{walk_rule, unlabelled}
use Rattle.parser.proofs.Ways.{node, seq, stay, call}
use Rattle.expr.proofs.dt_expr.Goals as goal

pub returns-clause-walks : goal.returns-clause-walks
unfolding dt_expr
returns-clause-walks c =
    let n = c.args.allowed in
    node (omega arith) c.start-m.ensures.marker c.start-m.ensures.becomes
    (seq (seq (c.bump.ensures.walks.way (walk_rule n) unlabelled) (seq (call n c.expr.ensures.opens) (c.expect.ensures.walks.way (walk_rule n) unlabelled))) stay)
    c.complete.ensures.becomes
