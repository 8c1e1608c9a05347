use Rattle.std.proofs.Common.{arith, length, ◌<◌}
use Rattle.basics.proofs.Flags.{flags}
use Rattle.definitions.specs.Layout.{TWO_TO_64}
use Rattle.macros.proofs.Tokens.{done_comma, done_end, further, few_left, comma_some, inside_some}
use Rattle.parser.proofs.Moves.{in_rows}
use Rattle.macros.proofs.bump_argument.Goals as goal

pub role_of-requires : goal.role_of-requires
role_of-requires c =
    let h : length c.args.p.now.tokens.now < TWO_TO_64 = omega arith in
    omega (arith, c.loop-next.invariant.left, few_left c.args.p.now h)

pub returns-in-Comma-clause-walks : goal.returns-in-Comma-clause-walks
returns-in-Comma-clause-walks c = done_comma (omega arith) c.loop-next.invariant c.peek.ensures c.kind_at.ensures.value c.role_of.ensures c.in-Comma.is

pub returns-in-Comma-clause-some : goal.returns-in-Comma-clause-some
returns-in-Comma-clause-some c = λ h. in_rows c.peek.new.self (c.kind_at.ensures.at_in_bounds (comma_some _ _ _ c.role_of.ensures c.in-Comma.is))

pub returns-in-End-clause-walks : goal.returns-in-End-clause-walks
returns-in-End-clause-walks c = done_end (omega arith) c.loop-next.invariant c.peek.ensures c.kind_at.ensures.value c.role_of.ensures c.in-End.is

pub loop-next-smaller : goal.loop-next-smaller
loop-next-smaller c =
    let some = in_rows c.peek.new.self (c.kind_at.ensures.at_in_bounds (inside_some _ _ _ _ c.role_of.ensures c.in-Inside.is)) in
    omega (flags, some, c.peek.ensures.left, c.bump.ensures.taken)

pub loop-next-preserved : goal.loop-next-preserved
loop-next-preserved c =
    let some = in_rows c.peek.new.self (c.kind_at.ensures.at_in_bounds (inside_some _ _ _ _ c.role_of.ensures c.in-Inside.is)) in
    further (omega arith) c.loop-next.invariant c.peek.ensures c.kind_at.ensures.value c.role_of.ensures c.in-Inside.is some c.bump.ensures.walks c.bump.ensures.taken
