use Rattle.std.proofs.Common.{arith, rules, sym}
use Rattle.input.proofs.Texts.{by_spelling, above}
use Rattle.input.proofs.static_text.is_spelled.Goals as goal

pub returns-in_default : goal.returns-in_default
returns-in_default c = sym (above c.args.kind c.args.text.now (omega (arith, c.in_default.ensures)))

pub returns : goal.returns
returns c = by_spelling c.args.kind c.args.text.now c.static_text.result c.is_none_or.result (rw c.in-Ok.ensures.1 at c.static_text.ensures) (search rules)
