use Rattle.std.proofs.Common.{sym, ◌∙◌}
use Rattle.basics.proofs.Tests.{eqb_swap}
use Rattle.token_rows.proofs.Seen.{one_of_one}
use Rattle.parser.proofs.Moves.{any_one_of, first_is, second_is}
use Rattle.parser.proofs.matcher.Matcher.matches_kind.Goals as goal

pub returns-in-Kind : goal.returns-in-Kind
returns-in-Kind c = rw (c.in-Kind.is, c.number.ensures) (eqb_swap _ _ ∙ sym (one_of_one _ _))

pub returns-then-k-number : goal.returns-then-k-number
returns-then-k-number c = rw (c.in-Either.is, ← c.number-in-Either.ensures) (first_is _ _ _ c.if-k-number.true)

pub returns-else-k-number : goal.returns-else-k-number
returns-else-k-number c = rw (c.in-Either.is, ← c.number-in-Either.ensures, ← c.number-else-k-number.ensures) (second_is _ _ _ c.if-k-number.false)

pub returns-in-Name : goal.returns-in-Name
returns-in-Name c = rw (c.in-Name.is) (c.contains.ensures.value ∙ any_one_of _ _)

pub returns-in-LabelName : goal.returns-in-LabelName
returns-in-LabelName c = rw (c.in-LabelName.is) (c.contains-in-LabelName.ensures.value ∙ any_one_of _ _)
