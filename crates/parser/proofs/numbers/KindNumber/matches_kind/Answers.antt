use Rattle.std.proofs.Common.{sym, ◌∙◌}
use Rattle.basics.proofs.Tests.{eqb_swap}
use Rattle.token_rows.proofs.Seen.{one_of_one}
use Rattle.parser.proofs.numbers.KindNumber.matches_kind.Goals as goal

pub returns : goal.returns
returns c = eqb_swap _ _ ∙ sym (one_of_one _ _)
