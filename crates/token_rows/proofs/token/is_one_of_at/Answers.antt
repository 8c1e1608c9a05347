use Rattle.std.proofs.Common.{rules}
use Rattle.token_rows.proofs.Seen.{first_read}
use Rattle.token_rows.proofs.token.is_one_of_at.Goals as goal

pub returns-clause-value : goal.returns-clause-value
returns-clause-value c = first_read c.args.set.now c.token_at.result _ _ _ c.token_at.ensures.value (search rules)
