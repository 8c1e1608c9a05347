use Rattle.std.proofs.Common.{rules}
use Rattle.token_rows.proofs.Seen.{is_read}
use Rattle.token_rows.proofs.token.is_at.Goals as goal

pub returns-clause-value : goal.returns-clause-value
returns-clause-value c = is_read c.args.kind c.token_at.result _ _ _ c.token_at.ensures.value (search rules)
