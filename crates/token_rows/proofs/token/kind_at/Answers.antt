use Rattle.std.proofs.Common.{rules}
use Rattle.token_rows.proofs.Seen.{kind_read}
use Rattle.token_rows.proofs.token.kind_at.Goals as goal

pub returns-clause-value : goal.returns-clause-value
returns-clause-value c = kind_read c.token_at.result _ _ _ c.token_at.ensures.value (search rules)
