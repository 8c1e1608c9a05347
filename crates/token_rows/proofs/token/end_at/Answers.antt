use Rattle.std.proofs.Common.{rules}
use Rattle.token_rows.proofs.Seen.{end_read}
use Rattle.token_rows.proofs.token.end_at.Goals as goal

pub returns : goal.returns
returns c = end_read c.token_at.result _ _ _ _ c.token_at.ensures.value (search rules)
