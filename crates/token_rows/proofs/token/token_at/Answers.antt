use Rattle.std.proofs.Common.{arith}
use Rattle.basics.proofs.TokenRows.{tokens_end}
use Rattle.token_rows.proofs.Seen.{row_token}
use Rattle.token_rows.proofs.token.token_at.Goals as goal

pub returns-in_err-kind-clause-value : goal.returns-in_err-kind-clause-value
returns-in_err-kind-clause-value c = rw c.from_residual.ensures (tokens_end c.args.tokens.now c.args.at (omega (arith, c.in_err-kind.ensures)))

pub returns-clause-value : goal.returns-clause-value
returns-clause-value c = row_token c.args.tokens.now c.args.at c.in_ok-kind.field-0.now c.in_ok-kind.ensures
