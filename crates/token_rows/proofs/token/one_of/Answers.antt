use Rattle.std.proofs.Common.{◌∙◌}
use Rattle.token_rows.proofs.Seen.{any_one_of}
use Rattle.token_rows.proofs.token.one_of.Goals as goal

pub returns : goal.returns
returns c = c.contains.ensures.value ∙ any_one_of c.args.set.now c.args.kind
