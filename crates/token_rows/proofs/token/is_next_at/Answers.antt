use Rattle.std.proofs.Common.{[], ◌∷◌, ◌∙◌}
use Rattle.token_rows.proofs.Seen.{none_next}
use Rattle.token_rows.proofs.token.is_next_at.Goals as goal

pub returns-else-is_some : goal.returns-else-is_some
returns-else-is_some c = c.if-is_some.false ∙ none_next (c.args.kind ∷ []) c.token_at.result _ _ c.token_at.ensures.value c.if-is_some.ensures
