-- `lexical_errors`: the tokens from here on are logged as all are.
use Rattle.std.proofs.Common.{◌+◌, ◌-◌, [], get_or, ◌/◌, ◌∙◌, sym, length, arith}
use Rattle.definitions.specs.Layout.{TOKEN_ROW}
use Rattle.sink_tokens.specs.Tokens.{log, errors_on}
use Rattle.sink_tokens.proofs.Runs.{token_row, errors_step, errors_end}
use Rattle.sink_tokens.proofs.lexical.lexical_errors.Goals as goal

pub loop-kind-preserved : goal.loop-kind-preserved
loop-kind-preserved c =
    let l = c.loop-kind in
    let t = c.args.tokens.now in
    let items = c.as_chunks.result.0.now in
    let row = token_row t l.kind-index items c.as_chunks.ensures.front c.as_chunks.ensures.front_len c.loop-kind-test.true in
    let rows = length t / TOKEN_ROW in
    rw (
      c.log_token-found.ensures,
      ← errors_step t l.kind-index l.byte (log l.found l.errors) (get_or items l.kind-index []) c.add-end.result (rows - (l.kind-index + 1)) (rows - l.kind-index) row c.add-end.ensures (omega arith),
    ) l.invariant

pub returns : goal.returns
unfolding errors_on
returns c =
    let l = c.loop-kind in
    sym (errors_end _ _ _ _ (length c.args.tokens.now / TOKEN_ROW - l.kind-index) (omega arith)) ∙ l.invariant
