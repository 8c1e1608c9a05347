-- `comment_end`: the first star with a slash behind it.
use Rattle.std.proofs.Common.{rules, ◌≡◌, ◌+◌, ap, ◌∙◌}
use Rattle.std.specs.Prelude.{option_map}
use Rattle.std.proofs.iter.runs.Made.{chains}
use Rattle.lexer.specs.Found.{end_of}
use Rattle.lexer.proofs.Search.{FirstClosing, comment_found}
use Rattle.lexer.proofs.ends.comment_end.Goals as goal

pub returns-clause-found : goal.returns-clause-found
returns-clause-found c =
    let s = c.args.rest.now in
    let r = c.position.result in
    let f : FirstClosing s r = search (rules, chains) in
    let e : c.map.result ≡ option_map (λ n. n + 2) r = search (rules, chains) in
    ap end_of e ∙ comment_found s r f
