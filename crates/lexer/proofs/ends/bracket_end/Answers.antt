-- `bracket_end`: the first bracket.
use Rattle.std.proofs.Common.{rules, ◌≡◌, ℕ, ◌+◌, ap, ◌∙◌}
use Rattle.std.specs.Prelude.{Option, option_map, position, eqb}
use Rattle.std.proofs.iter.runs.Made.{chains}
use Rattle.std.proofs.lemmas.Iterator.{YieldsList-from_slice}
use Rattle.std.proofs.lemmas.Iterator.Search.{position_from_yields_List}
use Rattle.lexer.specs.Found.{end_of}
use Rattle.lexer.proofs.Search.{bracket_found}
use Rattle.lexer.proofs.ends.bracket_end.Goals as goal

pub returns-clause-found : goal.returns-clause-found
returns-clause-found c =
    let s = c.args.rest.now in
    let r = c.position.result in
    let p : r ≡ position (λ b. eqb b 93) s =
    position_from_yields_List (λ b. eqb b 93) _ _ r c.position.ensures.ran
    (YieldsList-from_slice s c.iter.ensures.rest) (λ x b q k. search rules) in
    let e : c.map.result ≡ option_map (λ n. n + 1) r = search (rules, chains) in
    ap end_of e ∙ ap (λ (x : Option ℕ). end_of (option_map (λ n. n + 1) x)) p ∙ bracket_found s
