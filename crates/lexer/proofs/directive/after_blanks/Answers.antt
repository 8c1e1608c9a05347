-- `after_blanks`: the blanks are passed.
use Rattle.std.proofs.Common.{rules, ◌≡◌}
use Rattle.std.specs.Prelude.{not, position}
use Rattle.std.proofs.lemmas.Iterator.{YieldsList-from_slice}
use Rattle.std.proofs.lemmas.Iterator.Search.{position_from_yields_List}
use Rattle.lexer.proofs.Search.{tail, blank, before_first, past_blanks}
use Rattle.lexer.proofs.directive.after_blanks.Goals as goal

pub returns : goal.returns
returns c =
    let s = c.args.text.now in
    let n = c.unwrap_or-blanks.result in
    let e : c.position.result ≡ position (λ b. not (blank b)) s =
    position_from_yields_List (λ b. not (blank b)) _ _ c.position.result c.position.ensures.ran
    (YieldsList-from_slice s c.iter.ensures.rest) (λ x b q k. search rules) in
    rw (tail s n, c.unwrap_or-blanks.ensures, e, before_first (λ b. not (blank b)) s) (past_blanks s)
