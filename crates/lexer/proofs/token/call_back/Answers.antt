-- `call_back`: the search of each callback.
use mathlib.Core.Path.{refl, ◌∙◌, ap}
use Rattle.definitions.specs.LexError as L
use Rattle.definitions.specs.Rules.{lex_block_comment, lex_string, lex_char, lex_bytestring}
use Rattle.definitions.specs.Lex.{finish}
use Rattle.lexer.specs.Found.{closed}
use Rattle.lexer.proofs.Made.{closed_or}
use Rattle.lexer.proofs.token.call_back.Goals as goal

pub returns-in-BlockComment-clause-found : goal.returns-in-BlockComment-clause-found
unfolding finish
returns-in-BlockComment-clause-found c kind n =
    let rest = c.args.rest.now in
    let s = c.comment_end in
    rw c.in-BlockComment.is
    (ap (closed kind n rest) c.ok_or.ensures.value ∙ closed_or kind L.UnexpectedEndBlockComment n rest lex_block_comment s.result s.ensures.found refl)

pub returns-in-String-clause-found : goal.returns-in-String-clause-found
unfolding finish
returns-in-String-clause-found c kind n =
    let rest = c.args.rest.now in
    let s = c.quote_end in
    rw c.in-String.is
    (ap (closed kind n rest) c.ok_or-in-String.ensures.value ∙ closed_or kind L.UnexpectedEndString n rest lex_string s.result s.ensures.found refl)

pub returns-in-Char-clause-found : goal.returns-in-Char-clause-found
unfolding finish
returns-in-Char-clause-found c kind n =
    let rest = c.args.rest.now in
    let s = c.quote_end-in-Char in
    rw c.in-Char.is
    (ap (closed kind n rest) c.ok_or-in-Char.ensures.value ∙ closed_or kind L.UnexpectedEndChar n rest lex_char s.result s.ensures.found refl)

pub returns-in-Bytestring-clause-found : goal.returns-in-Bytestring-clause-found
unfolding finish
returns-in-Bytestring-clause-found c kind n =
    let rest = c.args.rest.now in
    let s = c.bracket_end in
    rw c.in-Bytestring.is
    (ap (closed kind n rest) c.ok_or-in-Bytestring.ensures.value ∙ closed_or kind L.UnexpectedEndBytestring n rest lex_bytestring s.result s.ensures.found refl)
