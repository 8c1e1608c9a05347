-- What a state means to the definitions: the match that ends in it.
use Rattle.std.specs.Prelude.{ℕ, cond, eqb, ltb, get_or}
use Rattle.definitions.specs.Rules.{Callback, no_callback, lex_block_comment, lex_string, lex_char, lex_bytestring}
use Rattle.definitions.specs.Lex.{Match, no_match, matched}
use Rattle.lex_table.specs.States.{kinds}

-- the states with a callback are the last that match
unfoldable pub callback_of : ℕ → Callback
callback_of state =
    cond (ltb state 128) no_callback
    (cond (eqb state 128) lex_block_comment (cond (eqb state 129) lex_string (cond (eqb state 130) lex_char lex_bytestring)))

-- the match that ends in a state after n bytes; none ends in the start
unfoldable pub match_of : ℕ → ℕ → Match
unfolding callback_of
match_of state n = cond (eqb state 0) no_match (matched n (get_or kinds state 0) (callback_of state))
