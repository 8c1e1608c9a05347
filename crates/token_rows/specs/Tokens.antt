-- What is seen of the first of some tokens.
use Rattle.std.specs.Prelude.{ℕ, List, [], ◌∷◌}
use Rattle.definitions.specs.LexError as L
use Rattle.definitions.specs.Token.{Token, seen}
use Rattle.token_rows.specs.declared.token.Token.{Token as Row}

-- a row of the code's as a token
abbrev pub token_of : Row → Token
token_of t = record { kind = t.kind; len = t.len }

-- what a test sees past the last token: an error token is seen as Unrecognized, so that no token is seen as this
abbrev pub SEEN_AT_END : ℕ
SEEN_AT_END = L.UnexpectedEndIncbin

-- what a test sees of the first of some tokens
unfoldable pub kind_of : List Token → ℕ
unfolding seen
kind_of [] = SEEN_AT_END
kind_of (t ∷ ts) = seen t
