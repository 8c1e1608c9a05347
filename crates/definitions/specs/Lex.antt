-- lexer.rs: `lex`, over the rules of specs/Rules.antt, and its callbacks.
use Rattle.std.specs.Prelude.{ℕ, zero, suc, pred, ◌+◌, Bool, false, cond, not, ◌&&◌, List, [], ◌∷◌, eqb, length, take, drop}
use Rattle.definitions.specs.LexError as L
use Rattle.definitions.specs.Token.{Token}
use Rattle.definitions.specs.Pattern.{fits}
use Rattle.definitions.specs.Rules.{Callback, no_callback, lex_block_comment, lex_string, lex_char, lex_bytestring, Rule, rules}

-- ---------------------------------------------------------------- the match

-- of how many bytes, by a rule of this kind and callback
pub data Match : Type 0 where
  no_match : Match
  matched : ℕ → ℕ → Callback → Match

abbrev pub else : Match → Match → Match
else no_match m = m
else (matched n k c) m = matched n k c

-- the first rule that a whole text fits, one of n bytes
unfoldable pub first_rule : ℕ → List Rule → List ℕ → Match
unfolding fits
first_rule n [] u = no_match
first_rule n (r ∷ rs) u =
    let more = first_rule n rs u in
    cond (fits r.pattern u) (matched n r.kind r.callback) more

-- "The longest match wins": of the first n bytes of a text, else of fewer
unfoldable pub longest : ℕ → List ℕ → Match
unfolding first_rule
longest zero s = no_match
longest (suc n) s =
    let fewer = longest n s in
    else (first_rule (suc n) rules (take (suc n) s)) fewer

-- ------------------------------------------------- callbacks: how many bytes there are up to the token's end

pub data End : Type 0 where
  ended : ℕ → End
  unexpected_end : End

abbrev pub one_more : End → End
one_more (ended n) = ended (suc n)
one_more unexpected_end = unexpected_end

abbrev pub starts_with : ℕ → List ℕ → Bool
starts_with a [] = false
starts_with a (b ∷ s) = eqb b a

-- `lex_block_comment`: after the first */
unfoldable pub comment_end : List ℕ → End
comment_end [] = unexpected_end
comment_end (b ∷ s) =
    let more = one_more (comment_end s) in
    cond (eqb b 42 && starts_with 47 s) (ended 2) more

-- `lex_string`, `lex_char`: after the first such quote that is not escaped, by a backslash that is not escaped itself
unfoldable pub quote_end : ℕ → Bool → List ℕ → End
quote_end quote escaped [] = unexpected_end
quote_end quote escaped (b ∷ s) =
    let more = one_more (quote_end quote (not escaped && eqb b 92) s) in
    cond (not escaped && eqb b quote) (ended 1) more

-- `lex_bytestring`: after the first ]
unfoldable pub bracket_end : List ℕ → End
bracket_end [] = unexpected_end
bracket_end (b ∷ s) =
    let more = one_more (bracket_end s) in
    cond (eqb b 93) (ended 1) more

-- ---------------------------------------------------------------- the tokens

abbrev pub a_token : ℕ → ℕ → Token
a_token k n = record { kind = k; len = n }

-- a match of n bytes and what its callback finds in the rest; without an end, an error token up to the text's end
abbrev pub close : ℕ → ℕ → ℕ → List ℕ → End → Token
close k error n rest (ended m) = a_token k (n + m)
close k error n rest unexpected_end = a_token error (n + length rest)

unfoldable pub finish : ℕ → ℕ → Callback → List ℕ → Token
unfolding comment_end quote_end bracket_end
finish n k no_callback rest = a_token k n
finish n k lex_block_comment rest = close k L.UnexpectedEndBlockComment n rest (comment_end rest)
finish n k lex_string rest = close k L.UnexpectedEndString n rest (quote_end 34 false rest)
finish n k lex_char rest = close k L.UnexpectedEndChar n rest (quote_end 39 false rest)
finish n k lex_bytestring rest = close k L.UnexpectedEndBytestring n rest (bracket_end rest)

-- "a byte where no rule matches is a Default error token of length 1"
unfoldable pub made_of : Match → List ℕ → Token
unfolding finish
made_of no_match s = a_token L.Default 1
made_of (matched n k c) s = finish n k c (drop n s)

-- the token that a text starts with
unfoldable pub next_token : List ℕ → Token
unfolding longest made_of
next_token s = made_of (longest (length s) s) s

-- the tokens of a text whose first k bytes belong to a token that was given before
unfoldable pub lex_after : ℕ → List ℕ → List Token
unfolding next_token
lex_after k [] = []
lex_after zero (b ∷ s) =
    let t = next_token (b ∷ s) in
    t ∷ lex_after (pred t.len) s
lex_after (suc k) (b ∷ s) = lex_after k s

abbrev pub lex : List ℕ → List Token
lex s = lex_after 0 s
