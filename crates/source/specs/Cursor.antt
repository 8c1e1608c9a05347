-- Where the cursor of a `Source` moves, from a token index on.
use Rattle.std.specs.Prelude.{ℕ, ◌+◌, ◌-◌, ◌≡◌, List, length, drop}
use Rattle.definitions.specs.Token.{Token, drop_trivia, past}
use Rattle.token_rows.specs.Tokens.{kind_of}

-- where `rest` starts, which is what is left once some tokens from here on are passed: their number is the difference
abbrev pub start_of : List Token → ℕ → List Token → ℕ
start_of ts at rest = at + (length (drop at ts) - length rest)

-- past the trivia at a token index
abbrev pub after_trivia : List Token → ℕ → ℕ
after_trivia ts at = start_of ts at (drop_trivia (drop at ts))

-- past the first token that is not trivia, if there is one
abbrev pub after_token : List Token → ℕ → ℕ
after_token ts at = start_of ts at (past (drop_trivia (drop at ts)))

-- what is seen from a token index: the kind there, the kind past trivia, and the index past the token of that kind
abbrev pub Seen : List Token → ℕ → ℕ → ℕ → ℕ → Type 0
Seen ts at immediate kind next =
    (immediate ≡ kind_of (drop at ts)) × (kind ≡ kind_of (drop_trivia (drop at ts))) × (next ≡ after_token ts at)
