-- What the functions of src/ find, in the terms of `definitions`.
use Rattle.std.specs.Prelude.{ℕ, ◌+◌, ◌*◌, ◌≤◌, ◌<◌, ◌≡◌, cond, ◌&&◌, List, ◌++◌, leb, ltb, length, drop, set, Option, Some, None, Result, Ok, Err, IfErr}
use Rattle.definitions.specs.Layout.{MOST_TOKEN_NUMBERS, TOKEN_LENGTH}
use Rattle.definitions.specs.Token.{Token}
use Rattle.definitions.specs.Lex.{longest, End, ended, unexpected_end, a_token, next_token, lex}
use Rattle.definitions.specs.Text.{Offset, nowhere, found_at, directive, TextRefusal, too_long, has_high_byte, has_directive, TextVerdict, sound, unsound, lower, fit, numbers_of, check_text}
use Rattle.lex_table.specs.Matches.{match_of}
use Rattle.lexer.specs.declared.rows.Directive.{Directive}
use Rattle.lexer.specs.declared.check.Cause.{Cause}
use Rattle.lexer.specs.declared.check.Cause.TheVariants as C

-- the longest match from byte `at` on: the row of its state, 0 for none, and the byte after it
pub record Hits (bytes : List ℕ) (at row end : ℕ) : Type 0 where
  pub state : ℕ
  pub len : ℕ
  pub held : row ≡ state * 256
  pub ends : end ≡ at + len
  pub hit : match_of state len ≡ longest (length (drop at bytes)) (drop at bytes)
  pub known : state < 132
  pub inside : end ≤ length bytes

-- a callback's answer: how many of the bytes after a match belong to its token
abbrev pub end_of : Option ℕ → End
end_of (Some n) = ended n
end_of None = unexpected_end

-- a match of n bytes, and what its callback found in the rest: so many bytes more, or an error up to the end
abbrev pub closed : ℕ → ℕ → List ℕ → Result ℕ ℕ → Token
closed kind n rest (Ok m) = a_token kind (n + m)
closed kind n rest (Err error) = a_token error (n + length rest)

-- the token that starts at a byte: its kind, and the byte after it
pub record TokenHere (bytes : List ℕ) (at kind end : ℕ) : Type 0 where
  pub len : ℕ
  pub ends : end ≡ at + len
  pub some : 1 ≤ len
  pub inside : end ≤ length bytes
  pub token : a_token kind len ≡ next_token (drop at bytes)

-- where the first byte of 128 or more was found
abbrev pub offset_of : Option ℕ → Offset
offset_of (Some i) = found_at i
offset_of None = nowhere

-- a row, if it fits
unfoldable pub put_row : List ℕ → ℕ → ℕ → ℕ → List ℕ
put_row rows i kind len =
    cond (ltb (i + TOKEN_LENGTH) (length rows)) (set (set rows i kind) (i + TOKEN_LENGTH) len) rows

-- ---------------------------------------------------------------- a pass over a text

abbrev pub directive_of : Result ℕ Directive → Offset
directive_of (Ok n) = nowhere
directive_of (Err d) = found_at d.at

-- a directive that was found lies before the end
abbrev pub Within : ℕ → Result ℕ Directive → Type 0
Within end r = IfErr r (λ d. d.at < end)

-- rows, rows': the buffer before and after it
pub record Lexes (bytes rows rows' : List ℕ) (r : Result ℕ Directive) : Type 0 where
  pub found : directive_of r ≡ directive 0 bytes (lex bytes)
  pub inside : Within (length bytes) r
  pub counted : (n : ℕ) → r ≡ Ok n → n ≡ length (numbers_of (lex bytes))
  pub written : (n : ℕ) → r ≡ Ok n → n ≤ length rows → rows' ≡ numbers_of (lex bytes) ++ drop n rows
  pub same_length : length rows' ≡ length rows

-- ---------------------------------------------------------------- the checks

abbrev pub verdict_of : Result ℕ Cause → TextVerdict
verdict_of (Ok n) = sound
verdict_of (Err C.TooLong) = unsound too_long
verdict_of (Err (C.HighByte i)) = unsound (has_high_byte i)
verdict_of (Err (C.Directive i)) = unsound (has_directive i)

pub record FitsRoom (numbers room : ℕ) (r : Result ℕ Cause) : Type 0 where
  pub verdict : verdict_of r ≡ fit (leb numbers MOST_TOKEN_NUMBERS && leb numbers room)
  pub counted : (n : ℕ) → r ≡ Ok n → n ≡ numbers

pub record Lower (high : Option ℕ) (lexed : Result ℕ Directive) (r : Result ℕ Cause) : Type 0 where
  pub verdict : verdict_of r ≡ lower (offset_of high) (directive_of lexed)
  pub counted : (n : ℕ) → r ≡ Ok n → lexed ≡ Ok n

-- the verdict on a text, and for a sound one how many token numbers it has
pub record Checks (bytes : List ℕ) (room : ℕ) (r : Result ℕ Cause) : Type 0 where
  pub verdict : verdict_of r ≡ check_text bytes (lex bytes) room
  pub counted : (n : ℕ) → r ≡ Ok n → n ≡ length (numbers_of (lex bytes))

-- and the buffer, before and after: the token numbers are at its front if the text is sound; else it is as it was
pub record Reads (bytes tokens tokens' : List ℕ) (r : Result ℕ Cause) : Type 0 where
  pub verdict : verdict_of r ≡ check_text bytes (lex bytes) (length tokens)
  pub counted : (n : ℕ) → r ≡ Ok n → n ≡ length (numbers_of (lex bytes))
  pub written : (n : ℕ) → r ≡ Ok n → tokens' ≡ numbers_of (lex bytes) ++ drop n tokens
  pub refused : (x : TextRefusal) → verdict_of r ≡ unsound x → tokens' ≡ tokens
  pub same_length : length tokens' ≡ length tokens
