-- What the code does over the numbers of token rows, whatever they are. Each definition is the model of the function
-- whose contract cites it.
use Rattle.std.specs.Prelude.{ℕ, zero, suc, ◌+◌, ◌*◌, ◌/◌, Bool, false, cond, List, [], ◌∷◌, length, get_or, ltb, leb}
use Rattle.basics.specs.Word.{low}
use Rattle.definitions.specs.Layout.{TOKEN_ROW, TOKEN_LENGTH, ERROR_ROW}
use Rattle.layout.specs.Rows.{put_row}
use Rattle.definitions.specs.TokenKind as K
use Rattle.definitions.specs.Token.{is_error, is_trivia}

unfoldable pub kind_seen : ℕ → ℕ
unfolding is_error
kind_seen k = cond (is_error k) K.Unrecognized k

unfoldable pub trivia_here : List ℕ → ℕ → Bool
trivia_here tokens at = cond (ltb at (length tokens / TOKEN_ROW)) (is_trivia (get_or tokens (at * TOKEN_ROW) 0)) false

unfoldable pub at_most : ℕ → ℕ → ℕ
at_most n m = cond (leb n m) n m

-- the bytes of n tokens from an index on, added to a sum
unfoldable pub widthN : ℕ → List ℕ → ℕ → ℕ → ℕ
widthN zero tokens at sum = sum
widthN (suc n) tokens at sum = widthN n tokens (at + 1) (low (sum + get_or tokens (at * TOKEN_ROW + TOKEN_LENGTH) 0))

-- ---------------------------------------------------------------- lexical errors: how many, with the rows

pub data Log : Type 0 where
  log : ℕ → List ℕ → Log

abbrev pub put_error : ℕ → List ℕ → List ℕ → List ℕ
put_error row r errors = put_row ERROR_ROW (row * ERROR_ROW) r errors

unfoldable pub logged : ℕ → ℕ → ℕ → Log → Log
unfolding is_error
logged k from to (log n errors) =
    cond (is_error k) (log (low (n + 1)) (put_error n (k ∷ from ∷ to ∷ []) errors)) (log n errors)

-- n tokens from an index on
unfoldable pub errorsN : ℕ → List ℕ → ℕ → ℕ → Log → Log
unfolding logged
errorsN zero tokens at byte x = x
errorsN (suc n) tokens at byte x =
    let end = low (byte + get_or tokens (at * TOKEN_ROW + TOKEN_LENGTH) 0) in
    errorsN n tokens (at + 1) end (logged (get_or tokens (at * TOKEN_ROW) 0) byte end x)

unfoldable pub errors_on : List ℕ → List ℕ → Log
unfolding errorsN
errors_on tokens errors = errorsN (length tokens / TOKEN_ROW) tokens 0 0 (log 0 errors)
