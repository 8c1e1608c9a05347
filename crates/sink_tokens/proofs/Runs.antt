-- The turns of the loops over a run of tokens.
use Rattle.std.proofs.Common.{◌≡◌, ℕ, suc, ◌+◌, ◌*◌, ◌/◌, ◌<◌, List, [], length, get_or, arith}
use Rattle.std.proofs.lemmas.List.{get_or_default}
use Rattle.std.specs.Simd.{first_chunks}
use Rattle.layout.specs.Rows.{IsRow}
use Rattle.layout.proofs.Room.{chunk_row}
use Rattle.basics.specs.Word.{low}
use Rattle.definitions.specs.Layout.{TOKEN_ROW, TOKEN_LENGTH}
use Rattle.sink_tokens.specs.Tokens.{widthN, Log, logged, errorsN}

-- ---------------------------------------------------------------- the rows as pairs

pub token_row : (tokens : List ℕ) (i : ℕ) (rows : List (List ℕ)) → rows ≡ first_chunks TOKEN_ROW (length tokens / TOKEN_ROW) tokens → length rows ≡ length tokens / TOKEN_ROW → i < length rows → IsRow TOKEN_ROW tokens i (get_or rows i [])
token_row tokens i rows e n h = chunk_row TOKEN_ROW tokens i rows (get_or rows i []) e (omega arith) (get_or_default rows i [] _ h)

-- ---------------------------------------------------------------- the bytes of a run

pub width_step : (tokens : List ℕ) (at sum m n : ℕ) → n ≡ suc m → widthN n tokens at sum ≡ widthN m tokens (at + 1) (low (sum + get_or tokens (at * TOKEN_ROW + TOKEN_LENGTH) 0))
unfolding widthN
width_step tokens at sum m n e = rw e

pub width_end : (tokens : List ℕ) (at sum n : ℕ) → n ≡ 0 → widthN n tokens at sum ≡ sum
unfolding widthN
width_end tokens at sum n e = rw e

-- ---------------------------------------------------------------- lexical errors

pub errors_step : (tokens : List ℕ) (at byte : ℕ) (x : Log) (token : List ℕ) (end m n : ℕ) → IsRow TOKEN_ROW tokens at token → end ≡ low (byte + get_or token TOKEN_LENGTH 0) → n ≡ suc m
    → errorsN n tokens at byte x ≡ errorsN m tokens (at + 1) end (logged (get_or token 0 0) byte end x)
unfolding errorsN
errors_step tokens at byte x token end m n r e q =
    let z : at * TOKEN_ROW + 0 ≡ at * TOKEN_ROW = omega arith in
    rw (q, e, r.numbers 0 (omega arith), r.numbers TOKEN_LENGTH (omega arith), z)

pub errors_end : (tokens : List ℕ) (at byte : ℕ) (x : Log) (n : ℕ) → n ≡ 0 → errorsN n tokens at byte x ≡ x
unfolding errorsN
errors_end tokens at byte x n e = rw e
