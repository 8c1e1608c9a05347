-- Document 02, 4/14: what is wrong with the row; and by it the checks of a call's input in their order.
use Rattle.std.specs.Prelude.{ℕ, suc, ◌+◌, ◌/◌, ◌%◌, Bool, not, ◌&&◌, ◌||◌, List, [], ◌∷◌, leb, eqb, length}
use Rattle.definitions.specs.Layout.{TOKEN_ROW}
use Rattle.definitions.specs.TokenKind as K
use Rattle.definitions.specs.LexError as L
use Rattle.definitions.specs.Token.{Token, tokens_of}
use Rattle.definitions.specs.Refusal.{odd_count, bad_kind, zero_length, past_input, short_total, Verdict, unless, ◌or_else◌, check_sizes, check_texts}

-- "Refusal 3 .. remains for an odd count of numbers": its place is the count of whole rows
unfoldable pub check_count : List ℕ → Verdict
check_count tokens = unless (eqb (length tokens % TOKEN_ROW) 0) (odd_count (length tokens / TOKEN_ROW))

-- the kinds of a token row: those of `TokenKind` but for Unrecognized and Name, which the parser makes, and those of
-- `LexError`
unfoldable pub is_kind : ℕ → Bool
is_kind k = (leb k K.QuestionMark && not (eqb k K.Unrecognized) && not (eqb k K.Name)) || (leb L.UnexpectedEndIncbin k && leb k L.Default)

-- "11, bad kind; 12, length 0; 13, a token ends past the input", "tried within a row in the order given": of row i,
-- whose token starts at this byte, in an input of so many. Sums have no limit
unfoldable pub check_row : ℕ → ℕ → ℕ → Token → Verdict
unfolding is_kind ◌or_else◌
check_row i start size t =
    unless (is_kind t.kind) (bad_kind i)
    or_else unless (leb 1 t.len) (zero_length i)
    or_else unless (leb (start + t.len) size) (past_input i)

-- "at the first bad row", from row i on; and 13 "or last, with the count of rows as place, the total is short": no row
-- ends past the input there, so a total that is not the input's length is less
unfoldable pub check_rows : ℕ → ℕ → ℕ → List Token → Verdict
unfolding check_row ◌or_else◌
check_rows i start size [] = unless (eqb start size) (short_total i)
check_rows i start size (t ∷ ts) =
    let r = check_rows (suc i) (start + t.len) size ts in
    check_row i start size t or_else r

-- causes 2 to 4 and 11 to 13, in their order: an odd count is "tried right after 2", and "all come before 4"
unfoldable pub check_input : List ℕ → List ℕ → Verdict
unfolding ◌or_else◌ check_sizes check_count check_rows check_texts tokens_of
check_input bytes tokens =
    check_sizes bytes tokens
    or_else check_count tokens
    or_else check_rows 0 0 (length bytes) (tokens_of tokens)
    or_else check_texts 0 bytes (tokens_of tokens)
