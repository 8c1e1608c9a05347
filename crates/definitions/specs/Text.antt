-- Document 02, 2/14: raw text without a preprocessor. "Add a text entry for plain ASCII sources, by the rules of
-- `lexer.rs`. .. Token rows go into a lent buffer, its rest zero, all of it zero at refusals 5 to 8. .. After 1,
-- refusal 2 for bytes comes first; for token numbers, over the limit or the buffer, it comes after 9 and 10; these
-- leave every buffer unchanged."
use Rattle.std.specs.Prelude.{ℕ, suc, ◌+◌, ◌/◌, Bool, true, false, cond, ◌&&◌, ◌||◌, List, [], ◌∷◌, leb, eqb, length, drop}
use Rattle.definitions.specs.Layout.{TOKEN_ROW, UNKNOWN_ENTRY, TOO_LONG, HIGH_BYTE, DIRECTIVE, MOST_BYTES, MOST_TOKEN_NUMBERS}
use Rattle.definitions.specs.Token.{Token}
use Rattle.definitions.specs.Rules.{ascii}
use Rattle.definitions.specs.Lex.{lex_after, lex}
use Rattle.definitions.specs.Call.{Buffers, Answer, Result, zeros, written, Asked, for, unknown, entry_of, call}

-- ---------------------------------------------------------------- what a text is refused for

-- an offset that was looked for
pub data Offset : Type 0 where
  nowhere : Offset
  found_at : ℕ → Offset

-- "9, byte of 128 or more, place its offset": in a text that starts at an offset
unfoldable pub high_byte : ℕ → List ℕ → Offset
high_byte i [] = nowhere
high_byte i (b ∷ s) =
    let more = high_byte (suc i) s in
    cond (leb 128 b) (found_at i) more

-- "any spaces or tabs"
unfoldable pub after_blanks : List ℕ → List ℕ
after_blanks [] = []
after_blanks (b ∷ s) =
    let more = after_blanks s in
    cond (eqb b 32 || eqb b 9) more (b ∷ s)

unfoldable pub begins_with : List ℕ → List ℕ → Bool
begins_with [] s = true
begins_with (a ∷ w) [] = false
begins_with (a ∷ w) (b ∷ s) = eqb b a && begins_with w s

unfoldable pub begins_with_one : List (List ℕ) → List ℕ → Bool
unfolding begins_with
begins_with_one [] s = false
begins_with_one (w ∷ ws) s = begins_with w s || begins_with_one ws s

-- "text that begins with if, elif, else, endif, pragma, define, undef, include or error"
abbrev pub directive_words : List (List ℕ)
directive_words =
    ascii "if" ∷ ascii "elif" ∷ ascii "else" ∷ ascii "endif" ∷ ascii "pragma" ∷ ascii "define" ∷ ascii "undef" ∷ ascii "include"
    ∷ ascii "error" ∷ []

unfoldable pub is_directive : List ℕ → Bool
unfolding after_blanks begins_with_one
is_directive [] = false
is_directive (b ∷ s) = eqb b 35 && begins_with_one directive_words (after_blanks s)

-- "10, `#` at a token start, .. place the `#`": in a text that starts at an offset and has these tokens
unfoldable pub directive : ℕ → List ℕ → List Token → Offset
unfolding is_directive
directive i s [] = nowhere
directive i s (t ∷ ts) =
    let more = directive (i + t.len) (drop t.len s) ts in
    cond (is_directive s) (found_at i) more

-- why a text is refused before its tokens are parsed
pub data TextRefusal : Type 0 where
  unknown_entry : TextRefusal
  too_long : TextRefusal
  has_high_byte : ℕ → TextRefusal
  has_directive : ℕ → TextRefusal

unfoldable pub text_number : TextRefusal → ℕ
text_number unknown_entry = UNKNOWN_ENTRY
text_number too_long = TOO_LONG
text_number (has_high_byte i) = HIGH_BYTE
text_number (has_directive i) = DIRECTIVE

unfoldable pub text_place : TextRefusal → ℕ
text_place unknown_entry = 0
text_place too_long = 0
text_place (has_high_byte i) = i
text_place (has_directive i) = i

pub data TextVerdict : Type 0 where
  sound : TextVerdict
  unsound : TextRefusal → TextVerdict

infixr 20 ◌or_then◌
unfoldable pub ◌or_then◌ : TextVerdict → TextVerdict → TextVerdict
sound or_then v = v
unsound r or_then v = unsound r

abbrev pub fit : Bool → TextVerdict
fit true = sound
fit false = unsound too_long

-- "the lower offset first"
unfoldable pub lower : Offset → Offset → TextVerdict
lower nowhere nowhere = sound
lower nowhere (found_at j) = unsound (has_directive j)
lower (found_at i) nowhere = unsound (has_high_byte i)
lower (found_at i) (found_at j) = cond (leb i j) (unsound (has_high_byte i)) (unsound (has_directive j))

-- the numbers of token rows
unfoldable pub numbers_of : List Token → List ℕ
numbers_of [] = []
numbers_of (t ∷ ts) = t.kind ∷ t.len ∷ numbers_of ts

-- 2 for bytes, 9 and 10, and 2 for token numbers: over the limit, or over the buffer's so many
unfoldable pub check_text : List ℕ → List Token → ℕ → TextVerdict
unfolding ◌or_then◌ high_byte directive lower numbers_of
check_text bytes ts room =
    let n = length (numbers_of ts) in
    fit (leb (length bytes) MOST_BYTES)
    or_then lower (high_byte 0 bytes) (directive 0 bytes ts)
    or_then fit (leb n MOST_TOKEN_NUMBERS && leb n room)

-- ---------------------------------------------------------------- the call

-- the answer, and what the lent buffers hold, that of the token rows among them
pub record TextResult : Type 0 where
  pub answer : Answer
  pub token_count : ℕ
  pub tokens : List ℕ
  pub buffers : Buffers

-- "these leave every buffer unchanged"
abbrev pub unchanged : TextRefusal → List ℕ → Buffers → TextResult
unchanged r tokens b =
    record {
      answer =
          record {
            number = text_number r;
            place = text_place r;
            tree_count = 0;
            error_count = 0;
            report_count = 0;
            expectation_count = 0;
          };
      token_count = 0;
      tokens = tokens;
      buffers = b;
    }

-- "Token rows go into a lent buffer, its rest zero, all of it zero at refusals 5 to 8": rows, the buffer, and what
-- became of the rows' parse
unfoldable pub with_rows : List ℕ → List ℕ → Result → TextResult
with_rows rows tokens r =
    let good = eqb r.answer.number 0 in
    record {
      answer = r.answer;
      token_count = cond good (length rows / TOKEN_ROW) 0;
      tokens = cond good (written rows tokens) (zeros tokens);
      buffers = r.buffers;
    }

-- "all else is that of the tokens"
unfoldable pub checked_text : TextVerdict → ℕ → ℕ → List ℕ → List ℕ → List ℕ → Buffers → TextResult
unfolding text_number text_place with_rows call
checked_text (unsound r) n setting bytes rows tokens b = unchanged r tokens b
checked_text sound n setting bytes rows tokens b = with_rows rows tokens (call n setting bytes rows b)

unfoldable pub asked_text : Asked → ℕ → ℕ → List ℕ → List ℕ → Buffers → TextResult
unfolding lex_after check_text numbers_of checked_text text_number text_place
asked_text unknown n setting bytes tokens b = unchanged unknown_entry tokens b
asked_text (for e) n setting bytes tokens b =
    let ts = lex bytes in
    checked_text (check_text bytes ts (length tokens)) n setting bytes (numbers_of ts) tokens b

-- entry, setting, input bytes, and the lent buffers as they are at entry: token rows, and those of the parse
unfoldable pub text_call : ℕ → ℕ → List ℕ → List ℕ → Buffers → TextResult
unfolding asked_text entry_of
text_call n setting bytes tokens b = asked_text (entry_of n) n setting bytes tokens b
