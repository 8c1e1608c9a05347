-- Readings of document 02, 2/14: the tokens of short texts, and whole calls over a text, each in one table with one
-- proof. The answers were worked out by hand, from lexer.rs and the words; the sentence is quoted where one decides.
use Prim.Native.Nat.{ℕ}
use mathlib.Core.Path.{◌≡◌, refl}
use mathlib.Core.List.{List, [], ◌∷◌, ◌++◌}
use lib.ListN.{replicate}
use Rattle.definitions.specs.Rules.{ascii}
use Rattle.definitions.specs.Lex.{lex_after, lex}
use Rattle.definitions.specs.Call.{Answer, Buffers}
use Rattle.definitions.specs.Text.{numbers_of, TextResult, text_call}
use Rattle.definitions.proofs.Readings.{answer, sevens, lent}
use Rattle.definitions.proofs.StrictReadings.{refusal}

-- ---------------------------------------------------------------- tokens

-- a text, and the numbers of its token rows
pub record Lexing : Type 0 where
  pub text : List ℕ
  pub rows : List ℕ

infixl 80 ◌gives◌
abbrev pub ◌gives◌ : List ℕ → List ℕ → Lexing
t gives r = record { text = t; rows = r }

abbrev pub lexings : List Lexing
lexings =
    [] gives []
    -- "the longest match wins", and falls back to the longest that there was: no digit follows the prefix
    ∷ ascii "0x" gives (35 ∷ 1 ∷ 27 ∷ 1 ∷ [])
    -- an underscore is enough of a digit
    ∷ ascii "0x_" gives (35 ∷ 3 ∷ [])
    ∷ ascii "0b12" gives (35 ∷ 3 ∷ 35 ∷ 1 ∷ [])
    ∷ ascii "08" gives (35 ∷ 2 ∷ [])
    -- suffixes: `1u16` and `1u`, but not `1u1`
    ∷ ascii "1u16" gives (35 ∷ 4 ∷ [])
    ∷ ascii "1u1" gives (35 ∷ 2 ∷ 35 ∷ 1 ∷ [])
    ∷ ascii "1i1" gives (35 ∷ 1 ∷ 27 ∷ 2 ∷ [])
    ∷ ascii "1ul8" gives (35 ∷ 3 ∷ 35 ∷ 1 ∷ [])
    ∷ ascii "1lul" gives (35 ∷ 3 ∷ 27 ∷ 1 ∷ [])
    -- operators of two bytes
    ∷ ascii "<<=" gives (51 ∷ 2 ∷ 28 ∷ 1 ∷ [])
    ∷ ascii "&&&" gives (53 ∷ 2 ∷ 30 ∷ 1 ∷ [])
    -- "`#address-cells` is Ident, Minus, Ident"
    ∷ ascii "#a-b" gives (27 ∷ 2 ∷ 44 ∷ 1 ∷ 27 ∷ 1 ∷ [])
    -- a closing bracket may stand in an Ident, an opening one may not
    ∷ ascii "a][" gives (27 ∷ 2 ∷ 71 ∷ 1 ∷ [])
    ∷ ascii "/bits/" gives (17 ∷ 6 ∷ [])
    ∷ ascii "/bit" gives (46 ∷ 1 ∷ 27 ∷ 3 ∷ [])
    -- whitespace holds escaped line ends, and nothing else is escaped: "a byte where no rule matches is a Default error
    -- token of length 1"
    ∷ ascii " \\\n\\\r\n" gives (0 ∷ 6 ∷ [])
    ∷ ascii "\\\r" gives (74 ∷ 1 ∷ 0 ∷ 1 ∷ [])
    ∷ ascii "\\a" gives (74 ∷ 1 ∷ 27 ∷ 1 ∷ [])
    -- "a line comment runs up to CR, LF or the end"
    ∷ ascii "//\n" gives (3 ∷ 2 ∷ 0 ∷ 1 ∷ [])
    ∷ ascii "//a\r" gives (3 ∷ 3 ∷ 0 ∷ 1 ∷ [])
    ∷ ascii "///*" gives (3 ∷ 4 ∷ [])
    -- a block comment's end is looked for after its start
    ∷ ascii "/**/" gives (1 ∷ 4 ∷ [])
    ∷ ascii "/*/" gives (73 ∷ 3 ∷ [])
    -- quotes: a backslash escapes the next byte, also a backslash
    ∷ ascii "\"\\\\\"a" gives (33 ∷ 4 ∷ 27 ∷ 1 ∷ [])
    ∷ ascii "\"\\\"a" gives (70 ∷ 4 ∷ [])
    ∷ ascii "'''" gives (34 ∷ 2 ∷ 72 ∷ 1 ∷ [])
    ∷ ascii "[0]]" gives (36 ∷ 3 ∷ 27 ∷ 1 ∷ [])
    ∷ []

unfoldable pub lexed : List Lexing → List (List ℕ)
unfolding lex_after numbers_of
lexed [] = []
lexed (l ∷ ls) = numbers_of (lex l.text) ∷ lexed ls

unfoldable pub given_rows : List Lexing → List (List ℕ)
given_rows [] = []
given_rows (l ∷ ls) = l.rows ∷ given_rows ls

pub lexings_hold : lexed lexings ≡ given_rows lexings
unfolding lexed given_rows
lexings_hold = refl

-- ---------------------------------------------------------------- calls

-- entry, text; what must come out. What is lent is as long as what comes out, and full of sevens.
pub record TextReading : Type 0 where
  pub entry : ℕ
  pub text : List ℕ
  pub result : TextResult

-- answer, count of token rows, and what the token buffer and the others hold in the end
abbrev pub ends : ℕ → List ℕ → Answer → ℕ → List ℕ → Buffers → TextReading
ends n s a k t b = record { entry = n; text = s; result = record { answer = a; token_count = k; tokens = t; buffers = b } }

-- buffers of 30 event numbers and so many others
abbrev pub full_of : ℕ → ℕ → Buffers
full_of x trees =
    record { events = replicate 30 x; trees = replicate trees x; errors = replicate 3 x; reports = replicate 9 x; pool = replicate 9 x }

-- "these leave every buffer unchanged": of 10 token numbers and 20 tree numbers
abbrev pub refused_at : ℕ → ℕ → List ℕ → TextReading
refused_at number place s = ends 1 s (refusal number place) 0 (replicate 10 7) (full_of 7 20)

-- the tree rows of an accepted call, no error and no report; 20 tree numbers
abbrev pub parsed : List ℕ → Buffers
parsed rows =
    record { events = replicate 30 0; trees = rows; errors = replicate 3 0; reports = replicate 9 0; pool = replicate 9 0 }

-- `a;` and its tree
abbrev pub property : List ℕ
property = 0 ∷ 0 ∷ 2 ∷ 1 ∷ 0 ∷ 0 ∷ 16 ∷ 2 ∷ 2 ∷ 0 ∷ 1 ∷ 26 ∷ 1 ∷ 1 ∷ 1 ∷ 1 ∷ 29 ∷ 1 ∷ 1 ∷ 1 ∷ []

abbrev pub text_readings : List TextReading
text_readings =
    -- "Token rows go into a lent buffer, its rest zero", an odd last number too
    ends 1 (ascii "a;") (answer 4 0 0 0) 2 (27 ∷ 1 ∷ 29 ∷ 1 ∷ []) (parsed property)
    ∷ ends 1 (ascii "a;") (answer 4 0 0 0) 2 (27 ∷ 1 ∷ 29 ∷ 1 ∷ 0 ∷ 0 ∷ 0 ∷ []) (parsed property)
    -- "for token numbers, over the limit or the buffer": refusal 2, "unchanged"
    ∷ ends 1 (ascii "a;") (refusal 2 0) 0 (replicate 3 7) (full_of 7 20)
    -- "all of it zero at refusals 5 to 8": the tree does not fit
    ∷ ends 1 (ascii "a;") (refusal 8 0) 0 (replicate 5 0) (full_of 0 19)
    -- 1 comes first
    ∷ ends 5 (128 ∷ []) (refusal 1 0) 0 (replicate 4 7) (full_of 7 15)
    -- "`#` at a token start", wherever that is
    ∷ refused_at 10 1 (ascii "1#if")
    ∷ refused_at 10 2 (ascii "a,#if")
    ∷ refused_at 10 4 (ascii "/**/#if")
    -- "any spaces or tabs"
    ∷ refused_at 10 0 (ascii "# \t endif")
    -- "text that begins with if": no word's end is asked for
    ∷ refused_at 10 0 (ascii "#iface")
    ∷ refused_at 10 0 (ascii "#undefx")
    -- not inside an Ident, a string or a comment, and not after a line end
    ∷ ends 2 (ascii "a#if") (answer 2 0 0 0) 1 (27 ∷ 4 ∷ []) (parsed (0 ∷ 21 ∷ 4 ∷ 1 ∷ 0 ∷ 1 ∷ 26 ∷ 4 ∷ 1 ∷ 0 ∷ []))
    ∷ ends 2 (ascii "##if") (answer 2 0 0 0) 1 (27 ∷ 4 ∷ []) (parsed (0 ∷ 21 ∷ 4 ∷ 1 ∷ 0 ∷ 1 ∷ 26 ∷ 4 ∷ 1 ∷ 0 ∷ []))
    ∷ ends 3 (ascii "\"#if\"") (answer 2 0 0 0) 1 (33 ∷ 5 ∷ []) (parsed (0 ∷ 2 ∷ 5 ∷ 1 ∷ 0 ∷ 1 ∷ 33 ∷ 5 ∷ 1 ∷ 0 ∷ []))
    ∷ ends 1 (ascii "//#if") (answer 2 0 0 0) 1 (3 ∷ 5 ∷ []) (parsed (0 ∷ 0 ∷ 5 ∷ 1 ∷ 0 ∷ 1 ∷ 3 ∷ 5 ∷ 1 ∷ 0 ∷ []))
    ∷ ends 2 (ascii "#") (answer 2 0 0 0) 1 (27 ∷ 1 ∷ []) (parsed (0 ∷ 21 ∷ 1 ∷ 1 ∷ 0 ∷ 1 ∷ 26 ∷ 1 ∷ 1 ∷ 0 ∷ []))
    -- "9, byte of 128 or more, place its offset", also in a comment and in a string
    ∷ refused_at 9 2 (ascii "//" ++ 128 ∷ [])
    ∷ refused_at 9 1 (ascii "\"" ++ 255 ∷ ascii "\"")
    -- "the lower offset first"
    ∷ refused_at 10 0 (ascii "#if" ++ 128 ∷ [])
    ∷ refused_at 9 1 (ascii " " ++ 128 ∷ ascii " #if")
    -- 9 and 10 come before 2 for token numbers
    ∷ ends 1 (ascii "a;#if") (refusal 10 2) 0 [] (full_of 7 15)
    ∷ ends 1 (ascii "a;" ++ 128 ∷ []) (refusal 9 2) 0 (replicate 3 7) (full_of 7 15)
    ∷ []

unfoldable pub texts_called : List TextReading → List TextResult
unfolding text_call
texts_called [] = []
texts_called (r ∷ rs) =
    text_call r.entry 0 r.text (sevens r.result.tokens) (lent r.result.buffers) ∷ texts_called rs

unfoldable pub texts_wanted : List TextReading → List TextResult
texts_wanted [] = []
texts_wanted (r ∷ rs) = r.result ∷ texts_wanted rs

pub text_readings_hold : texts_called text_readings ≡ texts_wanted text_readings
unfolding texts_called texts_wanted
text_readings_hold = refl
