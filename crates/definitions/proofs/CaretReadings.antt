-- Readings of document 02, 5/14: which rows a query lists, file by file, and some whole answers with all buffers. The
-- answers were worked out by hand, from the words; the sentence is quoted where one decides.
use Prim.Native.Nat.{ℕ}
use mathlib.Core.Path.{◌≡◌, refl}
use mathlib.Core.List.{List, [], ◌∷◌}
use lib.ListN.{replicate}
use Rattle.definitions.specs.Token.{tokens_of, byte_count}
use Rattle.definitions.specs.Place.{Tree}
use Rattle.definitions.specs.Call.{Buffers, Result, call}
use Rattle.definitions.specs.Caret.{Query, caret, range, listed, source_tree, ListResult, query_call}
use Rattle.definitions.proofs.StrictReadings.{refusal}

-- a query and the rows that it lists
pub record Asked : Type 0 where
  pub query : Query
  pub rows : List ℕ

abbrev pub at : ℕ → List ℕ → Asked
at offset l = record { query = caret offset; rows = l }

abbrev pub from_to : ℕ → ℕ → List ℕ → Asked
from_to from to l = record { query = range from to; rows = l }

-- the rows that queries list of a file, and those that they are to list
unfoldable pub lists : ℕ → Tree → List Asked → List (List ℕ)
unfolding listed
lists size t [] = []
lists size t (x ∷ l) = listed x.query size t ∷ lists size t l

unfoldable pub rows_of : List Asked → List (List ℕ)
rows_of [] = []
rows_of (x ∷ l) = x.rows ∷ rows_of l

-- token numbers, whose tokens are the file
abbrev pub Holds : List ℕ → List Asked → Type 0
Holds tokens l = lists (byte_count (tokens_of tokens)) (source_tree (tokens_of tokens)) l ≡ rows_of l

-- ` a;`: root 0, the space 1, a property 2 with its Name 3 and `;` 4. "A leaf owns its first byte and not its end"; "an
-- offset equal to the file's length belongs to the last leaf"; "past the length gives no row", whatever its low 32 bits
pub property : Holds (0 ∷ 1 ∷ 27 ∷ 1 ∷ 29 ∷ 1 ∷ [])
    (at 0 (0 ∷ 1 ∷ [])
    ∷ at 1 (0 ∷ 2 ∷ 3 ∷ [])
    ∷ at 2 (0 ∷ 2 ∷ 4 ∷ [])
    ∷ at 3 (0 ∷ 2 ∷ 4 ∷ [])
    ∷ at 4 []
    ∷ at 4294967296 []
    ∷ at 4294967297 []
    ∷ at 18446744073709551615 []
    -- the space is a part: a leaf at the top level
    ∷ from_to 0 3 (1 ∷ 2 ∷ [])
    ∷ from_to 0 1 (1 ∷ [])
    -- "its end excluded"; one byte of a part is enough
    ∷ from_to 1 2 (2 ∷ [])
    ∷ from_to 2 3 (2 ∷ [])
    ∷ from_to 0 2 (1 ∷ 2 ∷ [])
    -- empty, reversed, past the file, and beyond it
    ∷ from_to 0 0 []
    ∷ from_to 1 1 []
    ∷ from_to 2 2 []
    ∷ from_to 2 1 []
    ∷ from_to 3 0 []
    ∷ from_to 3 4 []
    ∷ from_to 2 18446744073709551615 (2 ∷ [])
    ∷ from_to 18446744073709551615 1 []
    ∷ [])
unfolding lists rows_of tokens_of source_tree
property = refl

-- "in an empty file it gives the root only"
pub empty : Holds [] (at 0 (0 ∷ []) ∷ at 1 [] ∷ from_to 0 1 [] ∷ from_to 0 0 [] ∷ [])
unfolding lists rows_of tokens_of source_tree
empty = refl

-- `/delete-node/`: a directive 1 with its leaf 2, and a node 3 of width 0, the last row but no leaf
pub directive : Holds (21 ∷ 13 ∷ []) (at 0 (0 ∷ 1 ∷ 2 ∷ []) ∷ at 12 (0 ∷ 1 ∷ 2 ∷ []) ∷ at 13 (0 ∷ 1 ∷ 2 ∷ []) ∷ at 14 [] ∷ from_to 12 13 (1 ∷ []) ∷ from_to 13 14 [] ∷ [])
unfolding lists rows_of tokens_of source_tree
directive = refl

-- `a=;`, which has reports: a property 1 with Name 2, `=` 3, and its values 4 with an error 5 over the `;` 6
pub missing_value : Holds (27 ∷ 1 ∷ 28 ∷ 1 ∷ 29 ∷ 1 ∷ []) (at 0 (0 ∷ 1 ∷ 2 ∷ []) ∷ at 1 (0 ∷ 1 ∷ 3 ∷ []) ∷ at 2 (0 ∷ 1 ∷ 4 ∷ 5 ∷ 6 ∷ []) ∷ at 3 (0 ∷ 1 ∷ 4 ∷ 5 ∷ 6 ∷ []) ∷ [])
unfolding lists rows_of tokens_of source_tree
missing_value = refl

-- `a,b; c;` and a line end: a Name of three raw tokens is one leaf; parts are the properties 1 and 5 and the blanks 4 and
-- 8 between and after them. Ranges that only touch a part do not share a byte with it
pub two_properties : Holds (27 ∷ 1 ∷ 2 ∷ 1 ∷ 27 ∷ 1 ∷ 29 ∷ 1 ∷ 0 ∷ 2 ∷ 27 ∷ 1 ∷ 29 ∷ 1 ∷ 0 ∷ 1 ∷ [])
    (at 1 (0 ∷ 1 ∷ 2 ∷ [])
    ∷ at 2 (0 ∷ 1 ∷ 2 ∷ [])
    ∷ at 3 (0 ∷ 1 ∷ 3 ∷ [])
    ∷ at 4 (0 ∷ 4 ∷ [])
    ∷ at 5 (0 ∷ 4 ∷ [])
    ∷ at 6 (0 ∷ 5 ∷ 6 ∷ [])
    ∷ at 8 (0 ∷ 8 ∷ [])
    ∷ at 9 (0 ∷ 8 ∷ [])
    ∷ from_to 0 9 (1 ∷ 4 ∷ 5 ∷ 8 ∷ [])
    ∷ from_to 4 6 (4 ∷ [])
    ∷ from_to 3 6 (1 ∷ 4 ∷ [])
    ∷ from_to 5 7 (4 ∷ 5 ∷ [])
    ∷ from_to 8 9 (8 ∷ [])
    ∷ [])
unfolding lists rows_of tokens_of source_tree
two_properties = refl

-- ---------------------------------------------------------------- whole answers

-- buffers of sevens: events, trees, errors, reports, pool
abbrev pub lent : ℕ → ℕ → Buffers
lent trees reports = record { events = replicate 60 7; trees = replicate trees 7; errors = replicate 2 7; reports = replicate reports 7; pool = replicate 5 7 }

-- a result with a list's buffer, of which so many numbers are the list
abbrev pub with_rows : Result → ℕ → List ℕ → ListResult
with_rows r n l = record { answer = r.answer; list_count = n; list = l; buffers = r.buffers }

abbrev pub zero_buffers : ℕ → ℕ → Buffers
zero_buffers trees reports = record { events = replicate 60 0; trees = replicate trees 0; errors = replicate 2 0; reports = replicate reports 0; pool = replicate 5 0 }

abbrev pub asks : Query → ℕ → List ℕ → List ℕ → Buffers → ℕ → ListResult
asks q setting bytes tokens b n = query_call q setting bytes tokens b (replicate n 7)

-- ` a;` at 1: all else is what the parse leaves, and the list has zeros after it; with room for it alone; and with room
-- for one number less, "a list that doesn't fit is refusal 8"
abbrev pub bytes : List ℕ
bytes = 32 ∷ 97 ∷ 59 ∷ []

abbrev pub tokens : List ℕ
tokens = 0 ∷ 1 ∷ 27 ∷ 1 ∷ 29 ∷ 1 ∷ []

pub with_room : asks (caret 1) 0 bytes tokens (lent 27 9) 5 ≡ with_rows (call 1 0 bytes tokens (lent 27 9)) 3 (0 ∷ 2 ∷ 3 ∷ 0 ∷ 0 ∷ [])
unfolding query_call call
with_room = refl

pub just_room : asks (range 0 3) 0 bytes tokens (lent 27 9) 2 ≡ with_rows (call 1 0 bytes tokens (lent 27 9)) 2 (1 ∷ 2 ∷ [])
unfolding query_call call
just_room = refl

pub no_room : asks (caret 1) 0 bytes tokens (lent 27 9) 2 ≡ with_rows (record { answer = refusal 8 0; buffers = zero_buffers 27 9 }) 0 (0 ∷ 0 ∷ [])
unfolding query_call
no_room = refl

-- an empty list needs no room; the root does
pub past_the_end : asks (caret 4) 0 bytes tokens (lent 27 9) 0 ≡ with_rows (call 1 0 bytes tokens (lent 27 9)) 0 []
unfolding query_call call
past_the_end = refl

pub root_fits : asks (caret 0) 0 [] [] (lent 5 0) 1 ≡ with_rows (call 1 0 [] [] (lent 5 0)) 1 (0 ∷ [])
unfolding query_call call
root_fits = refl

pub root_does_not : asks (caret 0) 0 [] [] (lent 5 0) 0 ≡ with_rows (record { answer = refusal 8 0; buffers = zero_buffers 5 0 }) 0 []
unfolding query_call
root_does_not = refl

-- "with the parser's refusals": before the parse every buffer is as it was, after it all are zero
pub bad_kind : asks (caret 1) 0 bytes (0 ∷ 1 ∷ 26 ∷ 2 ∷ []) (lent 27 9) 2 ≡ with_rows (record { answer = refusal 11 1; buffers = lent 27 9 }) 0 (7 ∷ 7 ∷ [])
unfolding query_call
bad_kind = refl

pub no_tree_room : asks (caret 1) 0 bytes tokens (lent 24 9) 5 ≡ with_rows (record { answer = refusal 8 0; buffers = zero_buffers 24 9 }) 0 (0 ∷ 0 ∷ 0 ∷ 0 ∷ 0 ∷ [])
unfolding query_call
no_tree_room = refl

-- and before a list that does not fit: `1a:c{};` in the strict setting has a report, its mark 0
pub no_report_room : asks (caret 1) 1 (49 ∷ 97 ∷ 58 ∷ 99 ∷ 123 ∷ 125 ∷ 59 ∷ []) (35 ∷ 1 ∷ 27 ∷ 1 ∷ 31 ∷ 1 ∷ 27 ∷ 1 ∷ 37 ∷ 1 ∷ 38 ∷ 1 ∷ 29 ∷ 1 ∷ []) (lent 45 8) 1
    ≡ with_rows (record { answer = refusal 7 0; buffers = zero_buffers 45 8 }) 0 (0 ∷ [])
unfolding query_call
no_report_room = refl
