-- Readings of document 02, 1/14, in the strict setting: one table, and one proof over it. Whole answers and all buffers
-- are compared. The answers were worked out by hand, from the words; the sentence is quoted where one decides.
use Prim.Native.Nat.{ℕ}
use mathlib.Core.Path.{◌≡◌, refl}
use mathlib.Core.List.{List, [], ◌∷◌}
use lib.ListN.{replicate}
use Rattle.definitions.specs.Call.{Answer}
use Rattle.definitions.proofs.Readings.{Reading, reading, answer, called, wanted}

-- a refusal: number and place
abbrev pub refusal : ℕ → ℕ → Answer
refusal n p = record { number = n; place = p; tree_count = 0; error_count = 0; report_count = 0; expectation_count = 0 }

abbrev pub strict_readings : List Reading
strict_readings =
    -- "letters, digits and underscores": `a,b:c{};`, a Name of three raw tokens, has a comma
    reading 1 (97 ∷ 44 ∷ 98 ∷ 58 ∷ 99 ∷ 123 ∷ 125 ∷ 59 ∷ []) (27 ∷ 1 ∷ 2 ∷ 1 ∷ 27 ∷ 1 ∷ 31 ∷ 1 ∷ 27 ∷ 1 ∷ 37 ∷ 1 ∷ 38 ∷ 1 ∷ 29 ∷ 1 ∷ []) (answer 9 0 1 0)
    (0 ∷ 0 ∷ 8 ∷ 1 ∷ 0 ∷ 0 ∷ 15 ∷ 8 ∷ 5 ∷ 0 ∷ 0 ∷ 19 ∷ 4 ∷ 2 ∷ 1 ∷ 1 ∷ 26 ∷ 3 ∷ 3 ∷ 2 ∷ 1 ∷ 31 ∷ 1 ∷ 1 ∷ 2 ∷ 1 ∷ 26 ∷ 1 ∷ 1 ∷ 1 ∷ 1 ∷ 37 ∷ 1 ∷ 1 ∷ 1 ∷ 1 ∷ 38 ∷ 1 ∷ 1 ∷ 1 ∷ 1 ∷ 29 ∷ 1 ∷ 1 ∷ 1 ∷ 0 ∷ [])
    (0 ∷ []) (8 ∷ 0 ∷ 3 ∷ 0 ∷ 0 ∷ 0 ∷ 0 ∷ 0 ∷ 0 ∷ 0 ∷ []) (0 ∷ [])
    -- `#a:c{};`, one Ident over `#a`: bytes are judged, not kinds
    ∷ reading 1 (35 ∷ 97 ∷ 58 ∷ 99 ∷ 123 ∷ 125 ∷ 59 ∷ []) (27 ∷ 2 ∷ 31 ∷ 1 ∷ 27 ∷ 1 ∷ 37 ∷ 1 ∷ 38 ∷ 1 ∷ 29 ∷ 1 ∷ []) (answer 9 0 1 0)
    (0 ∷ 0 ∷ 7 ∷ 1 ∷ 0 ∷ 0 ∷ 15 ∷ 7 ∷ 5 ∷ 0 ∷ 0 ∷ 19 ∷ 3 ∷ 2 ∷ 1 ∷ 1 ∷ 26 ∷ 2 ∷ 1 ∷ 2 ∷ 1 ∷ 31 ∷ 1 ∷ 1 ∷ 2 ∷ 1 ∷ 26 ∷ 1 ∷ 1 ∷ 1 ∷ 1 ∷ 37 ∷ 1 ∷ 1 ∷ 1 ∷ 1 ∷ 38 ∷ 1 ∷ 1 ∷ 1 ∷ 1 ∷ 29 ∷ 1 ∷ 1 ∷ 1 ∷ 0 ∷ [])
    (0 ∷ []) (8 ∷ 0 ∷ 2 ∷ 0 ∷ 0 ∷ 0 ∷ 0 ∷ 0 ∷ 0 ∷ 0 ∷ []) (0 ∷ [])
    -- `a.b:c{};`, one Ident over `a.b`
    ∷ reading 1 (97 ∷ 46 ∷ 98 ∷ 58 ∷ 99 ∷ 123 ∷ 125 ∷ 59 ∷ []) (27 ∷ 3 ∷ 31 ∷ 1 ∷ 27 ∷ 1 ∷ 37 ∷ 1 ∷ 38 ∷ 1 ∷ 29 ∷ 1 ∷ []) (answer 9 0 1 0)
    (0 ∷ 0 ∷ 8 ∷ 1 ∷ 0 ∷ 0 ∷ 15 ∷ 8 ∷ 5 ∷ 0 ∷ 0 ∷ 19 ∷ 4 ∷ 2 ∷ 1 ∷ 1 ∷ 26 ∷ 3 ∷ 1 ∷ 2 ∷ 1 ∷ 31 ∷ 1 ∷ 1 ∷ 2 ∷ 1 ∷ 26 ∷ 1 ∷ 1 ∷ 1 ∷ 1 ∷ 37 ∷ 1 ∷ 1 ∷ 1 ∷ 1 ∷ 38 ∷ 1 ∷ 1 ∷ 1 ∷ 1 ∷ 29 ∷ 1 ∷ 1 ∷ 1 ∷ 0 ∷ [])
    (0 ∷ []) (8 ∷ 0 ∷ 3 ∷ 0 ∷ 0 ∷ 0 ∷ 0 ∷ 0 ∷ 0 ∷ 0 ∷ []) (0 ∷ [])
    -- `_:c{};`: none
    ∷ reading 1 (95 ∷ 58 ∷ 99 ∷ 123 ∷ 125 ∷ 59 ∷ []) (27 ∷ 1 ∷ 31 ∷ 1 ∷ 27 ∷ 1 ∷ 37 ∷ 1 ∷ 38 ∷ 1 ∷ 29 ∷ 1 ∷ []) (answer 9 0 0 0)
    (0 ∷ 0 ∷ 6 ∷ 1 ∷ 0 ∷ 0 ∷ 15 ∷ 6 ∷ 5 ∷ 0 ∷ 0 ∷ 19 ∷ 2 ∷ 2 ∷ 1 ∷ 1 ∷ 26 ∷ 1 ∷ 1 ∷ 2 ∷ 1 ∷ 31 ∷ 1 ∷ 1 ∷ 2 ∷ 1 ∷ 26 ∷ 1 ∷ 1 ∷ 1 ∷ 1 ∷ 37 ∷ 1 ∷ 1 ∷ 1 ∷ 1 ∷ 38 ∷ 1 ∷ 1 ∷ 1 ∷ 1 ∷ 29 ∷ 1 ∷ 1 ∷ 1 ∷ 0 ∷ [])
    (0 ∷ []) (0 ∷ 0 ∷ 0 ∷ 0 ∷ 0 ∷ 0 ∷ 0 ∷ 0 ∷ 0 ∷ 0 ∷ []) (0 ∷ [])
    -- `zZ_9:c{};`: none, digits may follow
    ∷ reading 1 (122 ∷ 90 ∷ 95 ∷ 57 ∷ 58 ∷ 99 ∷ 123 ∷ 125 ∷ 59 ∷ []) (27 ∷ 4 ∷ 31 ∷ 1 ∷ 27 ∷ 1 ∷ 37 ∷ 1 ∷ 38 ∷ 1 ∷ 29 ∷ 1 ∷ []) (answer 9 0 0 0)
    (0 ∷ 0 ∷ 9 ∷ 1 ∷ 0 ∷ 0 ∷ 15 ∷ 9 ∷ 5 ∷ 0 ∷ 0 ∷ 19 ∷ 5 ∷ 2 ∷ 1 ∷ 1 ∷ 26 ∷ 4 ∷ 1 ∷ 2 ∷ 1 ∷ 31 ∷ 1 ∷ 1 ∷ 2 ∷ 1 ∷ 26 ∷ 1 ∷ 1 ∷ 1 ∷ 1 ∷ 37 ∷ 1 ∷ 1 ∷ 1 ∷ 1 ∷ 38 ∷ 1 ∷ 1 ∷ 1 ∷ 1 ∷ 29 ∷ 1 ∷ 1 ∷ 1 ∷ 0 ∷ [])
    (0 ∷ []) (0 ∷ 0 ∷ 0 ∷ 0 ∷ 0 ∷ 0 ∷ 0 ∷ 0 ∷ 0 ∷ 0 ∷ []) (0 ∷ [])
    -- "forbids a leading digit": ` 7x:c{};`, one Ident over `7x` behind a space, which is a token and a byte before it
    ∷ reading 1 (32 ∷ 55 ∷ 120 ∷ 58 ∷ 99 ∷ 123 ∷ 125 ∷ 59 ∷ []) (0 ∷ 1 ∷ 27 ∷ 2 ∷ 31 ∷ 1 ∷ 27 ∷ 1 ∷ 37 ∷ 1 ∷ 38 ∷ 1 ∷ 29 ∷ 1 ∷ []) (answer 10 0 1 0)
    (0 ∷ 0 ∷ 8 ∷ 2 ∷ 0 ∷ 1 ∷ 0 ∷ 1 ∷ 1 ∷ 0 ∷ 0 ∷ 15 ∷ 7 ∷ 5 ∷ 0 ∷ 0 ∷ 19 ∷ 3 ∷ 2 ∷ 2 ∷ 1 ∷ 26 ∷ 2 ∷ 1 ∷ 3 ∷ 1 ∷ 31 ∷ 1 ∷ 1 ∷ 3 ∷ 1 ∷ 26 ∷ 1 ∷ 1 ∷ 2 ∷ 1 ∷ 37 ∷ 1 ∷ 1 ∷ 2 ∷ 1 ∷ 38 ∷ 1 ∷ 1 ∷ 2 ∷ 1 ∷ 29 ∷ 1 ∷ 1 ∷ 2 ∷ 0 ∷ [])
    (0 ∷ []) (8 ∷ 1 ∷ 3 ∷ 1 ∷ 0 ∷ 0 ∷ 0 ∷ 0 ∷ 0 ∷ 0 ∷ []) (0 ∷ [])
    -- "Length isn't judged": entry 2, 40 letters
    ∷ reading 2 (replicate 40 97) (27 ∷ 40 ∷ []) (answer 2 0 0 0)
    (0 ∷ 21 ∷ 40 ∷ 1 ∷ 0 ∷ 1 ∷ 26 ∷ 40 ∷ 1 ∷ 0 ∷ 0 ∷ [])
    (0 ∷ []) (0 ∷ 0 ∷ 0 ∷ 0 ∷ 0 ∷ 0 ∷ 0 ∷ 0 ∷ 0 ∷ []) (0 ∷ [])
    -- "directly under an unbraced DtPhandle": entry 2's root is one, `1a`
    ∷ reading 2 (49 ∷ 97 ∷ []) (35 ∷ 1 ∷ 27 ∷ 1 ∷ []) (answer 2 0 1 0)
    (0 ∷ 21 ∷ 2 ∷ 1 ∷ 0 ∷ 1 ∷ 26 ∷ 2 ∷ 2 ∷ 0 ∷ 0 ∷ [])
    (0 ∷ []) (8 ∷ 0 ∷ 2 ∷ 0 ∷ 0 ∷ 0 ∷ 0 ∷ 0 ∷ 0 ∷ 0 ∷ []) (0 ∷ [])
    -- braced, `{1a}`: none
    ∷ reading 2 (123 ∷ 49 ∷ 97 ∷ 125 ∷ []) (37 ∷ 1 ∷ 35 ∷ 1 ∷ 27 ∷ 1 ∷ 38 ∷ 1 ∷ []) (answer 4 0 0 0)
    (0 ∷ 21 ∷ 4 ∷ 3 ∷ 0 ∷ 1 ∷ 37 ∷ 1 ∷ 1 ∷ 0 ∷ 1 ∷ 26 ∷ 2 ∷ 2 ∷ 0 ∷ 1 ∷ 38 ∷ 1 ∷ 1 ∷ 0 ∷ 0 ∷ [])
    (0 ∷ []) (0 ∷ 0 ∷ 0 ∷ 0 ∷ 0 ∷ 0 ∷ 0 ∷ 0 ∷ 0 ∷ []) (0 ∷ [])
    -- entries 3 and 4, `&1a`: "its mark is the index of the name's first token", not of the `&`
    ∷ reading 3 (38 ∷ 49 ∷ 97 ∷ []) (30 ∷ 1 ∷ 35 ∷ 1 ∷ 27 ∷ 1 ∷ []) (answer 4 0 1 0)
    (0 ∷ 2 ∷ 3 ∷ 1 ∷ 0 ∷ 0 ∷ 21 ∷ 3 ∷ 2 ∷ 0 ∷ 1 ∷ 30 ∷ 1 ∷ 1 ∷ 1 ∷ 1 ∷ 26 ∷ 2 ∷ 2 ∷ 1 ∷ 0 ∷ [])
    (0 ∷ []) (8 ∷ 1 ∷ 3 ∷ 1 ∷ 0 ∷ 0 ∷ 0 ∷ 0 ∷ 0 ∷ 0 ∷ []) (0 ∷ [])
    ∷ reading 4 (38 ∷ 49 ∷ 97 ∷ []) (30 ∷ 1 ∷ 35 ∷ 1 ∷ 27 ∷ 1 ∷ []) (answer 4 0 1 0)
    (0 ∷ 3 ∷ 3 ∷ 1 ∷ 0 ∷ 0 ∷ 21 ∷ 3 ∷ 2 ∷ 0 ∷ 1 ∷ 30 ∷ 1 ∷ 1 ∷ 1 ∷ 1 ∷ 26 ∷ 2 ∷ 2 ∷ 1 ∷ 0 ∷ [])
    (0 ∷ []) (8 ∷ 1 ∷ 3 ∷ 1 ∷ 0 ∷ 0 ∷ 0 ∷ 0 ∷ 0 ∷ 0 ∷ []) (0 ∷ [])
    -- `1a@2:c{};`: the Name is under a ParseError; message 6 only
    ∷ reading 1 (49 ∷ 97 ∷ 64 ∷ 50 ∷ 58 ∷ 99 ∷ 123 ∷ 125 ∷ 59 ∷ []) (35 ∷ 1 ∷ 27 ∷ 1 ∷ 32 ∷ 1 ∷ 35 ∷ 1 ∷ 31 ∷ 1 ∷ 27 ∷ 1 ∷ 37 ∷ 1 ∷ 38 ∷ 1 ∷ 29 ∷ 1 ∷ []) (answer 12 0 1 0)
    (0 ∷ 0 ∷ 9 ∷ 1 ∷ 0 ∷ 0 ∷ 15 ∷ 9 ∷ 5 ∷ 0 ∷ 0 ∷ 10 ∷ 5 ∷ 3 ∷ 1 ∷ 1 ∷ 26 ∷ 2 ∷ 2 ∷ 2 ∷ 0 ∷ 22 ∷ 2 ∷ 2 ∷ 2 ∷ 1 ∷ 32 ∷ 1 ∷ 1 ∷ 4 ∷ 1 ∷ 26 ∷ 1 ∷ 1 ∷ 4 ∷ 1 ∷ 31 ∷ 1 ∷ 1 ∷ 2 ∷ 1 ∷ 26 ∷ 1 ∷ 1 ∷ 1 ∷ 1 ∷ 37 ∷ 1 ∷ 1 ∷ 1 ∷ 1 ∷ 38 ∷ 1 ∷ 1 ∷ 1 ∷ 1 ∷ 29 ∷ 1 ∷ 1 ∷ 1 ∷ 0 ∷ [])
    (0 ∷ []) (6 ∷ 4 ∷ 5 ∷ 4 ∷ 0 ∷ 0 ∷ 0 ∷ 0 ∷ 0 ∷ 0 ∷ []) (0 ∷ [])
    -- `M(1a):c{};`: a macro label has no Name
    ∷ reading 1 (77 ∷ 40 ∷ 49 ∷ 97 ∷ 41 ∷ 58 ∷ 99 ∷ 123 ∷ 125 ∷ 59 ∷ []) (27 ∷ 1 ∷ 41 ∷ 1 ∷ 35 ∷ 1 ∷ 27 ∷ 1 ∷ 42 ∷ 1 ∷ 31 ∷ 1 ∷ 27 ∷ 1 ∷ 37 ∷ 1 ∷ 38 ∷ 1 ∷ 29 ∷ 1 ∷ []) (answer 15 0 0 0)
    (0 ∷ 0 ∷ 10 ∷ 1 ∷ 0 ∷ 0 ∷ 15 ∷ 10 ∷ 5 ∷ 0 ∷ 0 ∷ 19 ∷ 6 ∷ 2 ∷ 1 ∷ 0 ∷ 23 ∷ 5 ∷ 4 ∷ 2 ∷ 1 ∷ 27 ∷ 1 ∷ 1 ∷ 3 ∷ 1 ∷ 41 ∷ 1 ∷ 1 ∷ 3 ∷ 0 ∷ 24 ∷ 2 ∷ 2 ∷ 3 ∷ 1 ∷ 35 ∷ 1 ∷ 1 ∷ 6 ∷ 1 ∷ 27 ∷ 1 ∷ 1 ∷ 6 ∷ 1 ∷ 42 ∷ 1 ∷ 1 ∷ 3 ∷ 1 ∷ 31 ∷ 1 ∷ 1 ∷ 2 ∷ 1 ∷ 26 ∷ 1 ∷ 1 ∷ 1 ∷ 1 ∷ 37 ∷ 1 ∷ 1 ∷ 1 ∷ 1 ∷ 38 ∷ 1 ∷ 1 ∷ 1 ∷ 1 ∷ 29 ∷ 1 ∷ 1 ∷ 1 ∷ 0 ∷ [])
    (0 ∷ []) (0 ∷ 0 ∷ 0 ∷ 0 ∷ 0 ∷ 0 ∷ 0 ∷ 0 ∷ 0 ∷ []) (0 ∷ [])
    -- `1a@1b{1c;};`: names of a node and of a property, and a unit address, are not judged
    ∷ reading 1 (49 ∷ 97 ∷ 64 ∷ 49 ∷ 98 ∷ 123 ∷ 49 ∷ 99 ∷ 59 ∷ 125 ∷ 59 ∷ []) (35 ∷ 1 ∷ 27 ∷ 1 ∷ 32 ∷ 1 ∷ 35 ∷ 1 ∷ 27 ∷ 1 ∷ 37 ∷ 1 ∷ 35 ∷ 1 ∷ 27 ∷ 1 ∷ 29 ∷ 1 ∷ 38 ∷ 1 ∷ 29 ∷ 1 ∷ []) (answer 12 0 0 0)
    (0 ∷ 0 ∷ 11 ∷ 1 ∷ 0 ∷ 0 ∷ 15 ∷ 11 ∷ 6 ∷ 0 ∷ 1 ∷ 26 ∷ 2 ∷ 2 ∷ 1 ∷ 0 ∷ 22 ∷ 3 ∷ 2 ∷ 1 ∷ 1 ∷ 32 ∷ 1 ∷ 1 ∷ 3 ∷ 1 ∷ 26 ∷ 2 ∷ 2 ∷ 3 ∷ 1 ∷ 37 ∷ 1 ∷ 1 ∷ 1 ∷ 0 ∷ 16 ∷ 3 ∷ 2 ∷ 1 ∷ 1 ∷ 26 ∷ 2 ∷ 2 ∷ 7 ∷ 1 ∷ 29 ∷ 1 ∷ 1 ∷ 7 ∷ 1 ∷ 38 ∷ 1 ∷ 1 ∷ 1 ∷ 1 ∷ 29 ∷ 1 ∷ 1 ∷ 1 ∷ 0 ∷ [])
    (0 ∷ []) (0 ∷ 0 ∷ 0 ∷ 0 ∷ 0 ∷ 0 ∷ 0 ∷ 0 ∷ 0 ∷ []) (0 ∷ [])
    -- `/delete-node/ 1a;`: none
    ∷ reading 1 (47 ∷ 100 ∷ 101 ∷ 108 ∷ 101 ∷ 116 ∷ 101 ∷ 45 ∷ 110 ∷ 111 ∷ 100 ∷ 101 ∷ 47 ∷ 32 ∷ 49 ∷ 97 ∷ 59 ∷ []) (21 ∷ 13 ∷ 0 ∷ 1 ∷ 35 ∷ 1 ∷ 27 ∷ 1 ∷ 29 ∷ 1 ∷ []) (answer 7 0 0 0)
    (0 ∷ 0 ∷ 17 ∷ 1 ∷ 0 ∷ 0 ∷ 11 ∷ 17 ∷ 4 ∷ 0 ∷ 1 ∷ 21 ∷ 13 ∷ 1 ∷ 1 ∷ 1 ∷ 0 ∷ 1 ∷ 1 ∷ 1 ∷ 0 ∷ 12 ∷ 2 ∷ 1 ∷ 1 ∷ 1 ∷ 26 ∷ 2 ∷ 2 ∷ 4 ∷ 1 ∷ 29 ∷ 1 ∷ 1 ∷ 1 ∷ 0 ∷ [])
    (0 ∷ []) (0 ∷ 0 ∷ 0 ∷ 0 ∷ 0 ∷ 0 ∷ 0 ∷ 0 ∷ 0 ∷ []) (0 ∷ [])
    -- `/delete-node/ &1a;`: one
    ∷ reading 1 (47 ∷ 100 ∷ 101 ∷ 108 ∷ 101 ∷ 116 ∷ 101 ∷ 45 ∷ 110 ∷ 111 ∷ 100 ∷ 101 ∷ 47 ∷ 32 ∷ 38 ∷ 49 ∷ 97 ∷ 59 ∷ []) (21 ∷ 13 ∷ 0 ∷ 1 ∷ 30 ∷ 1 ∷ 35 ∷ 1 ∷ 27 ∷ 1 ∷ 29 ∷ 1 ∷ []) (answer 9 0 1 0)
    (0 ∷ 0 ∷ 18 ∷ 1 ∷ 0 ∷ 0 ∷ 11 ∷ 18 ∷ 4 ∷ 0 ∷ 1 ∷ 21 ∷ 13 ∷ 1 ∷ 1 ∷ 1 ∷ 0 ∷ 1 ∷ 1 ∷ 1 ∷ 0 ∷ 12 ∷ 3 ∷ 1 ∷ 1 ∷ 0 ∷ 21 ∷ 3 ∷ 2 ∷ 4 ∷ 1 ∷ 30 ∷ 1 ∷ 1 ∷ 5 ∷ 1 ∷ 26 ∷ 2 ∷ 2 ∷ 5 ∷ 1 ∷ 29 ∷ 1 ∷ 1 ∷ 1 ∷ 0 ∷ [])
    (0 ∷ []) (8 ∷ 15 ∷ 17 ∷ 3 ∷ 0 ∷ 0 ∷ 0 ∷ 0 ∷ 0 ∷ 0 ∷ []) (0 ∷ [])
    -- `1a:c}`: a label under a ParseError. "These reports .. follow all others": after the run's own, whose five
    -- expectations come before the first pool place, and whose mark is greater
    ∷ reading 1 (49 ∷ 97 ∷ 58 ∷ 99 ∷ 125 ∷ []) (35 ∷ 1 ∷ 27 ∷ 1 ∷ 31 ∷ 1 ∷ 27 ∷ 1 ∷ 38 ∷ 1 ∷ []) (answer 7 0 2 5)
    (0 ∷ 0 ∷ 5 ∷ 1 ∷ 0 ∷ 0 ∷ 10 ∷ 5 ∷ 3 ∷ 0 ∷ 0 ∷ 19 ∷ 3 ∷ 2 ∷ 1 ∷ 1 ∷ 26 ∷ 2 ∷ 2 ∷ 2 ∷ 1 ∷ 31 ∷ 1 ∷ 1 ∷ 2 ∷ 1 ∷ 26 ∷ 1 ∷ 1 ∷ 1 ∷ 1 ∷ 38 ∷ 1 ∷ 1 ∷ 1 ∷ 0 ∷ [])
    (0 ∷ []) (1 ∷ 4 ∷ 5 ∷ 4 ∷ 0 ∷ 5 ∷ 0 ∷ 0 ∷ 0 ∷ 8 ∷ 0 ∷ 2 ∷ 0 ∷ 5 ∷ 0 ∷ 0 ∷ 0 ∷ 0 ∷ 0 ∷ []) (31 ∷ 32 ∷ 28 ∷ 29 ∷ 37 ∷ 0 ∷ [])
    -- `#if1a:c{};#endif`: a label in a branch
    ∷ reading 1 (35 ∷ 105 ∷ 102 ∷ 49 ∷ 97 ∷ 58 ∷ 99 ∷ 123 ∷ 125 ∷ 59 ∷ 35 ∷ 101 ∷ 110 ∷ 100 ∷ 105 ∷ 102 ∷ []) (4 ∷ 3 ∷ 35 ∷ 1 ∷ 27 ∷ 1 ∷ 31 ∷ 1 ∷ 27 ∷ 1 ∷ 37 ∷ 1 ∷ 38 ∷ 1 ∷ 29 ∷ 1 ∷ 11 ∷ 6 ∷ []) (answer 13 0 1 0)
    (0 ∷ 0 ∷ 16 ∷ 1 ∷ 0 ∷ 0 ∷ 13 ∷ 16 ∷ 3 ∷ 0 ∷ 1 ∷ 4 ∷ 3 ∷ 1 ∷ 1 ∷ 0 ∷ 14 ∷ 7 ∷ 1 ∷ 1 ∷ 0 ∷ 15 ∷ 7 ∷ 5 ∷ 3 ∷ 0 ∷ 19 ∷ 3 ∷ 2 ∷ 4 ∷ 1 ∷ 26 ∷ 2 ∷ 2 ∷ 5 ∷ 1 ∷ 31 ∷ 1 ∷ 1 ∷ 5 ∷ 1 ∷ 26 ∷ 1 ∷ 1 ∷ 4 ∷ 1 ∷ 37 ∷ 1 ∷ 1 ∷ 4 ∷ 1 ∷ 38 ∷ 1 ∷ 1 ∷ 4 ∷ 1 ∷ 29 ∷ 1 ∷ 1 ∷ 4 ∷ 1 ∷ 11 ∷ 6 ∷ 1 ∷ 1 ∷ 0 ∷ [])
    (0 ∷ []) (8 ∷ 3 ∷ 5 ∷ 1 ∷ 0 ∷ 0 ∷ 0 ∷ 0 ∷ 0 ∷ 0 ∷ []) (0 ∷ [])
    -- "in leaf order": `1a:&2b{};`, two, in just enough room
    ∷ reading 1 (49 ∷ 97 ∷ 58 ∷ 38 ∷ 50 ∷ 98 ∷ 123 ∷ 125 ∷ 59 ∷ []) (35 ∷ 1 ∷ 27 ∷ 1 ∷ 31 ∷ 1 ∷ 30 ∷ 1 ∷ 35 ∷ 1 ∷ 27 ∷ 1 ∷ 37 ∷ 1 ∷ 38 ∷ 1 ∷ 29 ∷ 1 ∷ []) (answer 11 0 2 0)
    (0 ∷ 0 ∷ 9 ∷ 1 ∷ 0 ∷ 0 ∷ 15 ∷ 9 ∷ 5 ∷ 0 ∷ 0 ∷ 19 ∷ 3 ∷ 2 ∷ 1 ∷ 1 ∷ 26 ∷ 2 ∷ 2 ∷ 2 ∷ 1 ∷ 31 ∷ 1 ∷ 1 ∷ 2 ∷ 0 ∷ 21 ∷ 3 ∷ 2 ∷ 1 ∷ 1 ∷ 30 ∷ 1 ∷ 1 ∷ 5 ∷ 1 ∷ 26 ∷ 2 ∷ 2 ∷ 5 ∷ 1 ∷ 37 ∷ 1 ∷ 1 ∷ 1 ∷ 1 ∷ 38 ∷ 1 ∷ 1 ∷ 1 ∷ 1 ∷ 29 ∷ 1 ∷ 1 ∷ 1 ∷ [])
    [] (8 ∷ 0 ∷ 2 ∷ 0 ∷ 0 ∷ 0 ∷ 0 ∷ 0 ∷ 0 ∷ 8 ∷ 4 ∷ 6 ∷ 4 ∷ 0 ∷ 0 ∷ 0 ∷ 0 ∷ 0 ∷ []) []
    -- "One that doesn't fit is refusal 7 with that mark, before 8": the same with 17 report numbers and 3 tree numbers
    ∷ reading 1 (49 ∷ 97 ∷ 58 ∷ 38 ∷ 50 ∷ 98 ∷ 123 ∷ 125 ∷ 59 ∷ []) (35 ∷ 1 ∷ 27 ∷ 1 ∷ 31 ∷ 1 ∷ 30 ∷ 1 ∷ 35 ∷ 1 ∷ 27 ∷ 1 ∷ 37 ∷ 1 ∷ 38 ∷ 1 ∷ 29 ∷ 1 ∷ []) (refusal 7 4)
    (replicate 3 0) (0 ∷ []) (replicate 17 0) (0 ∷ [])
    -- with no room for the first: its mark, and the tree would fit
    ∷ reading 1 (49 ∷ 97 ∷ 58 ∷ 38 ∷ 50 ∷ 98 ∷ 123 ∷ 125 ∷ 59 ∷ []) (35 ∷ 1 ∷ 27 ∷ 1 ∷ 31 ∷ 1 ∷ 30 ∷ 1 ∷ 35 ∷ 1 ∷ 27 ∷ 1 ∷ 37 ∷ 1 ∷ 38 ∷ 1 ∷ 29 ∷ 1 ∷ []) (refusal 7 0)
    (replicate 55 0) (0 ∷ []) (replicate 8 0) (0 ∷ [])
    -- and where they fit, 8
    ∷ reading 1 (49 ∷ 97 ∷ 58 ∷ 38 ∷ 50 ∷ 98 ∷ 123 ∷ 125 ∷ 59 ∷ []) (35 ∷ 1 ∷ 27 ∷ 1 ∷ 31 ∷ 1 ∷ 30 ∷ 1 ∷ 35 ∷ 1 ∷ 27 ∷ 1 ∷ 37 ∷ 1 ∷ 38 ∷ 1 ∷ 29 ∷ 1 ∷ []) (refusal 8 0)
    (replicate 54 0) (0 ∷ []) (replicate 18 0) (0 ∷ [])
    -- the run's own report does not fit: 7 with its mark, before those of Names (`1a:c}` again)
    ∷ reading 1 (49 ∷ 97 ∷ 58 ∷ 99 ∷ 125 ∷ []) (35 ∷ 1 ∷ 27 ∷ 1 ∷ 31 ∷ 1 ∷ 27 ∷ 1 ∷ 38 ∷ 1 ∷ []) (refusal 7 4)
    (replicate 28 0) (0 ∷ []) (replicate 18 0) (replicate 4 0)
    ∷ []

-- the readings hold in setting 1, and in any other that is not 0
pub strict_readings_hold : called 1 strict_readings ≡ wanted strict_readings
unfolding called wanted
strict_readings_hold = refl

pub last_setting_too : called 4294967295 strict_readings ≡ wanted strict_readings
unfolding called wanted
last_setting_too = refl
