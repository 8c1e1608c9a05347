-- Readings of document 02, 4/14: one table, and one proof over it. Whole answers and all buffers are compared, and
-- every buffer is as it was. The answers were worked out by hand, from the words; the sentence is quoted where one
-- decides. Counts at the limit of 2 are in refusals/proofs/Cases.antt: here they would be computed for each edit.
use Prim.Native.Nat.{ℕ}
use mathlib.Core.Path.{◌≡◌, refl}
use mathlib.Core.List.{List, [], ◌∷◌}
use lib.ListN.{replicate}
use Rattle.definitions.specs.Call.{Buffers, Result, call}
use Rattle.definitions.proofs.StrictReadings.{refusal}

-- input bytes and token numbers; number and place
pub record RowReading : Type 0 where
  pub input : List ℕ
  pub numbers : List ℕ
  pub number : ℕ
  pub place : ℕ

abbrev pub over : List ℕ → List ℕ → ℕ → ℕ → RowReading
over i l n p = record { input = i; numbers = l; number = n; place = p }

-- over the two bytes `ab`
abbrev pub over_ab : List ℕ → ℕ → ℕ → RowReading
over_ab = over (97 ∷ 98 ∷ [])

-- 27 is Ident, 29 Semicolon (its text is `;`), 26 Name
abbrev pub row_readings : List RowReading
row_readings =
    -- each by itself: "an odd count of numbers"; "bad kind"; "length 0"; "a token ends past the input"; "the total is
    -- short", its place "the count of rows"; and 4
    over_ab (27 ∷ 2 ∷ 27 ∷ []) 3 1
    ∷ over_ab (26 ∷ 2 ∷ []) 11 0
    ∷ over_ab (27 ∷ 0 ∷ 27 ∷ 2 ∷ []) 12 0
    ∷ over_ab (27 ∷ 3 ∷ []) 13 0
    ∷ over_ab (27 ∷ 1 ∷ []) 13 1
    ∷ over_ab [] 13 0
    ∷ over_ab (27 ∷ 1 ∷ 29 ∷ 1 ∷ []) 4 1
    -- kinds at their limits: 25, 61 to 63 and 75 are none
    ∷ over_ab (25 ∷ 2 ∷ []) 11 0
    ∷ over_ab (61 ∷ 2 ∷ []) 11 0
    ∷ over_ab (63 ∷ 2 ∷ []) 11 0
    ∷ over_ab (75 ∷ 2 ∷ []) 11 0
    ∷ over_ab (4294967295 ∷ 2 ∷ []) 11 0
    -- two in one row, "tried within a row in the order given" (a row of length 0 ends past no input that the row before
    -- it did not)
    ∷ over_ab (26 ∷ 0 ∷ 27 ∷ 2 ∷ []) 11 0
    ∷ over_ab (26 ∷ 3 ∷ []) 11 0
    ∷ over_ab (29 ∷ 0 ∷ 27 ∷ 2 ∷ []) 12 0
    ∷ over_ab (29 ∷ 3 ∷ []) 13 0
    -- two in two rows: "the first bad row", whatever is wrong with the second
    ∷ over_ab (26 ∷ 1 ∷ 27 ∷ 0 ∷ 27 ∷ 1 ∷ []) 11 0
    ∷ over_ab (27 ∷ 0 ∷ 26 ∷ 2 ∷ []) 12 0
    ∷ over_ab (26 ∷ 1 ∷ 27 ∷ 2 ∷ []) 11 0
    ∷ over_ab (27 ∷ 3 ∷ 26 ∷ 1 ∷ []) 13 0
    ∷ over_ab (27 ∷ 0 ∷ 27 ∷ 3 ∷ []) 12 0
    ∷ over_ab (27 ∷ 3 ∷ 27 ∷ 0 ∷ []) 13 0
    -- in the second row
    ∷ over_ab (27 ∷ 1 ∷ 26 ∷ 1 ∷ []) 11 1
    ∷ over_ab (27 ∷ 2 ∷ 27 ∷ 0 ∷ []) 12 1
    ∷ over_ab (27 ∷ 1 ∷ 27 ∷ 2 ∷ []) 13 1
    -- the short total is "last": a bad row comes before it
    ∷ over_ab (26 ∷ 1 ∷ []) 11 0
    ∷ over_ab (27 ∷ 1 ∷ 27 ∷ 0 ∷ []) 12 1
    -- "All come before 4": of a later row, and the short total
    ∷ over_ab (29 ∷ 1 ∷ 26 ∷ 1 ∷ []) 11 1
    ∷ over_ab (29 ∷ 2 ∷ 27 ∷ 0 ∷ []) 12 1
    ∷ over_ab (29 ∷ 1 ∷ 27 ∷ 2 ∷ []) 13 1
    ∷ over_ab (29 ∷ 1 ∷ []) 13 1
    -- an odd count is "now tried right after 2", before any row: its place is the count of whole rows
    ∷ over (97 ∷ []) (99 ∷ 0 ∷ 27 ∷ []) 3 1
    ∷ over_ab (26 ∷ 2 ∷ 27 ∷ []) 3 1
    ∷ over_ab (27 ∷ 0 ∷ 27 ∷ 2 ∷ 27 ∷ []) 3 2
    ∷ over_ab (27 ∷ 3 ∷ 27 ∷ []) 3 1
    ∷ over_ab (27 ∷ 1 ∷ 27 ∷ []) 3 1
    ∷ over_ab (29 ∷ 2 ∷ 27 ∷ []) 3 1
    ∷ over [] (99 ∷ []) 3 0
    -- sums beyond 32 bits: 1 and 2^32 - 1, then 2, which is 2 in 32 bits; 2 and 2^32 - 1, then 1; one length alone
    ∷ over_ab (27 ∷ 1 ∷ 27 ∷ 4294967295 ∷ 27 ∷ 2 ∷ []) 13 1
    ∷ over_ab (27 ∷ 2 ∷ 27 ∷ 4294967295 ∷ 27 ∷ 1 ∷ []) 13 1
    ∷ over_ab (27 ∷ 4294967295 ∷ 27 ∷ 3 ∷ []) 13 0
    ∷ []

-- a number in each buffer, in two of them not a whole row
abbrev pub lent : Buffers
lent = record { events = replicate 9 7; trees = replicate 9 7; errors = replicate 3 7; reports = replicate 10 7; pool = 7 ∷ [] }

-- with an entry and a setting
unfoldable pub called : ℕ → ℕ → List RowReading → List Result
unfolding call
called entry setting [] = []
called entry setting (x ∷ l) = call entry setting x.input x.numbers lent ∷ called entry setting l

unfoldable pub wanted : List RowReading → List Result
wanted [] = []
wanted (x ∷ l) = record { answer = refusal x.number x.place; buffers = lent } ∷ wanted l

pub row_readings_hold : called 1 0 row_readings ≡ wanted row_readings
unfolding called wanted
row_readings_hold = refl

pub of_cells_too : called 4 1 row_readings ≡ wanted row_readings
unfolding called wanted
of_cells_too = refl
