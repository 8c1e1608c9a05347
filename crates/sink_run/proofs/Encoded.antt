-- The event rows that main.rt runs the sink on are those that the definitions give for document 01's P readings.
use Prim.Native.Nat.{ℕ}
use mathlib.Core.Path.{◌≡◌, refl}
use mathlib.Core.Bool.{false}
use mathlib.Core.List.{List, [], ◌∷◌}
use Rattle.definitions.specs.Token.{tokens_of}
use Rattle.definitions.specs.Grammar.{Entry, SourceFile, Cells}
use Rattle.definitions.specs.Call.{run_entry}
use Rattle.machine.specs.Encode.{encode}

-- entry, token rows; the event rows
pub record Reading : Type 0 where
  pub entry : Entry
  pub tokens : List ℕ
  pub events : List ℕ

abbrev pub reading : Entry → List ℕ → List ℕ → Reading
reading e t l = record { entry = e; tokens = t; events = l }

abbrev pub readings : List Reading
readings =
    reading SourceFile [] []
    ∷ reading SourceFile
    (27 ∷ 1 ∷ 29 ∷ 1 ∷ [])
    (1 ∷ 16 ∷ 0 ∷ 0 ∷ 0 ∷ 0 ∷ 3 ∷ 1 ∷ 0 ∷ 0 ∷ 0 ∷ 0 ∷ 2 ∷ 0 ∷ 0 ∷ 4 ∷ 0 ∷ 0 ∷ [])
    ∷ reading SourceFile
    (27 ∷ 1 ∷ 2 ∷ 1 ∷ 27 ∷ 1 ∷ 44 ∷ 1 ∷ 27 ∷ 1 ∷ 29 ∷ 1 ∷ [])
    (1 ∷ 16 ∷ 0 ∷ 0 ∷ 0 ∷ 0 ∷ 3 ∷ 5 ∷ 0 ∷ 0 ∷ 0 ∷ 0 ∷ 2 ∷ 0 ∷ 0 ∷ 4 ∷ 0 ∷ 0 ∷ [])
    ∷ reading SourceFile
    (0 ∷ 1 ∷ 27 ∷ 1 ∷ 29 ∷ 1 ∷ [])
    (1 ∷ 16 ∷ 0 ∷ 0 ∷ 0 ∷ 0 ∷ 3 ∷ 1 ∷ 0 ∷ 0 ∷ 0 ∷ 0 ∷ 2 ∷ 0 ∷ 0 ∷ 4 ∷ 0 ∷ 0 ∷ [])
    ∷ reading SourceFile
    (46 ∷ 1 ∷ 37 ∷ 1 ∷ 38 ∷ 1 ∷ 29 ∷ 1 ∷ [])
    (1 ∷ 15 ∷ 0 ∷ 2 ∷ 0 ∷ 0 ∷ 2 ∷ 0 ∷ 0 ∷ 2 ∷ 0 ∷ 0 ∷ 2 ∷ 0 ∷ 0 ∷ 4 ∷ 0 ∷ 0 ∷ [])
    ∷ reading SourceFile
    (46 ∷ 1 ∷ 37 ∷ 1 ∷ [])
    (1 ∷ 15 ∷ 0 ∷ 2 ∷ 0 ∷ 0 ∷ 2 ∷ 0 ∷ 0 ∷ 5 ∷ 0 ∷ 0 ∷ 4 ∷ 0 ∷ 0 ∷ [])
    ∷ reading SourceFile
    (38 ∷ 1 ∷ [])
    (5 ∷ 0 ∷ 0 ∷ 1 ∷ 10 ∷ 0 ∷ 2 ∷ 0 ∷ 0 ∷ 4 ∷ 0 ∷ 0 ∷ [])
    ∷ reading SourceFile
    (27 ∷ 1 ∷ 28 ∷ 1 ∷ 29 ∷ 1 ∷ [])
    (1 ∷ 16 ∷ 0 ∷ 0 ∷ 0 ∷ 0 ∷ 3 ∷ 1 ∷ 0 ∷ 0 ∷ 0 ∷ 0 ∷ 2 ∷ 0 ∷ 0 ∷ 1 ∷ 20 ∷ 0 ∷ 5 ∷ 0 ∷ 0 ∷ 1 ∷ 10 ∷ 0 ∷ 2 ∷ 0 ∷ 0 ∷ 4 ∷ 0 ∷ 0 ∷ 4 ∷ 0 ∷ 0 ∷ 5 ∷ 0 ∷ 0 ∷ 4 ∷ 0 ∷ 0 ∷ [])
    ∷ reading SourceFile
    (27 ∷ 1 ∷ 28 ∷ 1 ∷ 39 ∷ 1 ∷ 35 ∷ 1 ∷ 40 ∷ 1 ∷ 0 ∷ 1 ∷ 38 ∷ 1 ∷ [])
    (1 ∷ 10 ∷ 0 ∷ 0 ∷ 0 ∷ 0 ∷ 3 ∷ 1 ∷ 0 ∷ 0 ∷ 0 ∷ 0 ∷ 2 ∷ 0 ∷ 0 ∷ 1 ∷ 20 ∷ 0 ∷ 1 ∷ 17 ∷ 0 ∷ 2 ∷ 0 ∷ 0 ∷ 2 ∷ 0 ∷ 0 ∷ 2 ∷ 0 ∷ 0 ∷ 4 ∷ 0 ∷ 0 ∷ 4 ∷ 0 ∷ 0 ∷ 4 ∷ 0 ∷ 0 ∷ 5 ∷ 0 ∷ 0 ∷ 1 ∷ 10 ∷ 0 ∷ 2 ∷ 0 ∷ 0 ∷ 4 ∷ 0 ∷ 0 ∷ [])
    ∷ reading SourceFile
    (74 ∷ 1 ∷ [])
    (0 ∷ 0 ∷ 0 ∷ 0 ∷ 0 ∷ 0 ∷ 5 ∷ 0 ∷ 0 ∷ 1 ∷ 10 ∷ 0 ∷ 2 ∷ 0 ∷ 0 ∷ 4 ∷ 0 ∷ 0 ∷ [])
    ∷ reading Cells
    (41 ∷ 1 ∷ 35 ∷ 1 ∷ 43 ∷ 1 ∷ 35 ∷ 1 ∷ 45 ∷ 1 ∷ 35 ∷ 1 ∷ 42 ∷ 1 ∷ [])
    (1 ∷ 18 ∷ 0 ∷ 2 ∷ 0 ∷ 0 ∷ 1 ∷ 6 ∷ 19 ∷ 1 ∷ 9 ∷ 0 ∷ 2 ∷ 0 ∷ 0 ∷ 4 ∷ 0 ∷ 0 ∷ 2 ∷ 0 ∷ 0 ∷ 1 ∷ 6 ∷ 11 ∷ 1 ∷ 9 ∷ 0 ∷ 2 ∷ 0 ∷ 0 ∷ 4 ∷ 0 ∷ 0 ∷ 2 ∷ 0 ∷ 0 ∷ 0 ∷ 0 ∷ 0 ∷ 1 ∷ 9 ∷ 0 ∷ 2 ∷ 0 ∷ 0 ∷ 4 ∷ 0 ∷ 0 ∷ 0 ∷ 0 ∷ 0 ∷ 4 ∷ 0 ∷ 0 ∷ 0 ∷ 0 ∷ 0 ∷ 0 ∷ 0 ∷ 0 ∷ 4 ∷ 0 ∷ 0 ∷ 0 ∷ 0 ∷ 0 ∷ 0 ∷ 0 ∷ 0 ∷ 2 ∷ 0 ∷ 0 ∷ 4 ∷ 0 ∷ 0 ∷ [])
    ∷ reading Cells
    (41 ∷ 1 ∷ 35 ∷ 1 ∷ 44 ∷ 1 ∷ 35 ∷ 1 ∷ 44 ∷ 1 ∷ 35 ∷ 1 ∷ 42 ∷ 1 ∷ [])
    (1 ∷ 18 ∷ 0 ∷ 2 ∷ 0 ∷ 0 ∷ 1 ∷ 6 ∷ 11 ∷ 1 ∷ 9 ∷ 0 ∷ 2 ∷ 0 ∷ 0 ∷ 4 ∷ 0 ∷ 0 ∷ 2 ∷ 0 ∷ 0 ∷ 0 ∷ 0 ∷ 0 ∷ 1 ∷ 9 ∷ 0 ∷ 2 ∷ 0 ∷ 0 ∷ 4 ∷ 0 ∷ 0 ∷ 0 ∷ 0 ∷ 0 ∷ 4 ∷ 0 ∷ 0 ∷ 6 ∷ 6 ∷ 8 ∷ 2 ∷ 0 ∷ 0 ∷ 0 ∷ 0 ∷ 0 ∷ 1 ∷ 9 ∷ 0 ∷ 2 ∷ 0 ∷ 0 ∷ 4 ∷ 0 ∷ 0 ∷ 0 ∷ 0 ∷ 0 ∷ 4 ∷ 0 ∷ 0 ∷ 0 ∷ 0 ∷ 0 ∷ 0 ∷ 0 ∷ 0 ∷ 2 ∷ 0 ∷ 0 ∷ 4 ∷ 0 ∷ 0 ∷ [])
    ∷ []

pub encoded : List Reading → List (List ℕ)
unfolding encode run_entry tokens_of
encoded [] = []
encoded (r ∷ rs) = encode false (run_entry r.entry (tokens_of r.tokens)) ∷ encoded rs

pub given : List Reading → List (List ℕ)
given [] = []
given (r ∷ rs) = r.events ∷ given rs

-- the twelve readings' events
pub readings_encoded : encoded readings ≡ given readings
unfolding encoded given
readings_encoded = refl
