-- Document 01's readings that are marked P: one table, and one proof over it. Whole answers and all buffers are
-- compared.
use mathlib.Core.Path.{◌≡◌, refl}
use Prim.Native.Nat.{ℕ}
use mathlib.Core.List.{List, [], ◌∷◌}
use lib.ListN.{length, replicate}
use Rattle.definitions.specs.Call.{Answer, Buffers, Result, call}

-- entry, input bytes, token numbers; what must come out
pub record Reading : Type 0 where
  pub entry : ℕ
  pub input : List ℕ
  pub rows : List ℕ
  pub result : Result

abbrev pub answer : ℕ → ℕ → ℕ → ℕ → Answer
answer t e r x = record { number = 0; place = 0; tree_count = t; error_count = e; report_count = r; expectation_count = x }

-- entry, input, rows; the counts; 100 event numbers, and what the other buffers hold in the end
abbrev pub reading : ℕ → List ℕ → List ℕ → Answer → List ℕ → List ℕ → List ℕ → List ℕ → Reading
reading n i r a t e m x =
    record {
      entry = n;
      input = i;
      rows = r;
      result = record { answer = a; buffers = record { events = replicate 100 0; trees = t; errors = e; reports = m; pool = x } };
    }

-- lent: buffers of those lengths, full of sevens
abbrev pub sevens : List ℕ → List ℕ
sevens l = replicate (length l) 7

abbrev pub lent : Buffers → Buffers
lent b = record { events = sevens b.events; trees = sevens b.trees; errors = sevens b.errors; reports = sevens b.reports; pool = sevens b.pool }

abbrev pub readings : List Reading
readings =
    -- empty source file: root, width 0
    reading 1 [] [] (answer 1 0 0 0)
    (0 ∷ 0 ∷ 0 ∷ 0 ∷ 0 ∷ 0 ∷ [])
    (0 ∷ []) (0 ∷ []) (0 ∷ [])
    -- `a;`: DtProperty of Name, Semicolon
    ∷ reading 1 (97 ∷ 59 ∷ []) (27 ∷ 1 ∷ 29 ∷ 1 ∷ []) (answer 4 0 0 0)
    (0 ∷ 0 ∷ 2 ∷ 1 ∷ 0 ∷ 0 ∷ 16 ∷ 2 ∷ 2 ∷ 0 ∷ 1 ∷ 26 ∷ 1 ∷ 1 ∷ 1 ∷ 1 ∷ 29 ∷ 1 ∷ 1 ∷ 1 ∷ 0 ∷ [])
    (0 ∷ []) (0 ∷ []) (0 ∷ [])
    -- `a,b-c;`: Name of 5 raw tokens
    ∷ reading 1 (97 ∷ 44 ∷ 98 ∷ 45 ∷ 99 ∷ 59 ∷ []) (27 ∷ 1 ∷ 2 ∷ 1 ∷ 27 ∷ 1 ∷ 44 ∷ 1 ∷ 27 ∷ 1 ∷ 29 ∷ 1 ∷ []) (answer 4 0 0 0)
    (0 ∷ 0 ∷ 6 ∷ 1 ∷ 0 ∷ 0 ∷ 16 ∷ 6 ∷ 2 ∷ 0 ∷ 1 ∷ 26 ∷ 5 ∷ 5 ∷ 1 ∷ 1 ∷ 29 ∷ 1 ∷ 1 ∷ 1 ∷ 0 ∷ [])
    (0 ∷ []) (0 ∷ []) (0 ∷ [])
    -- ` a;`: the space lies under the root
    ∷ reading 1 (32 ∷ 97 ∷ 59 ∷ []) (0 ∷ 1 ∷ 27 ∷ 1 ∷ 29 ∷ 1 ∷ []) (answer 5 0 0 0)
    (0 ∷ 0 ∷ 3 ∷ 2 ∷ 0 ∷ 1 ∷ 0 ∷ 1 ∷ 1 ∷ 0 ∷ 0 ∷ 16 ∷ 2 ∷ 2 ∷ 0 ∷ 1 ∷ 26 ∷ 1 ∷ 1 ∷ 2 ∷ 1 ∷ 29 ∷ 1 ∷ 1 ∷ 2 ∷ 0 ∷ [])
    (0 ∷ []) (0 ∷ []) (0 ∷ [])
    -- `/{};`: one DtNode, no report
    ∷ reading 1 (47 ∷ 123 ∷ 125 ∷ 59 ∷ []) (46 ∷ 1 ∷ 37 ∷ 1 ∷ 38 ∷ 1 ∷ 29 ∷ 1 ∷ []) (answer 6 0 0 0)
    (0 ∷ 0 ∷ 4 ∷ 1 ∷ 0 ∷ 0 ∷ 15 ∷ 4 ∷ 4 ∷ 0 ∷ 1 ∷ 46 ∷ 1 ∷ 1 ∷ 1 ∷ 1 ∷ 37 ∷ 1 ∷ 1 ∷ 1 ∷ 1 ∷ 38 ∷ 1 ∷ 1 ∷ 1 ∷ 1 ∷ 29 ∷ 1 ∷ 1 ∷ 1 ∷ 0 ∷ [])
    (0 ∷ []) (0 ∷ []) (0 ∷ [])
    -- `/{`: DtNode; message 7 at 1..2, label 1..2
    ∷ reading 1 (47 ∷ 123 ∷ []) (46 ∷ 1 ∷ 37 ∷ 1 ∷ []) (answer 4 0 1 0)
    (0 ∷ 0 ∷ 2 ∷ 1 ∷ 0 ∷ 0 ∷ 15 ∷ 2 ∷ 2 ∷ 0 ∷ 1 ∷ 46 ∷ 1 ∷ 1 ∷ 1 ∷ 1 ∷ 37 ∷ 1 ∷ 1 ∷ 1 ∷ 0 ∷ [])
    (0 ∷ []) (7 ∷ 1 ∷ 2 ∷ 2 ∷ 0 ∷ 0 ∷ 0 ∷ 1 ∷ 2 ∷ 0 ∷ []) (0 ∷ [])
    -- `}`: ParseError, message 2 at 0..1
    ∷ reading 1 (125 ∷ []) (38 ∷ 1 ∷ []) (answer 3 0 1 0)
    (0 ∷ 0 ∷ 1 ∷ 1 ∷ 0 ∷ 0 ∷ 10 ∷ 1 ∷ 1 ∷ 0 ∷ 1 ∷ 38 ∷ 1 ∷ 1 ∷ 1 ∷ 0 ∷ [])
    (0 ∷ []) (2 ∷ 0 ∷ 1 ∷ 0 ∷ 0 ∷ 0 ∷ 0 ∷ 0 ∷ 0 ∷ 0 ∷ []) (0 ∷ [])
    -- `a=;`: DtProperty of Name, Equals, PropValueList(ParseError(Semicolon)); two reports, both 2..3
    ∷ reading 1 (97 ∷ 61 ∷ 59 ∷ []) (27 ∷ 1 ∷ 28 ∷ 1 ∷ 29 ∷ 1 ∷ []) (answer 7 0 2 4)
    (0 ∷ 0 ∷ 3 ∷ 1 ∷ 0 ∷ 0 ∷ 16 ∷ 3 ∷ 3 ∷ 0 ∷ 1 ∷ 26 ∷ 1 ∷ 1 ∷ 1 ∷ 1 ∷ 28 ∷ 1 ∷ 1 ∷ 1 ∷ 0 ∷ 20 ∷ 1 ∷ 1 ∷ 1 ∷ 0 ∷ 10 ∷ 1 ∷ 1 ∷ 4 ∷ 1 ∷ 29 ∷ 1 ∷ 1 ∷ 5 ∷ 0 ∷ [])
    (0 ∷ []) (1 ∷ 2 ∷ 3 ∷ 2 ∷ 0 ∷ 3 ∷ 0 ∷ 0 ∷ 0 ∷ 1 ∷ 2 ∷ 3 ∷ 3 ∷ 3 ∷ 1 ∷ 0 ∷ 0 ∷ 0 ∷ 0 ∷ []) (103 ∷ 19 ∷ 101 ∷ 29 ∷ 0 ∷ [])
    -- `a=<1> }`: ParseError of width 5 without a report, the space, ParseError; one report, message 2, at 5..6
    ∷ reading 1 (97 ∷ 61 ∷ 60 ∷ 49 ∷ 62 ∷ 32 ∷ 125 ∷ []) (27 ∷ 1 ∷ 28 ∷ 1 ∷ 39 ∷ 1 ∷ 35 ∷ 1 ∷ 40 ∷ 1 ∷ 0 ∷ 1 ∷ 38 ∷ 1 ∷ []) (answer 12 0 1 0)
    (0 ∷ 0 ∷ 7 ∷ 3 ∷ 0 ∷ 0 ∷ 10 ∷ 5 ∷ 3 ∷ 0 ∷ 1 ∷ 26 ∷ 1 ∷ 1 ∷ 1 ∷ 1 ∷ 28 ∷ 1 ∷ 1 ∷ 1 ∷ 0 ∷ 20 ∷ 3 ∷ 1 ∷ 1 ∷ 0 ∷ 17 ∷ 3 ∷ 3 ∷ 4 ∷ 1 ∷ 39 ∷ 1 ∷ 1 ∷ 5 ∷ 1 ∷ 35 ∷ 1 ∷ 1 ∷ 5 ∷ 1 ∷ 40 ∷ 1 ∷ 1 ∷ 5 ∷ 1 ∷ 0 ∷ 1 ∷ 1 ∷ 0 ∷ 0 ∷ 10 ∷ 1 ∷ 1 ∷ 0 ∷ 1 ∷ 38 ∷ 1 ∷ 1 ∷ 10 ∷ 0 ∷ [])
    (0 ∷ []) (2 ∷ 5 ∷ 6 ∷ 5 ∷ 0 ∷ 0 ∷ 0 ∷ 0 ∷ 0 ∷ 0 ∷ []) (0 ∷ [])
    -- one error token (74, length 1): ParseError; report at 0..1 with its pool
    ∷ reading 1 (96 ∷ []) (74 ∷ 1 ∷ []) (answer 3 1 1 11)
    (0 ∷ 0 ∷ 1 ∷ 1 ∷ 0 ∷ 0 ∷ 10 ∷ 1 ∷ 1 ∷ 0 ∷ 1 ∷ 25 ∷ 1 ∷ 1 ∷ 1 ∷ 0 ∷ [])
    (74 ∷ 0 ∷ 1 ∷ 0 ∷ []) (1 ∷ 0 ∷ 1 ∷ 0 ∷ 0 ∷ 11 ∷ 0 ∷ 0 ∷ 0 ∷ 0 ∷ []) (18 ∷ 26 ∷ 30 ∷ 46 ∷ 23 ∷ 24 ∷ 19 ∷ 20 ∷ 21 ∷ 22 ∷ 101 ∷ 0 ∷ [])
    -- cells `(1+2*3)`: Infix(1, +, Infix(2, *, 3))
    ∷ reading 4 (40 ∷ 49 ∷ 43 ∷ 50 ∷ 42 ∷ 51 ∷ 41 ∷ []) (41 ∷ 1 ∷ 35 ∷ 1 ∷ 43 ∷ 1 ∷ 35 ∷ 1 ∷ 45 ∷ 1 ∷ 35 ∷ 1 ∷ 42 ∷ 1 ∷ []) (answer 14 0 0 0)
    (0 ∷ 3 ∷ 7 ∷ 1 ∷ 0 ∷ 0 ∷ 18 ∷ 7 ∷ 3 ∷ 0 ∷ 1 ∷ 41 ∷ 1 ∷ 1 ∷ 1 ∷ 0 ∷ 6 ∷ 5 ∷ 3 ∷ 1 ∷ 0 ∷ 9 ∷ 1 ∷ 1 ∷ 3 ∷ 1 ∷ 35 ∷ 1 ∷ 1 ∷ 4 ∷ 1 ∷ 43 ∷ 1 ∷ 1 ∷ 3 ∷ 0 ∷ 6 ∷ 3 ∷ 3 ∷ 3 ∷ 0 ∷ 9 ∷ 1 ∷ 1 ∷ 7 ∷ 1 ∷ 35 ∷ 1 ∷ 1 ∷ 8 ∷ 1 ∷ 45 ∷ 1 ∷ 1 ∷ 7 ∷ 0 ∷ 9 ∷ 1 ∷ 1 ∷ 7 ∷ 1 ∷ 35 ∷ 1 ∷ 1 ∷ 11 ∷ 1 ∷ 42 ∷ 1 ∷ 1 ∷ 1 ∷ 0 ∷ [])
    (0 ∷ []) (0 ∷ []) (0 ∷ [])
    -- cells `(1-2-3)`, all rows
    ∷ reading 4 (40 ∷ 49 ∷ 45 ∷ 50 ∷ 45 ∷ 51 ∷ 41 ∷ []) (41 ∷ 1 ∷ 35 ∷ 1 ∷ 44 ∷ 1 ∷ 35 ∷ 1 ∷ 44 ∷ 1 ∷ 35 ∷ 1 ∷ 42 ∷ 1 ∷ []) (answer 14 0 0 0)
    (0 ∷ 3 ∷ 7 ∷ 1 ∷ 0 ∷ 0 ∷ 18 ∷ 7 ∷ 3 ∷ 0 ∷ 1 ∷ 41 ∷ 1 ∷ 1 ∷ 1 ∷ 0 ∷ 6 ∷ 5 ∷ 3 ∷ 1 ∷ 0 ∷ 6 ∷ 3 ∷ 3 ∷ 3 ∷ 0 ∷ 9 ∷ 1 ∷ 1 ∷ 4 ∷ 1 ∷ 35 ∷ 1 ∷ 1 ∷ 5 ∷ 1 ∷ 44 ∷ 1 ∷ 1 ∷ 4 ∷ 0 ∷ 9 ∷ 1 ∷ 1 ∷ 4 ∷ 1 ∷ 35 ∷ 1 ∷ 1 ∷ 8 ∷ 1 ∷ 44 ∷ 1 ∷ 1 ∷ 3 ∷ 0 ∷ 9 ∷ 1 ∷ 1 ∷ 3 ∷ 1 ∷ 35 ∷ 1 ∷ 1 ∷ 11 ∷ 1 ∷ 42 ∷ 1 ∷ 1 ∷ 1 ∷ 0 ∷ [])
    (0 ∷ []) (0 ∷ []) (0 ∷ [])
    ∷ []

unfoldable pub called : ℕ → List Reading → List Result
unfolding call
called setting [] = []
called setting (r ∷ rs) = call r.entry setting r.input r.rows (lent r.result.buffers) ∷ called setting rs

unfoldable pub wanted : List Reading → List Result
wanted [] = []
wanted (r ∷ rs) = r.result ∷ wanted rs

-- the twelve readings hold in the old setting
pub readings_hold : called 0 readings ≡ wanted readings
unfolding called wanted
readings_hold = refl
