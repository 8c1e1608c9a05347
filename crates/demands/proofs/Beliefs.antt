-- Document 01's four false beliefs, each refuted by one computed call in the old setting: whole answers and all
-- buffers, as the definitions give them.
use mathlib.Core.Path.{◌≡◌, refl}
use Prim.Native.Nat.{ℕ}
use mathlib.Core.List.{List, [], ◌∷◌}
use lib.ListN.{replicate}
use Rattle.definitions.specs.Call.{Buffers, Result, call}

-- 100 event numbers, and as many numbers for tree rows, reports and expectations as are written
abbrev pub lent : ℕ → ℕ → ℕ → Buffers
lent t r p = record { events = replicate 100 7; trees = replicate t 7; errors = []; reports = replicate r 7; pool = replicate p 7 }

abbrev pub result : ℕ → ℕ → ℕ → List ℕ → List ℕ → List ℕ → Result
result nt nr np t r p =
    record {
      answer = record { number = 0; place = 0; tree_count = nt; error_count = 0; report_count = nr; expectation_count = np };
      buffers = record { events = replicate 100 0; trees = t; errors = []; reports = r; pool = p };
    }

-- Not each ParseError has a report: `a="s"` is a ParseError (row 0 10 5 3 0) in a file without one.
pub no_report :
    call 1 0 (97 ∷ 61 ∷ 34 ∷ 115 ∷ 34 ∷ []) (27 ∷ 1 ∷ 28 ∷ 1 ∷ 33 ∷ 3 ∷ []) (lent 30 0 0)
    ≡ result 6 0 0 (0 ∷ 0 ∷ 5 ∷ 1 ∷ 0 ∷ 0 ∷ 10 ∷ 5 ∷ 3 ∷ 0 ∷ 1 ∷ 26 ∷ 1 ∷ 1 ∷ 1 ∷ 1 ∷ 28 ∷ 1 ∷ 1 ∷ 1 ∷ 0 ∷ 20 ∷ 3 ∷ 1 ∷ 1 ∷ 1 ∷ 33 ∷ 3 ∷ 1 ∷ 4 ∷ []) [] []
unfolding call
no_report = refl

-- Pending expectations do not end with a statement: in `a=<1> }` the report on the brace is one byte at the space,
-- since a comma and a semicolon are still pending from the property before it.
pub pending_goes_on :
    call 1 0 (97 ∷ 61 ∷ 60 ∷ 49 ∷ 62 ∷ 32 ∷ 125 ∷ []) (27 ∷ 1 ∷ 28 ∷ 1 ∷ 39 ∷ 1 ∷ 35 ∷ 1 ∷ 40 ∷ 1 ∷ 0 ∷ 1 ∷ 38 ∷ 1 ∷ []) (lent 60 9 0)
    ≡ result 12 1 0 (0 ∷ 0 ∷ 7 ∷ 3 ∷ 0 ∷ 0 ∷ 10 ∷ 5 ∷ 3 ∷ 0 ∷ 1 ∷ 26 ∷ 1 ∷ 1 ∷ 1 ∷ 1 ∷ 28 ∷ 1 ∷ 1 ∷ 1 ∷ 0 ∷ 20 ∷ 3 ∷ 1 ∷ 1 ∷ 0 ∷ 17 ∷ 3 ∷ 3 ∷ 4 ∷ 1 ∷ 39 ∷ 1 ∷ 1 ∷ 5 ∷ 1 ∷ 35 ∷ 1 ∷ 1 ∷ 5 ∷ 1 ∷ 40 ∷ 1 ∷ 1 ∷ 5 ∷ 1 ∷ 0 ∷ 1 ∷ 1 ∷ 0 ∷ 0 ∷ 10 ∷ 1 ∷ 1 ∷ 0 ∷ 1 ∷ 38 ∷ 1 ∷ 1 ∷ 10 ∷ []) (2 ∷ 5 ∷ 6 ∷ 5 ∷ 0 ∷ 0 ∷ 0 ∷ 0 ∷ 0 ∷ []) []
unfolding call
pending_goes_on = refl

-- `#else` after a comma in values starts no branch: in `#if a=<1>,#else"s";#endif` it is a plain leaf (1 10 5 1 7) of
-- the PropValueList, and the conditional has one PreprocessorBranch.
pub else_is_plain :
    call 1 0 (35 ∷ 105 ∷ 102 ∷ 97 ∷ 61 ∷ 60 ∷ 49 ∷ 62 ∷ 44 ∷ 35 ∷ 101 ∷ 108 ∷ 115 ∷ 101 ∷ 34 ∷ 115 ∷ 34 ∷ 59 ∷ 35 ∷ 101 ∷ 110 ∷ 100 ∷ 105 ∷ 102 ∷ []) (4 ∷ 3 ∷ 27 ∷ 1 ∷ 28 ∷ 1 ∷ 39 ∷ 1 ∷ 35 ∷ 1 ∷ 40 ∷ 1 ∷ 2 ∷ 1 ∷ 10 ∷ 5 ∷ 33 ∷ 3 ∷ 29 ∷ 1 ∷ 11 ∷ 6 ∷ []) (lent 85 9 2)
    ≡ result 17 1 2 (0 ∷ 0 ∷ 24 ∷ 1 ∷ 0 ∷ 0 ∷ 13 ∷ 24 ∷ 3 ∷ 0 ∷ 1 ∷ 4 ∷ 3 ∷ 1 ∷ 1 ∷ 0 ∷ 14 ∷ 15 ∷ 1 ∷ 1 ∷ 0 ∷ 16 ∷ 15 ∷ 4 ∷ 3 ∷ 1 ∷ 26 ∷ 1 ∷ 1 ∷ 4 ∷ 1 ∷ 28 ∷ 1 ∷ 1 ∷ 4 ∷ 0 ∷ 20 ∷ 12 ∷ 4 ∷ 4 ∷ 0 ∷ 17 ∷ 3 ∷ 3 ∷ 7 ∷ 1 ∷ 39 ∷ 1 ∷ 1 ∷ 8 ∷ 1 ∷ 35 ∷ 1 ∷ 1 ∷ 8 ∷ 1 ∷ 40 ∷ 1 ∷ 1 ∷ 8 ∷ 1 ∷ 2 ∷ 1 ∷ 1 ∷ 7 ∷ 1 ∷ 10 ∷ 5 ∷ 1 ∷ 7 ∷ 1 ∷ 33 ∷ 3 ∷ 1 ∷ 7 ∷ 1 ∷ 29 ∷ 1 ∷ 1 ∷ 4 ∷ 1 ∷ 11 ∷ 6 ∷ 1 ∷ 1 ∷ []) (1 ∷ 14 ∷ 15 ∷ 8 ∷ 0 ∷ 2 ∷ 0 ∷ 0 ∷ 0 ∷ []) (2 ∷ 29 ∷ [])
unfolding call
else_is_plain = refl

-- `a=;` does not keep its semicolon: it lies in a ParseError inside the PropValueList.
pub semicolon_lost :
    call 1 0 (97 ∷ 61 ∷ 59 ∷ []) (27 ∷ 1 ∷ 28 ∷ 1 ∷ 29 ∷ 1 ∷ []) (lent 35 18 4)
    ≡ result 7 2 4 (0 ∷ 0 ∷ 3 ∷ 1 ∷ 0 ∷ 0 ∷ 16 ∷ 3 ∷ 3 ∷ 0 ∷ 1 ∷ 26 ∷ 1 ∷ 1 ∷ 1 ∷ 1 ∷ 28 ∷ 1 ∷ 1 ∷ 1 ∷ 0 ∷ 20 ∷ 1 ∷ 1 ∷ 1 ∷ 0 ∷ 10 ∷ 1 ∷ 1 ∷ 4 ∷ 1 ∷ 29 ∷ 1 ∷ 1 ∷ 5 ∷ []) (1 ∷ 2 ∷ 3 ∷ 2 ∷ 0 ∷ 3 ∷ 0 ∷ 0 ∷ 0 ∷ 1 ∷ 2 ∷ 3 ∷ 3 ∷ 3 ∷ 1 ∷ 0 ∷ 0 ∷ 0 ∷ []) (103 ∷ 19 ∷ 101 ∷ 29 ∷ [])
unfolding call
semicolon_lost = refl
