-- The definitions of the claim, computed on small calls in both settings: where a cell starts, which marks the reports
-- have, and the rows of its tree.
use Prim.Native.Nat.{ℕ, zero, suc, ◌*◌}
use mathlib.Core.Path.{◌≡◌, refl}
use mathlib.Core.Bool.{Bool, true, false, ◌&&◌}
use mathlib.Core.List.{List, [], ◌∷◌, ◌++◌}
use lib.Dec.{eqb}
use lib.ListN.{length, take, drop, replicate}
use Rattle.definitions.specs.Layout.{TREE_ROW}
use Rattle.definitions.specs.TokenKind as K
use Rattle.definitions.specs.Token.{tokens_of}
use Rattle.definitions.specs.Skeleton.{◌⧺◌}
use Rattle.definitions.specs.Place.{place}
use Rattle.definitions.specs.Parent.{rows_under}
use Rattle.definitions.specs.C.{plain, Expr, literal, invocation, prefix, binary, ternary}
use Rattle.definitions.specs.Call.{Buffers, Result, call}
use Rattle.precedence.specs.Nodes.{cell}
use Rattle.precedence.specs.Precedence.{tokens_before, mark_in}

-- the tree of a cell, if it has one
data Tree : Type 0 where
  holds : Expr → Tree
  nothing : Tree

-- entry, input bytes, token numbers, and the number of a DtExpr's row; its tree, the tokens before it, the marks of all
-- reports in the old setting, and those that the strict setting adds
record Example : Type 0 where
  entry : ℕ
  input : List ℕ
  numbers : List ℕ
  row : ℕ
  parent : ℕ
  tree : Tree
  before : ℕ
  marks : List ℕ
  strict_marks : List ℕ

example : ℕ → List ℕ → List ℕ → ℕ → ℕ → Tree → ℕ → List ℕ → List ℕ → Example
example n i k p u t b m s = record { entry = n; input = i; numbers = k; row = p; parent = u; tree = t; before = b; marks = m; strict_marks = s }

one : Expr
one = literal K.Number

-- `/{1a:b=<(1+2)>;};`
labelled_bytes : List ℕ
labelled_bytes = 47 ∷ 123 ∷ 49 ∷ 97 ∷ 58 ∷ 98 ∷ 61 ∷ 60 ∷ 40 ∷ 49 ∷ 43 ∷ 50 ∷ 41 ∷ 62 ∷ 59 ∷ 125 ∷ 59 ∷ []

labelled_numbers : List ℕ
labelled_numbers = 46 ∷ 1 ∷ 37 ∷ 1 ∷ 35 ∷ 1 ∷ 27 ∷ 1 ∷ 31 ∷ 1 ∷ 27 ∷ 1 ∷ 28 ∷ 1 ∷ 39 ∷ 1 ∷ 41 ∷ 1 ∷ 35 ∷ 1 ∷ 43 ∷ 1 ∷ 35 ∷ 1 ∷ 42 ∷ 1 ∷ 40 ∷ 1 ∷ 29 ∷ 1 ∷ 38 ∷ 1 ∷ 29 ∷ 1 ∷ []

-- `a=<(1+2) &1b>;`
referring_bytes : List ℕ
referring_bytes = 97 ∷ 61 ∷ 60 ∷ 40 ∷ 49 ∷ 43 ∷ 50 ∷ 41 ∷ 32 ∷ 38 ∷ 49 ∷ 98 ∷ 62 ∷ 59 ∷ []

referring_numbers : List ℕ
referring_numbers = 27 ∷ 1 ∷ 28 ∷ 1 ∷ 39 ∷ 1 ∷ 41 ∷ 1 ∷ 35 ∷ 1 ∷ 43 ∷ 1 ∷ 35 ∷ 1 ∷ 42 ∷ 1 ∷ 0 ∷ 1 ∷ 30 ∷ 1 ∷ 35 ∷ 1 ∷ 27 ∷ 1 ∷ 40 ∷ 1 ∷ 29 ∷ 1 ∷ []

examples : List Example
unfolding example one labelled_bytes labelled_numbers referring_bytes referring_numbers
examples =
    -- entry 4, `(1?1:1?1:1)`: the ternary groups from right to left, and is one InfixExpr of five parts
    example 4 (40 ∷ 49 ∷ 63 ∷ 49 ∷ 58 ∷ 49 ∷ 63 ∷ 49 ∷ 58 ∷ 49 ∷ 41 ∷ []) (41 ∷ 1 ∷ 35 ∷ 1 ∷ 60 ∷ 1 ∷ 35 ∷ 1 ∷ 31 ∷ 1 ∷ 35 ∷ 1 ∷ 60 ∷ 1 ∷ 35 ∷ 1 ∷ 31 ∷ 1 ∷ 35 ∷ 1 ∷ 42 ∷ 1 ∷ []) 1 0 (holds (ternary one one (ternary one one one))) 0 [] []
    -- entry 4, `( 1 - 1*1 -1)`: minus groups from left to right; trivia stand before the nodes that follow them
    ∷ example 4 (40 ∷ 32 ∷ 49 ∷ 32 ∷ 45 ∷ 32 ∷ 49 ∷ 42 ∷ 49 ∷ 32 ∷ 45 ∷ 49 ∷ 41 ∷ []) (41 ∷ 1 ∷ 0 ∷ 1 ∷ 35 ∷ 1 ∷ 0 ∷ 1 ∷ 44 ∷ 1 ∷ 0 ∷ 1 ∷ 35 ∷ 1 ∷ 45 ∷ 1 ∷ 35 ∷ 1 ∷ 0 ∷ 1 ∷ 44 ∷ 1 ∷ 35 ∷ 1 ∷ 42 ∷ 1 ∷ []) 1 0 (holds (binary (binary one K.Minus (binary one K.Asterisk one)) K.Minus one)) 0 [] []
    -- entry 3, `<(-1)>`
    ∷ example 3 (60 ∷ 40 ∷ 45 ∷ 49 ∷ 41 ∷ 62 ∷ []) (39 ∷ 1 ∷ 41 ∷ 1 ∷ 44 ∷ 1 ∷ 35 ∷ 1 ∷ 42 ∷ 1 ∷ 40 ∷ 1 ∷ []) 3 1 (holds (prefix K.Minus one)) 1 [] []
    -- entry 1, `a=<(f(1,))>;`: an argument list, the second argument empty
    ∷ example 1 (97 ∷ 61 ∷ 60 ∷ 40 ∷ 102 ∷ 40 ∷ 49 ∷ 44 ∷ 41 ∷ 41 ∷ 62 ∷ 59 ∷ []) (27 ∷ 1 ∷ 28 ∷ 1 ∷ 39 ∷ 1 ∷ 41 ∷ 1 ∷ 27 ∷ 1 ∷ 41 ∷ 1 ∷ 35 ∷ 1 ∷ 2 ∷ 1 ∷ 42 ∷ 1 ∷ 42 ∷ 1 ∷ 40 ∷ 1 ∷ 29 ∷ 1 ∷ []) 7 5 (holds (invocation (plain K.Number ∷ plain K.Comma ∷ []))) 3 [] []
    -- entry 1, `a=<(f (1))>;`: a blank before the bracket, so no argument list and no tree; a report between 3 and 9
    ∷ example 1 (97 ∷ 61 ∷ 60 ∷ 40 ∷ 102 ∷ 32 ∷ 40 ∷ 49 ∷ 41 ∷ 41 ∷ 62 ∷ 59 ∷ []) (27 ∷ 1 ∷ 28 ∷ 1 ∷ 39 ∷ 1 ∷ 41 ∷ 1 ∷ 27 ∷ 1 ∷ 0 ∷ 1 ∷ 41 ∷ 1 ∷ 35 ∷ 1 ∷ 42 ∷ 1 ∷ 42 ∷ 1 ∷ 40 ∷ 1 ∷ 29 ∷ 1 ∷ []) 7 5 nothing 3 (5 ∷ 9 ∷ []) []
    -- entry 4, `#if (1+1) #endif` without the blanks: a cell in a conditional
    ∷ example 4 (35 ∷ 105 ∷ 102 ∷ 40 ∷ 49 ∷ 43 ∷ 49 ∷ 41 ∷ 35 ∷ 101 ∷ 110 ∷ 100 ∷ 105 ∷ 102 ∷ []) (4 ∷ 3 ∷ 41 ∷ 1 ∷ 35 ∷ 1 ∷ 43 ∷ 1 ∷ 35 ∷ 1 ∷ 42 ∷ 1 ∷ 11 ∷ 6 ∷ []) 4 3 (holds (binary one K.Plus one)) 1 [] []
    -- entry 4, `(1(1)`: the second cell is sound, and the report for the first has its mark at the second's LParen, not
    -- above
    ∷ example 4 (40 ∷ 49 ∷ 40 ∷ 49 ∷ 41 ∷ []) (41 ∷ 1 ∷ 35 ∷ 1 ∷ 41 ∷ 1 ∷ 35 ∷ 1 ∷ 42 ∷ 1 ∷ []) 5 0 (holds one) 2 (2 ∷ []) []
    -- entry 4, `(1+)`: the report's mark is the RParen's index
    ∷ example 4 (40 ∷ 49 ∷ 43 ∷ 41 ∷ []) (41 ∷ 1 ∷ 35 ∷ 1 ∷ 43 ∷ 1 ∷ 42 ∷ 1 ∷ []) 1 0 nothing 0 (3 ∷ []) []
    -- entry 1, `/{1a:b=<(1+2)>;};`: a label that starts with a digit, before a sound cell; in the strict setting a
    -- report, with its mark at the label
    ∷ example 1 labelled_bytes labelled_numbers 13 11 (holds (binary one K.Plus one)) 8 [] (2 ∷ [])
    -- entry 1, `a=<(1+2) &1b>;`: a reference, after it; the mark is the name's, not that of `&`
    ∷ example 1 referring_bytes referring_numbers 7 5 (holds (binary one K.Plus one)) 3 [] (10 ∷ [])
    -- entry 4, `&1a(1)&2b`: on both sides, and no blank between
    ∷ example 4 (38 ∷ 49 ∷ 97 ∷ 40 ∷ 49 ∷ 41 ∷ 38 ∷ 50 ∷ 98 ∷ []) (30 ∷ 1 ∷ 35 ∷ 1 ∷ 27 ∷ 1 ∷ 41 ∷ 1 ∷ 35 ∷ 1 ∷ 42 ∷ 1 ∷ 30 ∷ 1 ∷ 35 ∷ 1 ∷ 27 ∷ 1 ∷ []) 4 0 (holds one) 3 [] (1 ∷ 7 ∷ [])
    -- entry 4, `(1+)&1b`: no tree; the report between the brackets is there in both settings, and comes first
    ∷ example 4 (40 ∷ 49 ∷ 43 ∷ 41 ∷ 38 ∷ 49 ∷ 98 ∷ []) (41 ∷ 1 ∷ 35 ∷ 1 ∷ 43 ∷ 1 ∷ 42 ∷ 1 ∷ 30 ∷ 1 ∷ 35 ∷ 1 ∷ 27 ∷ 1 ∷ []) 1 0 nothing 0 (3 ∷ []) (5 ∷ [])
    ∷ []

-- the rows of a cell that holds a tree: row p, under row u
tree_rows : Tree → ℕ → ℕ → List ℕ → ℕ → List ℕ
unfolding rows_under place ◌⧺◌
tree_rows (holds e) u p tokens i = rows_under u p (place (cell e) (drop i (tokens_of tokens)))
tree_rows nothing u p tokens i = []

mark_list : ℕ → List ℕ → List ℕ
mark_list zero l = []
mark_list (suc q) l = mark_list q l ++ (mark_in q l ∷ [])

-- the tokens before the row, the marks, and as many numbers from the row on
found : ℕ → ℕ → Result → List ℕ
unfolding mark_list tokens_before
found p size r = tokens_before p r.buffers.trees ∷ (mark_list r.answer.report_count r.buffers.reports ++ take size (drop (TREE_ROW * p) r.buffers.trees))

-- buffers with room enough
lent : Buffers
lent = record { events = replicate 400 7; trees = replicate 200 7; errors = replicate 9 7; reports = replicate 90 7; pool = replicate 200 7 }

called : List Example → List (List ℕ)
unfolding found tree_rows call lent
called [] = []
called (x ∷ l) =
    let size = length (tree_rows x.tree x.parent x.row x.numbers x.before) in
    found x.row size (call x.entry 0 x.input x.numbers lent) ∷ found x.row size (call x.entry 1 x.input x.numbers lent) ∷ called l

wanted : List Example → List (List ℕ)
unfolding tree_rows
wanted [] = []
wanted (x ∷ l) =
    let rows_of_lem = tree_rows x.tree x.parent x.row x.numbers x.before in
    (x.before ∷ (x.marks ++ rows_of_lem)) ∷ (x.before ∷ ((x.marks ++ x.strict_marks) ++ rows_of_lem)) ∷ wanted l

-- number by number: the two sides are computed, and not compared as terms
same : List ℕ → List ℕ → Bool
same [] [] = true
same [] (y ∷ m) = false
same (x ∷ l) [] = false
same (x ∷ l) (y ∷ m) = eqb x y && same l m

agree : List (List ℕ) → List (List ℕ) → Bool
unfolding same
agree [] [] = true
agree [] (y ∷ m) = false
agree (x ∷ l) [] = false
agree (x ∷ l) (y ∷ m) = same x y && agree l m

examples_hold : agree (called examples) (wanted examples) ≡ true
unfolding agree called wanted examples
examples_hold = refl

-- the reports that the strict setting adds are of message 8, each over its name's bytes, with no expectation, hint or
-- label
label_row : same (take 9 (call 1 1 labelled_bytes labelled_numbers lent).buffers.reports) (8 ∷ 2 ∷ 4 ∷ 2 ∷ 0 ∷ 0 ∷ 0 ∷ 0 ∷ 0 ∷ []) ≡ true
unfolding same call lent labelled_bytes labelled_numbers
label_row = refl

reference_row : same (take 9 (call 1 1 referring_bytes referring_numbers lent).buffers.reports) (8 ∷ 10 ∷ 12 ∷ 10 ∷ 0 ∷ 0 ∷ 0 ∷ 0 ∷ 0 ∷ []) ≡ true
unfolding same call lent referring_bytes referring_numbers
reference_row = refl
