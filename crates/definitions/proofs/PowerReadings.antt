-- Readings of document 02, 3/14: cells in brackets, and the rows of their trees. They were worked out by hand, from the
-- words and, since "no answer changes", from C's table; the reason stands above each.
use Prim.Native.Nat.{ℕ}
use mathlib.Core.Path.{◌≡◌, refl}
use mathlib.Core.Bool.{cond}
use mathlib.Core.List.{List, [], ◌∷◌, ◌++◌}
use lib.Dec.{eqb}
use lib.ListN.{replicate}
use Rattle.definitions.specs.Layout.{NODE, LEAF}
use Rattle.definitions.specs.TokenKind as K
use Rattle.definitions.specs.NodeKind as N
use Rattle.definitions.specs.Rules.{ascii}
use Rattle.definitions.specs.Call.{call}
use Rattle.definitions.proofs.Readings.{sevens}

-- ---------------------------------------------------------------- rows

-- Rows are written with their parents' numbers: the root is row 0, the cell 1, its LParen 2, what is in brackets starts
-- at 3.

-- the parent, kind and width
abbrev pub leaf : ℕ → ℕ → ℕ → List ℕ
leaf p k w = LEAF ∷ k ∷ w ∷ 1 ∷ p ∷ []

-- an operand of one digit: the parent, and its own row's number, which is the parent of the next
abbrev pub digit : ℕ → ℕ → List ℕ
digit p i = NODE ∷ N.LiteralExpr ∷ 1 ∷ 1 ∷ p ∷ leaf i K.Number 1

-- the row of an operator's node, by its parent and width: two operands, or three
abbrev pub binary : ℕ → ℕ → List ℕ
binary p w = NODE ∷ N.InfixExpr ∷ w ∷ 3 ∷ p ∷ []

abbrev pub ternary : ℕ → ℕ → List ℕ
ternary p w = NODE ∷ N.InfixExpr ∷ w ∷ 5 ∷ p ∷ []

-- a cell of this width with its brackets, under the root of entry 4
abbrev pub cell : ℕ → List ℕ → List ℕ
cell w rows = NODE ∷ N.EntryCells ∷ w ∷ 1 ∷ 0 ∷ NODE ∷ N.DtExpr ∷ w ∷ 3 ∷ 0 ∷ leaf 1 K.LParen 1 ++ rows ++ leaf 1 K.RParen 1

-- ---------------------------------------------------------------- readings

pub record PowerReading : Type 0 where
  pub text : List ℕ
  pub rows : List ℕ

infixl 80 ◌has◌
abbrev pub ◌has◌ : List ℕ → List ℕ → PowerReading
t has r = record { text = t; rows = r }

abbrev pub power_readings : List PowerReading
power_readings =
    -- "from || to multiplication": the operator of a higher level is deeper, on the right side
    ascii "(1||2&&3|4^5&6==7<8<<9+1*2)"
    has cell 27
    (binary 1 25 ++ digit 3 4 ++ leaf 3 K.LogicalOr 2
    ++ binary 3 22 ++ digit 7 8 ++ leaf 7 K.LogicalAnd 2
    ++ binary 7 19 ++ digit 11 12 ++ leaf 11 K.BitwiseOr 1
    ++ binary 11 17 ++ digit 15 16 ++ leaf 15 K.BitwiseXor 1
    ++ binary 15 15 ++ digit 19 20 ++ leaf 19 K.Ampersand 1
    ++ binary 19 13 ++ digit 23 24 ++ leaf 23 K.RelationalEq 2
    ++ binary 23 10 ++ digit 27 28 ++ leaf 27 K.LAngle 1
    ++ binary 27 8 ++ digit 31 32 ++ leaf 31 K.BitwiseShl 2
    ++ binary 31 5 ++ digit 35 36 ++ leaf 35 K.Plus 1
    ++ binary 35 3 ++ digit 39 40 ++ leaf 39 K.Asterisk 1 ++ digit 39 43)
    -- and on the left side
    ∷ ascii "(1*2+3<<4<5==6&7^8|9&&1||2)"
    has cell 27
    (binary 1 25 ++ binary 3 22 ++ binary 4 19 ++ binary 5 17 ++ binary 6 15 ++ binary 7 13 ++ binary 8 10 ++ binary 9 8 ++ binary 10 5 ++ binary 11 3
    ++ digit 12 13 ++ leaf 12 K.Asterisk 1 ++ digit 12 16
    ++ leaf 11 K.Plus 1 ++ digit 11 19
    ++ leaf 10 K.BitwiseShl 2 ++ digit 10 22
    ++ leaf 9 K.LAngle 1 ++ digit 9 25
    ++ leaf 8 K.RelationalEq 2 ++ digit 8 28
    ++ leaf 7 K.Ampersand 1 ++ digit 7 31
    ++ leaf 6 K.BitwiseXor 1 ++ digit 6 34
    ++ leaf 5 K.BitwiseOr 1 ++ digit 5 37
    ++ leaf 4 K.LogicalAnd 2 ++ digit 4 40
    ++ leaf 3 K.LogicalOr 2 ++ digit 3 43)
    -- "right as 2 × level + 2" is above "left as 2 × level + 1": two operators of one level group from the left
    ∷ ascii "(1<2>=3)"
    has cell 8 (binary 1 6 ++ binary 3 3 ++ digit 4 5 ++ leaf 4 K.LAngle 1 ++ digit 4 8 ++ leaf 3 K.RelationalGtEq 2 ++ digit 3 11)
    -- "the ternary keeps 2 and 1": its right power is below its left one, so it groups from the right
    ∷ ascii "(1?2:3?4:5)"
    has cell 11
    (ternary 1 9 ++ digit 3 4 ++ leaf 3 K.QuestionMark 1 ++ digit 3 7 ++ leaf 3 K.Colon 1
    ++ ternary 3 5 ++ digit 10 11 ++ leaf 10 K.QuestionMark 1 ++ digit 10 14 ++ leaf 10 K.Colon 1 ++ digit 10 17)
    -- and both are below level 1
    ∷ ascii "(1||2?3:4||5)"
    has cell 13
    (ternary 1 11 ++ binary 3 4 ++ digit 4 5 ++ leaf 4 K.LogicalOr 2 ++ digit 4 8 ++ leaf 3 K.QuestionMark 1 ++ digit 3 11 ++ leaf 3 K.Colon 1
    ++ binary 3 4 ++ digit 14 15 ++ leaf 14 K.LogicalOr 2 ++ digit 14 18)
    -- a prefix, 23, is above level 10
    ∷ ascii "(-1*2)"
    has cell 6 (binary 1 4 ++ NODE ∷ N.PrefixExpr ∷ 2 ∷ 2 ∷ 3 ∷ leaf 4 K.Minus 1 ++ digit 4 6 ++ leaf 3 K.Asterisk 1 ++ digit 3 9)
    ∷ []

-- the tokens: nothing is lost, so they are the leaves in order
abbrev pub token_rows : List ℕ → List ℕ
token_rows [] = []
token_rows (c ∷ []) = []
token_rows (c ∷ k ∷ []) = []
token_rows (c ∷ k ∷ w ∷ []) = []
token_rows (c ∷ k ∷ w ∷ n ∷ []) = []
token_rows (c ∷ k ∷ w ∷ n ∷ p ∷ l) = let r = token_rows l in cond (eqb c LEAF) (k ∷ w ∷ r) r

-- what the tree buffer holds in the end, if it has room for these rows and there is none for a report
unfoldable pub tree_buffers : List PowerReading → List (List ℕ)
unfolding call
tree_buffers [] = []
tree_buffers (r ∷ rs) =
    (call 4 0 r.text (token_rows r.rows) (record { events = replicate 300 7; trees = sevens r.rows; errors = []; reports = []; pool = [] })).buffers.trees
    ∷ tree_buffers rs

unfoldable pub tree_rows : List PowerReading → List (List ℕ)
tree_rows [] = []
tree_rows (r ∷ rs) = r.rows ∷ tree_rows rs

pub power_readings_hold : tree_buffers power_readings ≡ tree_rows power_readings
unfolding tree_buffers tree_rows
power_readings_hold = refl
