-- Wrong answers are refused by `CTable`: a cell that does not start with its bracket, a sound cell that is reported or
-- holds another tree, a malformed one that is not reported. A statement that lets one of them pass under the same name
-- is refused by this file.
use Prim.Native.Nat.{ℕ, zero, suc}
use native.Mathlib.Omega.{arith}
use mathlib.Core.Path.{◌≡◌, ap}
use mathlib.Core.Bool.{false}
use mathlib.Core.List.{List, [], ◌∷◌}
use lib.ListN.{get_or}
use Rattle.definitions.specs.TokenKind as K
use Rattle.definitions.specs.Token.{Token, tokens_of}
use Rattle.definitions.specs.Skeleton.{◌⧺◌}
use Rattle.definitions.specs.Place.{place}
use Rattle.definitions.specs.Parent.{rows_under}
use Rattle.definitions.specs.C.{symbols, line_in, Expr, binary, Gives}
use Rattle.definitions.specs.Call.{Result}
use Rattle.precedence.specs.Precedence.{tokens_before, mark_in, StartsCell, Between, HoldsTree, Judged}
use Rattle.precedence.proofs.Witnesses.{token, one, numbers, its_brackets, its_tree, short_numbers, short_brackets, no_tree, strict_numbers, strict_parsed, strict_brackets, strict_tree, its_row_8, its_mark}

-- what a call wrote of tree rows and of reports
abbrev wrote : ℕ → List ℕ → ℕ → List ℕ → Result
wrote nt t nr r =
    record {
      answer = record { number = 0; place = 0; tree_count = nt; error_count = 0; report_count = nr; expectation_count = 0 };
      buffers = record { events = []; trees = t; errors = []; reports = r; pool = [] };
    }

-- a report with its mark
abbrev marked : ℕ → List ℕ
marked m = 1 ∷ 0 ∷ 0 ∷ m ∷ 0 ∷ 0 ∷ 0 ∷ 0 ∷ 0 ∷ []

-- ---------------------------------------------------------------- trees

-- `(1+2*3)`, the sum first: not what the table gives, and not what a DtExpr of the right rows holds
abbrev sum_first : Expr
sum_first = binary (binary one K.Plus one) K.Asterisk one

not_given : Gives (symbols false its_brackets.inner) sum_first → ⊥
unfolding line_in
not_given g = omega (arith, g.well_formed.3)

-- the rows of the right tree, and those of the other
abbrev right : List ℕ
right = 0 ∷ 3 ∷ 7 ∷ 1 ∷ 0 ∷ 0 ∷ 18 ∷ 7 ∷ 3 ∷ 0 ∷ 1 ∷ 41 ∷ 1 ∷ 1 ∷ 1 ∷ 0 ∷ 6 ∷ 5 ∷ 3 ∷ 1 ∷ 0 ∷ 9 ∷ 1 ∷ 1 ∷ 3 ∷ 1 ∷ 35 ∷ 1 ∷ 1 ∷ 4 ∷ 1 ∷ 43 ∷ 1 ∷ 1 ∷ 3 ∷ 0 ∷ 6 ∷ 3 ∷ 3 ∷ 3 ∷ 0 ∷ 9 ∷ 1 ∷ 1 ∷ 7 ∷ 1 ∷ 35 ∷ 1 ∷ 1 ∷ 8 ∷ 1 ∷ 45 ∷ 1 ∷ 1 ∷ 7 ∷ 0 ∷ 9 ∷ 1 ∷ 1 ∷ 7 ∷ 1 ∷ 35 ∷ 1 ∷ 1 ∷ 11 ∷ 1 ∷ 42 ∷ 1 ∷ 1 ∷ 1 ∷ []

abbrev wrong : List ℕ
wrong = 0 ∷ 3 ∷ 7 ∷ 1 ∷ 0 ∷ 0 ∷ 18 ∷ 7 ∷ 3 ∷ 0 ∷ 1 ∷ 41 ∷ 1 ∷ 1 ∷ 1 ∷ 0 ∷ 6 ∷ 5 ∷ 3 ∷ 1 ∷ 0 ∷ 6 ∷ 3 ∷ 3 ∷ 3 ∷ 0 ∷ 9 ∷ 1 ∷ 1 ∷ 4 ∷ 1 ∷ 35 ∷ 1 ∷ 1 ∷ 5 ∷ 1 ∷ 43 ∷ 1 ∷ 1 ∷ 4 ∷ 0 ∷ 9 ∷ 1 ∷ 1 ∷ 4 ∷ 1 ∷ 35 ∷ 1 ∷ 1 ∷ 8 ∷ 1 ∷ 45 ∷ 1 ∷ 1 ∷ 3 ∷ 0 ∷ 9 ∷ 1 ∷ 1 ∷ 3 ∷ 1 ∷ 35 ∷ 1 ∷ 1 ∷ 11 ∷ 1 ∷ 42 ∷ 1 ∷ 1 ∷ 1 ∷ []

not_held : HoldsTree (tokens_of numbers) its_brackets (wrote 14 right 0 []) 1 sum_first → ⊥
unfolding its_brackets rows_under place ◌⧺◌
not_held h = let n : ◌≡◌ {A = ℕ} 9 6 = ap (λ (l : List ℕ). get_or l 16 0) h.rows_are in omega arith

-- the table gives the brackets a tree, and their DtExpr holds the other
another_tree : Judged (tokens_of numbers) its_brackets (wrote 14 wrong 0 []) 1 → ⊥
unfolding its_brackets rows_under place ◌⧺◌
another_tree j = let n : ◌≡◌ {A = ℕ} 6 9 = ap (λ (l : List ℕ). get_or l 16 0) (j.tree _ its_tree).1.rows_are in omega arith

-- ---------------------------------------------------------------- reports

-- of `(1+2*3)` the marks 1 to 6 are between, in a row that was written
at_the_bracket : Between (tokens_of numbers) its_brackets (wrote 14 right 1 (marked 0)) 0 → ⊥
unfolding its_brackets
at_the_bracket b = omega (arith, b.above)

after_the_partner : Between (tokens_of numbers) its_brackets (wrote 14 right 1 (marked 7)) 0 → ⊥
unfolding its_brackets
after_the_partner b = omega (arith, b.at_most)

not_written : Between (tokens_of numbers) its_brackets (wrote 14 right 0 (marked 3)) 0 → ⊥
not_written b = omega (arith, b.written)

-- a report on a sound cell, though it holds the right tree
reported : Judged (tokens_of numbers) its_brackets (wrote 14 right 1 (marked 6)) 1 → ⊥
unfolding its_brackets
reported j = (j.tree _ its_tree).0 0 (record { written = omega arith; above = omega arith; at_most = omega arith })

-- `(1+)` without a report, and with one on what stands before it
silent : Judged (tokens_of short_numbers) short_brackets (wrote 0 [] 0 []) 1 → ⊥
silent j = omega (arith, (j.no_tree no_tree).1.written)

too_early : Judged (tokens_of short_numbers) short_brackets (wrote 0 [] 1 (marked 0)) 1 → ⊥
unfolding short_brackets
too_early j = go (j.no_tree no_tree).0 (j.no_tree no_tree).1 where
  go : (q : ℕ) → Between (tokens_of short_numbers) short_brackets (wrote 0 [] 1 (marked 0)) q → ⊥
  go zero b = omega (arith, b.above)
  go (suc q) b = omega (arith, b.written)

-- ---------------------------------------------------------------- the strict setting

-- of `(1+2)&1b` it is not true that nothing is reported, nor that the mark is that of `&`
nothing_reported : strict_parsed.answer.report_count ≡ 0 → ⊥
nothing_reported h = omega (arith, h, its_row_8.0)

marked_at_ampersand : mark_in 0 strict_parsed.buffers.reports ≡ 5 → ⊥
marked_at_ampersand h = omega (arith, h, its_mark)

-- a row of message 8 is a report row as any other: one that has its mark at the RParen refutes a sound cell
abbrev name_row : ℕ → List ℕ
name_row m = 8 ∷ 6 ∷ 8 ∷ m ∷ 0 ∷ 0 ∷ 0 ∷ 0 ∷ 0 ∷ []

name_inside : Judged (tokens_of strict_numbers) strict_brackets (wrote 0 [] 1 (name_row 4)) 1 → ⊥
unfolding strict_brackets
name_inside j = (j.tree _ strict_tree).0 0 (record { written = omega arith; above = omega arith; at_most = omega arith })

-- and one beside a malformed cell does not stand for the report that the cell needs
name_beside : Judged (tokens_of short_numbers) short_brackets (wrote 0 [] 1 (name_row 4)) 1 → ⊥
unfolding short_brackets
name_beside j = go (j.no_tree no_tree).0 (j.no_tree no_tree).1 where
  go : (q : ℕ) → Between (tokens_of short_numbers) short_brackets (wrote 0 [] 1 (name_row 4)) q → ⊥
  go zero b = omega (arith, b.at_most)
  go (suc q) b = omega (arith, b.written)

-- ---------------------------------------------------------------- cells

-- a DtExpr whose first child is not its bracket
bracket_lost : StartsCell (tokens_of numbers) 1 (wrote 3 (0 ∷ 3 ∷ 1 ∷ 1 ∷ 0 ∷ 0 ∷ 18 ∷ 1 ∷ 1 ∷ 0 ∷ 1 ∷ 35 ∷ 1 ∷ 1 ∷ 1 ∷ []) 0 []) → ⊥
bracket_lost s = let n : K.Number ≡ K.LParen = ap (λ (l : List ℕ). get_or l 1 0) s.row in omega arith

-- the right rows, where the token at their place is not a bracket
first_kind : List Token → ℕ
first_kind [] = 0
first_kind (t ∷ ts) = t.kind

another_token : StartsCell (token K.Number ∷ []) 1 (wrote 14 right 0 []) → ⊥
unfolding first_kind tokens_before
another_token s = let n : K.Number ≡ s.bracket.kind = ap first_kind s.token_is in omega (arith, s.kind_is)
