-- The statements, computed: calls that meet the premises in both settings, with the kinds of their trees; and trees
-- that do not fit.
use Prim.Native.Nat.{ℕ, ◌*◌, ◌≤◌, ◌<◌}
use native.Mathlib.Omega.{arith}
use mathlib.Core.Path.{◌≡◌, refl, ap, sym, ◌∙◌}
use mathlib.Core.Bool.{Bool, true, false, ◌||◌, true≢false}
use mathlib.Core.List.{List, [], ◌∷◌, ◌++◌}
use lib.Dec.{eqb, lit<}
use lib.ListN.{take, replicate}
use borrow.Author.Tests.{eq-eqb}
use Rattle.definitions.specs.Layout.{TREE_ROW}
use Rattle.definitions.specs.TokenKind as K
use Rattle.definitions.specs.NodeKind as N
use Rattle.definitions.specs.Token.{Token, tokens_of}
use Rattle.definitions.specs.Call.{Buffers, Result, call}
use Rattle.laws.specs.TreeRows.{read}
use Rattle.precedence.specs.Precedence.{tokens_before, DtExprAt, Brackets}
use Rattle.brackets.specs.Brackets.{Outline, end, leaf, node, outline, tree_proper}
use Rattle.brackets.specs.Partner.{NoPartner, tokens_first, Reported}
use Rattle.laws.proofs.FactsHold.{or_left, or_right}
use Rattle.brackets.proofs.Theorem.{brackets_proper}
use Rattle.brackets.proofs.Partner.{missed}

-- ---------------------------------------------------------------- calls

-- entry, input bytes, token numbers; the kinds of the tree
record Example : Type 0 where
  entry : ℕ
  input : List ℕ
  numbers : List ℕ
  tree : Outline

example : ℕ → List ℕ → List ℕ → Outline → Example
example n i k t = record { entry = n; input = i; numbers = k; tree = t }

examples : List Example
unfolding example
examples =
    -- entry 4, `(1+2*3)`
    example 4 (40 ∷ 49 ∷ 43 ∷ 50 ∷ 42 ∷ 51 ∷ 41 ∷ []) (41 ∷ 1 ∷ 35 ∷ 1 ∷ 43 ∷ 1 ∷ 35 ∷ 1 ∷ 45 ∷ 1 ∷ 35 ∷ 1 ∷ 42 ∷ 1 ∷ [])
    (node N.EntryCells (node N.DtExpr (leaf K.LParen (node N.InfixExpr (node N.LiteralExpr (leaf K.Number end) (leaf K.Plus (node N.InfixExpr (node N.LiteralExpr (leaf K.Number end) (leaf K.Asterisk (node N.LiteralExpr (leaf K.Number end) end))) end))) (leaf K.RParen end))) end) end)
    -- entry 4, `(/**/1)`: trivia after the bracket make no difference
    ∷ example 4 (40 ∷ 47 ∷ 42 ∷ 42 ∷ 47 ∷ 49 ∷ 41 ∷ []) (41 ∷ 1 ∷ 1 ∷ 4 ∷ 35 ∷ 1 ∷ 42 ∷ 1 ∷ [])
    (node N.EntryCells (node N.DtExpr (leaf K.LParen (node N.LiteralExpr (leaf K.Number end) (leaf K.RParen end))) end) end)
    -- entry 1, `a=<(1)>;`
    ∷ example 1 (97 ∷ 61 ∷ 60 ∷ 40 ∷ 49 ∷ 41 ∷ 62 ∷ 59 ∷ []) (27 ∷ 1 ∷ 28 ∷ 1 ∷ 39 ∷ 1 ∷ 41 ∷ 1 ∷ 35 ∷ 1 ∷ 42 ∷ 1 ∷ 40 ∷ 1 ∷ 29 ∷ 1 ∷ [])
    (node N.SourceFile (node N.DtProperty (leaf K.Name (leaf K.Equals (node N.PropValueList (node N.DtCellList (leaf K.LAngle (node N.DtExpr (leaf K.LParen (node N.LiteralExpr (leaf K.Number end) (leaf K.RParen end))) (leaf K.RAngle end))) end) (leaf K.Semicolon end)))) end) end)
    -- entry 1, `a=<(1;`: a list that is cut off is a ParseError
    ∷ example 1 (97 ∷ 61 ∷ 60 ∷ 40 ∷ 49 ∷ 59 ∷ []) (27 ∷ 1 ∷ 28 ∷ 1 ∷ 39 ∷ 1 ∷ 41 ∷ 1 ∷ 35 ∷ 1 ∷ 29 ∷ 1 ∷ [])
    (node N.SourceFile (node N.ParseError (leaf K.Name (leaf K.Equals (node N.PropValueList (node N.ParseError (leaf K.LAngle (node N.DtExpr (leaf K.LParen (node N.LiteralExpr (leaf K.Number end) end)) end)) end) end))) (node N.ParseError (leaf K.Semicolon end) end)) end)
    -- entry 4, `(1`: no RParen balances
    ∷ example 4 (40 ∷ 49 ∷ []) (41 ∷ 1 ∷ 35 ∷ 1 ∷ [])
    (node N.EntryCells (node N.DtExpr (leaf K.LParen (node N.LiteralExpr (leaf K.Number end) end)) end) end)
    -- entry 4, `#if (1) #endif` without the blanks: a cell in a branch
    ∷ example 4 (35 ∷ 105 ∷ 102 ∷ 40 ∷ 49 ∷ 41 ∷ 35 ∷ 101 ∷ 110 ∷ 100 ∷ 105 ∷ 102 ∷ []) (4 ∷ 3 ∷ 41 ∷ 1 ∷ 35 ∷ 1 ∷ 42 ∷ 1 ∷ 11 ∷ 6 ∷ [])
    (node N.EntryCells (node N.PreprocessorConditional (leaf K.IfDirective (node N.PreprocessorBranch (node N.DtExpr (leaf K.LParen (node N.LiteralExpr (leaf K.Number end) (leaf K.RParen end))) end) (leaf K.EndifDirective end))) end) end)
    -- entry 2, `f(())`: a call of a macro, and a bracket in its argument
    ∷ example 2 (102 ∷ 40 ∷ 40 ∷ 41 ∷ 41 ∷ []) (27 ∷ 1 ∷ 41 ∷ 1 ∷ 41 ∷ 1 ∷ 42 ∷ 1 ∷ 42 ∷ 1 ∷ [])
    (node N.DtPhandle (node N.MacroInvocation (leaf K.Ident (leaf K.LParen (node N.MacroArgument (leaf K.LParen (leaf K.RParen end)) (leaf K.RParen end)))) end) end)
    -- entry 2, `a ((`: what is left over
    ∷ example 2 (97 ∷ 32 ∷ 40 ∷ 40 ∷ []) (27 ∷ 1 ∷ 0 ∷ 1 ∷ 41 ∷ 1 ∷ 41 ∷ 1 ∷ [])
    (node N.DtPhandle (leaf K.Name (node N.ParseError (leaf K.LParen (leaf K.LParen end)) end)) end)
    -- entry 1, `(` is not a statement
    ∷ example 1 (40 ∷ []) (41 ∷ 1 ∷ [])
    (node N.SourceFile (node N.ParseError (leaf K.LParen end) end) end)
    -- entry 1, `a=/bits/8(;`: the bracket is the last child of a ParseError
    ∷ example 1 (97 ∷ 61 ∷ 47 ∷ 98 ∷ 105 ∷ 116 ∷ 115 ∷ 47 ∷ 56 ∷ 40 ∷ 59 ∷ []) (27 ∷ 1 ∷ 28 ∷ 1 ∷ 17 ∷ 6 ∷ 35 ∷ 1 ∷ 41 ∷ 1 ∷ 29 ∷ 1 ∷ [])
    (node N.SourceFile (node N.DtProperty (leaf K.Name (leaf K.Equals (node N.PropValueList (node N.ParseError (node N.DtsDirective (leaf K.BitsDirective (leaf K.Number end)) (leaf K.LParen end)) end) (leaf K.Semicolon end)))) end) end)
    -- entry 1, `/{1a:b=<(1)>;};` and `a=<(1)&1b>;`: names that the strict setting reports leave the tree as it is
    ∷ example 1 (47 ∷ 123 ∷ 49 ∷ 97 ∷ 58 ∷ 98 ∷ 61 ∷ 60 ∷ 40 ∷ 49 ∷ 41 ∷ 62 ∷ 59 ∷ 125 ∷ 59 ∷ []) (46 ∷ 1 ∷ 37 ∷ 1 ∷ 35 ∷ 1 ∷ 27 ∷ 1 ∷ 31 ∷ 1 ∷ 27 ∷ 1 ∷ 28 ∷ 1 ∷ 39 ∷ 1 ∷ 41 ∷ 1 ∷ 35 ∷ 1 ∷ 42 ∷ 1 ∷ 40 ∷ 1 ∷ 29 ∷ 1 ∷ 38 ∷ 1 ∷ 29 ∷ 1 ∷ [])
    (node N.SourceFile (node N.DtNode (leaf K.Slash (leaf K.LCurly (node N.DtProperty (node N.DtLabel (leaf K.Name (leaf K.Colon end)) (leaf K.Name (leaf K.Equals (node N.PropValueList (node N.DtCellList (leaf K.LAngle (node N.DtExpr (leaf K.LParen (node N.LiteralExpr (leaf K.Number end) (leaf K.RParen end))) (leaf K.RAngle end))) end) (leaf K.Semicolon end))))) (leaf K.RCurly (leaf K.Semicolon end))))) end) end)
    ∷ example 1 (97 ∷ 61 ∷ 60 ∷ 40 ∷ 49 ∷ 41 ∷ 38 ∷ 49 ∷ 98 ∷ 62 ∷ 59 ∷ []) (27 ∷ 1 ∷ 28 ∷ 1 ∷ 39 ∷ 1 ∷ 41 ∷ 1 ∷ 35 ∷ 1 ∷ 42 ∷ 1 ∷ 30 ∷ 1 ∷ 35 ∷ 1 ∷ 27 ∷ 1 ∷ 40 ∷ 1 ∷ 29 ∷ 1 ∷ [])
    (node N.SourceFile (node N.DtProperty (leaf K.Name (leaf K.Equals (node N.PropValueList (node N.DtCellList (leaf K.LAngle (node N.DtExpr (leaf K.LParen (node N.LiteralExpr (leaf K.Number end) (leaf K.RParen end))) (node N.DtPhandle (leaf K.Ampersand (leaf K.Name end)) (leaf K.RAngle end)))) end) (leaf K.Semicolon end)))) end) end)
    ∷ []

-- buffers with room enough
lent : Buffers
lent = record { events = replicate 400 7; trees = replicate 200 7; errors = replicate 9 7; reports = replicate 90 7; pool = replicate 200 7 }

-- what a call says of its tree
record Seen : Type 0 where
  number : ℕ
  tree : Outline
  fits : Bool

seen_of : Result → Seen
unfolding outline read tree_proper
seen_of r = let t = outline (read (take (TREE_ROW * r.answer.tree_count) r.buffers.trees)) in record { number = r.answer.number; tree = t; fits = tree_proper t }

called : List Example → List Seen
unfolding seen_of call lent
called [] = []
called (x ∷ l) = seen_of (call x.entry 0 x.input x.numbers lent) ∷ seen_of (call x.entry 1 x.input x.numbers lent) ∷ called l

wanted : List Example → List Seen
wanted [] = []
wanted (x ∷ l) = let one : Seen = record { number = 0; tree = x.tree; fits = true } in one ∷ one ∷ wanted l

-- EACH IS ACCEPTED in both settings, has this tree, and the tree fits
examples_hold : called examples ≡ wanted examples
unfolding called wanted examples
examples_hold = refl

-- ---------------------------------------------------------------- trees that do not fit

abbrev only : ℕ → Outline → Outline
only k c = node k c end

abbrev number : Outline → Outline
number f = node N.LiteralExpr (leaf K.Number end) f

-- `a=<..>;`
abbrev listed : (Outline → Outline) → Outline
listed c = only N.SourceFile (only N.DtProperty (leaf K.Name (leaf K.Equals (node N.PropValueList (only N.DtCellList (leaf K.LAngle (c (leaf K.RAngle end)))) (leaf K.Semicolon end)))))

-- a cell in entry 4
abbrev cell : Outline → Outline
cell c = only N.EntryCells (only N.DtExpr (leaf K.LParen c))

-- `#if .. #endif`
abbrev branched : Outline → Outline
branched c = only N.PreprocessorConditional (leaf K.IfDirective (node N.PreprocessorBranch c (leaf K.EndifDirective end)))

wrong : List Outline
wrong =
    -- a bare LParen in a list of cells; a cell that is a ParenExpr, or a ParseError; an LParen that is a DtExpr's first
    -- leaf, but not its child
    listed (λ f. leaf K.LParen (leaf K.Number (leaf K.RParen f)))
    ∷ listed (λ f. node N.ParenExpr (leaf K.LParen (number (leaf K.RParen end))) f)
    ∷ listed (λ f. node N.ParseError (leaf K.LParen end) f)
    ∷ listed (λ f. node N.DtExpr (only N.ParenExpr (leaf K.LParen (number (leaf K.RParen end)))) f)
    -- a bare LParen at the end of a list that was cut off; in a branch of a conditional in a list
    ∷ only N.SourceFile (only N.ParseError (leaf K.Name (leaf K.Equals (only N.PropValueList (only N.ParseError (leaf K.LAngle (leaf K.Number (leaf K.LParen end))))))))
    ∷ only N.EntryCells (branched (leaf K.LParen (leaf K.Number (leaf K.RParen end))))
    -- in a branch: a cell that is a ParenExpr; a bare LParen at the end of a list that was cut off
    ∷ only N.EntryCells (branched (only N.ParenExpr (leaf K.LParen (number (leaf K.RParen end)))))
    ∷ only N.EntryPropValues (branched (only N.ParseError (leaf K.LAngle (leaf K.LParen end))))
    -- an LParen in an InfixExpr; twice in a DtExpr; in a ParseError in a DtExpr, at two depths
    ∷ cell (node N.InfixExpr (leaf K.LParen (number (leaf K.Plus (number end)))) (leaf K.RParen end))
    ∷ cell (leaf K.LParen (leaf K.RParen end))
    ∷ cell (node N.ParseError (leaf K.LParen end) (leaf K.RParen end))
    ∷ cell (node N.ParenExpr (leaf K.LParen (only N.ParseError (leaf K.LParen end))) (leaf K.RParen end))
    -- a MacroInvocation without its Ident, and one with its LParen after an argument
    ∷ only N.DtPhandle (only N.MacroInvocation (leaf K.LParen (leaf K.RParen end)))
    ∷ only N.DtPhandle (only N.MacroInvocation (leaf K.Ident (node N.MacroArgument end (leaf K.LParen end))))
    -- an LParen that is neither the last child of a ParseError nor left over: in a source file, and where something
    -- follows
    ∷ only N.SourceFile (only N.ParseError (leaf K.LParen (leaf K.Number end)))
    ∷ only N.DtPhandle (node N.ParseError (leaf K.LParen (leaf K.Number end)) (leaf K.Number end))
    -- cells that left over an LParen; an LParen straight under the root
    ∷ only N.EntryCells (only N.ParseError (leaf K.LParen end))
    ∷ only N.SourceFile (leaf K.LParen end)
    ∷ []

all_fit : List Outline → List Bool
unfolding tree_proper
all_fit [] = []
all_fit (t ∷ l) = tree_proper t ∷ all_fit l

-- NONE OF THEM FITS
wrong_refused : all_fit wrong ≡ replicate 18 false
unfolding all_fit wrong
wrong_refused = refl

-- nor do the rows of a parser for which a `(` followed by a block comment is a leaf of the list, of `(/**/1)` in entry
-- 4
bare_leaf : tree_proper (outline (read (0 ∷ 3 ∷ 7 ∷ 4 ∷ 0 ∷ 1 ∷ 41 ∷ 1 ∷ 1 ∷ 0 ∷ 1 ∷ 1 ∷ 4 ∷ 1 ∷ 0 ∷ 1 ∷ 35 ∷ 1 ∷ 1 ∷ 0 ∷ 1 ∷ 42 ∷ 1 ∷ 1 ∷ 0 ∷ []))) ≡ false
unfolding tree_proper outline read
bare_leaf = refl

-- ---------------------------------------------------------------- a bracket without a partner

-- entry 4, `(1`
abbrev open_numbers : List ℕ
open_numbers = 41 ∷ 1 ∷ 35 ∷ 1 ∷ []

open_call : Result
unfolding call lent
open_call = call 4 0 (40 ∷ 49 ∷ []) open_numbers lent

accepted : open_call.answer.number ≡ 0
unfolding open_call
accepted = refl

-- row 1 is a DtExpr
is_cell : DtExprAt 1 open_call
unfolding open_call
is_cell = record { written = lit< tt; width = 2; count = 2; parent = 0; row = refl }

-- an RParen is among the tokens
closed_in : List Token → Bool
closed_in [] = false
closed_in (t ∷ ts) = eqb t.kind K.RParen || closed_in ts

closed_after : (xs : List Token) (t : Token) (ts : List Token) → t.kind ≡ K.RParen → closed_in (xs ++ (t ∷ ts)) ≡ true
unfolding closed_in
closed_after [] t ts e = or_left _ _ (eq-eqb t.kind K.RParen e)
closed_after (x ∷ xs) t ts e = or_right (eqb x.kind K.RParen) _ (closed_after xs t ts e)

closed_late : (xs ys : List Token) → closed_in ys ≡ true → closed_in (xs ++ ys) ≡ true
unfolding closed_in
closed_late [] ys e = e
closed_late (x ∷ xs) ys e = or_right (eqb x.kind K.RParen) _ (closed_late xs ys e)

-- where none is, no RParen balances an LParen
none_closes : (ts : List Token) → closed_in ts ≡ false → Brackets ts → ⊥
unfolding closed_in
none_closes ts e b =
    let after-opening = b.inner ++ (b.closing ∷ b.after) in
    true≢false
    (sym (ap closed_in b.tokens_are ∙ closed_late b.before (b.opening ∷ after-opening) (or_right (eqb b.opening.kind K.RParen) _ (closed_after b.inner b.closing b.after b.closes)))
    ∙ e)

no_partner : NoPartner (tokens_of open_numbers) 1 open_call
unfolding closed_in tokens_of
no_partner b i = none_closes (tokens_of open_numbers) refl b

-- THE PREMISES ARE MET, and report row 0 is the one
met : Reported 1 open_call 0
unfolding open_call tokens_before tokens_first read
met = record { written = lit< tt; above = lit< tt; at_most = omega arith }

met_by_theorem : (q : ℕ) × Reported 1 open_call q
unfolding open_call
met_by_theorem = missed 4 0 (40 ∷ 49 ∷ []) open_numbers lent accepted 1 is_cell no_partner

-- a call that says nothing, one whose report has its mark at the LParen's index, and one whose report lies after the
-- cell, do not answer it
abbrev with_reports : ℕ → List ℕ → Result
with_reports n l =
    record {
      answer = record { number = 0; place = 0; tree_count = 4; error_count = 0; report_count = n; expectation_count = 0 };
      buffers = record { events = []; trees = open_call.buffers.trees; errors = []; reports = l; pool = [] };
    }

silent_refused : (q : ℕ) → Reported 1 (with_reports 0 []) q → ⊥
silent_refused q h = omega (arith, h.written)

early_refused : Reported 1 (with_reports 1 (1 ∷ 0 ∷ 1 ∷ 0 ∷ 0 ∷ 0 ∷ 0 ∷ 0 ∷ 0 ∷ [])) 0 → ⊥
unfolding open_call tokens_before
early_refused h = let z : 0 < 0 = h.above in omega arith

late_refused : Reported 1 (with_reports 1 (1 ∷ 0 ∷ 1 ∷ 3 ∷ 0 ∷ 0 ∷ 0 ∷ 0 ∷ 0 ∷ [])) 0 → ⊥
unfolding open_call tokens_before tokens_first read
late_refused h = let z : 3 ≤ 2 = h.at_most in omega arith

-- ---------------------------------------------------------------- the same in the strict setting

-- entry 4, `&1b(1`: the cell's report comes first, and the name's second
abbrev strict_numbers : List ℕ
strict_numbers = 30 ∷ 1 ∷ 35 ∷ 1 ∷ 27 ∷ 1 ∷ 41 ∷ 1 ∷ 35 ∷ 1 ∷ []

strict_call : Result
unfolding call lent
strict_call = call 4 1 (38 ∷ 49 ∷ 98 ∷ 40 ∷ 49 ∷ []) strict_numbers lent

strict_met : Reported 4 strict_call 0
unfolding strict_call tokens_before tokens_first read
strict_met = record { written = lit< tt; above = lit< tt; at_most = omega arith }

strict_by_theorem : (q : ℕ) × Reported 4 strict_call q
unfolding strict_call closed_in tokens_of
strict_by_theorem =
    missed 4 1 (38 ∷ 49 ∷ 98 ∷ 40 ∷ 49 ∷ []) strict_numbers lent refl 4 (record { written = lit< tt; width = 2; count = 2; parent = 0; row = refl })
    (λ b i. none_closes (tokens_of strict_numbers) refl b)

-- the other theorem, of this call in any setting
abbrev in_setting : ℕ → Result
in_setting setting = call 4 setting (38 ∷ 49 ∷ 98 ∷ 40 ∷ 49 ∷ []) strict_numbers lent

proper_in_any : (setting : ℕ) → (in_setting setting).answer.number ≡ 0
    → tree_proper (outline (read (take (TREE_ROW * (in_setting setting).answer.tree_count) (in_setting setting).buffers.trees))) ≡ true
proper_in_any setting = brackets_proper 4 setting (38 ∷ 49 ∷ 98 ∷ 40 ∷ 49 ∷ []) strict_numbers lent

-- there are two report rows, and the name's is not one that answers
two_rows : strict_call.answer.report_count ≡ 2
unfolding strict_call
two_rows = refl

name_refused : Reported 4 strict_call 1 → ⊥
unfolding strict_call tokens_before
name_refused h = let z : 3 < 1 = h.above in omega arith
