-- The premises of `CTable` can be met, in both settings, with a tree and without one: accepted calls with a DtExpr and
-- the RParen that balances its LParen. A statement that leaves one of these cells or the strict setting out, or has
-- lost a conclusion named here, is refused by this file.
use Prim.Native.Nat.{ℕ}
use native.Mathlib.Omega.{arith}
use mathlib.Core.Path.{◌≡◌, refl}
use mathlib.Core.Bool.{false}
use mathlib.Core.List.{List, [], ◌∷◌}
use lib.ListN.{replicate, take}
use Rattle.definitions.specs.TokenKind as K
use Rattle.definitions.specs.Token.{Token, tokens_of, one_of}
use Rattle.definitions.specs.C.{symbols, Expr, literal, bracketed, binary, Gives, line_in}
use Rattle.definitions.specs.Call.{Buffers, Result, call}
use Rattle.precedence.specs.Precedence.{tokens_before, mark_in, DtExprAt, StartsCell, Brackets, Between, HoldsTree, Judged}
use Rattle.precedence.proofs.Theorem.{c_table, one_tree}

-- a token of one byte
abbrev pub token : ℕ → Token
token k = record { kind = k; len = 1 }

-- buffers with room enough
abbrev pub lent : Buffers
lent = let l : List ℕ = replicate 99 7 in record { events = l; trees = l; errors = l; reports = l; pool = l }

abbrev pub one : Expr
one = literal K.Number

-- ---------------------------------------------------------------- a cell with a tree

-- entry 4, `(1+2*3)`
abbrev pub numbers : List ℕ
numbers = 41 ∷ 1 ∷ 35 ∷ 1 ∷ 43 ∷ 1 ∷ 35 ∷ 1 ∷ 45 ∷ 1 ∷ 35 ∷ 1 ∷ 42 ∷ 1 ∷ []

abbrev pub parsed : Result
parsed = call 4 0 (40 ∷ 49 ∷ 43 ∷ 50 ∷ 42 ∷ 51 ∷ 41 ∷ []) numbers lent

unfoldable pub its_brackets : Brackets (tokens_of numbers)
unfolding tokens_of symbols
its_brackets =
    record {
      before = [];
      opening = token K.LParen;
      inner = token K.Number ∷ token K.Plus ∷ token K.Number ∷ token K.Asterisk ∷ token K.Number ∷ [];
      closing = token K.RParen;
      after = [];
      tokens_are = refl;
      opens = refl;
      closes = refl;
      balanced = refl;
    }

its_row : DtExprAt 1 parsed
unfolding call
its_row = record { written = omega arith; width = 7; count = 3; parent = 0; row = refl }

-- product before sum
pub its_tree : Gives (symbols false its_brackets.inner) (binary one K.Plus (binary one K.Asterisk one))
unfolding its_brackets symbols line_in
its_tree = record { well_formed = (omega arith, refl, (omega arith, refl, refl, omega arith, omega arith), omega arith, omega arith); symbols_are = refl }

its_judgement : StartsCell (tokens_of numbers) 1 parsed × Judged (tokens_of numbers) its_brackets parsed 1
unfolding call its_brackets tokens_before
its_judgement = let c = c_table 4 0 (40 ∷ 49 ∷ 43 ∷ 50 ∷ 42 ∷ 51 ∷ 41 ∷ []) numbers lent refl 1 its_row in (c.0, c.1 its_brackets refl)

-- no report, and the tree
its_answer : ((q : ℕ) → Between (tokens_of numbers) its_brackets parsed q → ⊥) × HoldsTree (tokens_of numbers) its_brackets parsed 1 (binary one K.Plus (binary one K.Asterisk one))
its_answer = its_judgement.1.tree _ its_tree

-- and no other tree is given
no_other : (e : Expr) → Gives (symbols false its_brackets.inner) e → binary one K.Plus (binary one K.Asterisk one) ≡ e
no_other e g = one_tree _ _ e its_tree g

-- ---------------------------------------------------------------- a cell inside a file, with brackets inside

-- entry 1, `a=<((1))>;`
abbrev file_numbers : List ℕ
file_numbers = 27 ∷ 1 ∷ 28 ∷ 1 ∷ 39 ∷ 1 ∷ 41 ∷ 1 ∷ 41 ∷ 1 ∷ 35 ∷ 1 ∷ 42 ∷ 1 ∷ 42 ∷ 1 ∷ 40 ∷ 1 ∷ 29 ∷ 1 ∷ []

abbrev file_input : List ℕ
file_input = 97 ∷ 61 ∷ 60 ∷ 40 ∷ 40 ∷ 49 ∷ 41 ∷ 41 ∷ 62 ∷ 59 ∷ []

inside_a_file : Brackets (tokens_of file_numbers)
unfolding tokens_of symbols
inside_a_file =
    record {
      before = token K.Ident ∷ token K.Equals ∷ token K.LAngle ∷ [];
      opening = token K.LParen;
      inner = token K.LParen ∷ token K.Number ∷ token K.RParen ∷ [];
      closing = token K.RParen;
      after = token K.RAngle ∷ token K.Semicolon ∷ [];
      tokens_are = refl;
      opens = refl;
      closes = refl;
      balanced = refl;
    }

file_judgement : Judged (tokens_of file_numbers) inside_a_file (call 1 0 file_input file_numbers lent) 7
unfolding call inside_a_file tokens_before
file_judgement = (c_table 1 0 file_input file_numbers lent refl 7 (record { written = omega arith; width = 5; count = 3; parent = 5; row = refl })).1 inside_a_file refl

bracketed_one : Gives (symbols false inside_a_file.inner) (bracketed one)
unfolding inside_a_file symbols one_of
bracketed_one = record { well_formed = refl; symbols_are = refl }

file_answer : HoldsTree (tokens_of file_numbers) inside_a_file (call 1 0 file_input file_numbers lent) 7 (bracketed one)
file_answer = (file_judgement.tree _ bracketed_one).1

-- ---------------------------------------------------------------- a cell without a tree

-- entry 4, `(1+)`: a report with its mark at the RParen
abbrev pub short_numbers : List ℕ
short_numbers = 41 ∷ 1 ∷ 35 ∷ 1 ∷ 43 ∷ 1 ∷ 42 ∷ 1 ∷ []

abbrev short_parsed : Result
short_parsed = call 4 0 (40 ∷ 49 ∷ 43 ∷ 41 ∷ []) short_numbers lent

unfoldable pub short_brackets : Brackets (tokens_of short_numbers)
unfolding tokens_of symbols
short_brackets =
    record {
      before = [];
      opening = token K.LParen;
      inner = token K.Number ∷ token K.Plus ∷ [];
      closing = token K.RParen;
      after = [];
      tokens_are = refl;
      opens = refl;
      closes = refl;
      balanced = refl;
    }

short_judgement : Judged (tokens_of short_numbers) short_brackets short_parsed 1
unfolding call short_brackets tokens_before
short_judgement = (c_table 4 0 (40 ∷ 49 ∷ 43 ∷ 41 ∷ []) short_numbers lent refl 1 (record { written = omega arith; width = 4; count = 3; parent = 0; row = refl })).1 short_brackets refl

its_report : Between (tokens_of short_numbers) short_brackets short_parsed 0
unfolding call short_brackets
its_report = record { written = omega arith; above = omega arith; at_most = omega arith }

-- so C's table gives it no tree: the premise of the second half
pub no_tree : (e : Expr) → Gives (symbols false short_brackets.inner) e → ⊥
no_tree e g = (short_judgement.tree e g).0 0 its_report

some_report : (q : ℕ) × Between (tokens_of short_numbers) short_brackets short_parsed q
some_report = short_judgement.no_tree no_tree

-- ---------------------------------------------------------------- the strict setting: a sound cell beside a bad name

-- entry 4, `(1+2)&1b`
abbrev pub strict_numbers : List ℕ
strict_numbers = 41 ∷ 1 ∷ 35 ∷ 1 ∷ 43 ∷ 1 ∷ 35 ∷ 1 ∷ 42 ∷ 1 ∷ 30 ∷ 1 ∷ 35 ∷ 1 ∷ 27 ∷ 1 ∷ []

abbrev strict_input : List ℕ
strict_input = 40 ∷ 49 ∷ 43 ∷ 50 ∷ 41 ∷ 38 ∷ 49 ∷ 98 ∷ []

abbrev pub strict_parsed : Result
strict_parsed = call 4 1 strict_input strict_numbers lent

unfoldable pub strict_brackets : Brackets (tokens_of strict_numbers)
unfolding tokens_of symbols
strict_brackets =
    record {
      before = [];
      opening = token K.LParen;
      inner = token K.Number ∷ token K.Plus ∷ token K.Number ∷ [];
      closing = token K.RParen;
      after = token K.Ampersand ∷ token K.Number ∷ token K.Ident ∷ [];
      tokens_are = refl;
      opens = refl;
      closes = refl;
      balanced = refl;
    }

pub strict_tree : Gives (symbols false strict_brackets.inner) (binary one K.Plus one)
unfolding strict_brackets symbols line_in
strict_tree = record { well_formed = (omega arith, refl, refl, omega arith, omega arith); symbols_are = refl }

strict_judgement : Judged (tokens_of strict_numbers) strict_brackets strict_parsed 1
unfolding call strict_brackets tokens_before
strict_judgement = (c_table 4 1 strict_input strict_numbers lent refl 1 (record { written = omega arith; width = 5; count = 3; parent = 0; row = refl })).1 strict_brackets refl

strict_answer : ((q : ℕ) → Between (tokens_of strict_numbers) strict_brackets strict_parsed q → ⊥) × HoldsTree (tokens_of strict_numbers) strict_brackets strict_parsed 1 (binary one K.Plus one)
strict_answer = strict_judgement.tree _ strict_tree

-- and yet the name is reported: one row, message 8, over bytes 6 and 7, with the mark 6
pub its_row_8 : (strict_parsed.answer.report_count ≡ 1) × (take 9 strict_parsed.buffers.reports ≡ 8 ∷ 6 ∷ 8 ∷ 6 ∷ 0 ∷ 0 ∷ 0 ∷ 0 ∷ 0 ∷ [])
unfolding call
its_row_8 = (refl, refl)

pub its_mark : mark_in 0 strict_parsed.buffers.reports ≡ 6
unfolding call
its_mark = refl

-- the theorem of this call, whatever the setting
abbrev in_setting : ℕ → Result
in_setting setting = call 4 setting strict_input strict_numbers lent

starts_in_any : (setting p : ℕ) → (in_setting setting).answer.number ≡ 0 → DtExprAt p (in_setting setting) → StartsCell (tokens_of strict_numbers) p (in_setting setting)
starts_in_any setting p h d = (c_table 4 setting strict_input strict_numbers lent h p d).0

-- ---------------------------------------------------------------- the strict setting: a cell without a tree

-- entry 4, `&1b(1+)`: the name's row comes second, its mark before the bracket
abbrev faulty_numbers : List ℕ
faulty_numbers = 30 ∷ 1 ∷ 35 ∷ 1 ∷ 27 ∷ 1 ∷ 41 ∷ 1 ∷ 35 ∷ 1 ∷ 43 ∷ 1 ∷ 42 ∷ 1 ∷ []

abbrev faulty_input : List ℕ
faulty_input = 38 ∷ 49 ∷ 98 ∷ 40 ∷ 49 ∷ 43 ∷ 41 ∷ []

abbrev faulty_parsed : Result
faulty_parsed = call 4 1 faulty_input faulty_numbers lent

faulty_brackets : Brackets (tokens_of faulty_numbers)
unfolding tokens_of symbols
faulty_brackets =
    record {
      before = token K.Ampersand ∷ token K.Number ∷ token K.Ident ∷ [];
      opening = token K.LParen;
      inner = token K.Number ∷ token K.Plus ∷ [];
      closing = token K.RParen;
      after = [];
      tokens_are = refl;
      opens = refl;
      closes = refl;
      balanced = refl;
    }

faulty_judgement : Judged (tokens_of faulty_numbers) faulty_brackets faulty_parsed 4
unfolding call faulty_brackets tokens_before
faulty_judgement = (c_table 4 1 faulty_input faulty_numbers lent refl 4 (record { written = omega arith; width = 4; count = 3; parent = 0; row = refl })).1 faulty_brackets refl

faulty_report : (q : ℕ) × Between (tokens_of faulty_numbers) faulty_brackets faulty_parsed q
unfolding faulty_brackets short_brackets
faulty_report = faulty_judgement.no_tree no_tree

two_rows : (mark_in 0 faulty_parsed.buffers.reports ≡ 6) × (mark_in 1 faulty_parsed.buffers.reports ≡ 1)
unfolding call
two_rows = (refl, refl)
