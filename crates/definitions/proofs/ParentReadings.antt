-- Readings of document 02, 7/14: the fifth numbers of the rows of some trees, worked out by hand, one table and one
-- proof over it; and how many numbers a tree needs. Document 01's readings have them too (Readings).
use Prim.Native.Nat.{ℕ}
use mathlib.Core.Path.{◌≡◌, refl}
use mathlib.Core.List.{List, [], ◌∷◌}
use lib.ListN.{replicate}
use Rattle.definitions.specs.TokenKind as K
use Rattle.definitions.specs.Token.{Token}
use Rattle.definitions.specs.Grammar.{Entry, SourceFile, ReferenceNoamp, Cells, root_kind}
use Rattle.definitions.specs.Place.{root}
use Rattle.definitions.specs.Parent.{rows_under, rows}
use Rattle.definitions.specs.Call.{Answer, run_entry, call}

-- entry and kinds, each token of one byte; the parents in order, the root's own number first
pub record ParentReading : Type 0 where
  pub entry : Entry
  pub kinds : List ℕ
  pub parents : List ℕ

abbrev pub parents_are : Entry → List ℕ → List ℕ → ParentReading
parents_are e k l = record { entry = e; kinds = k; parents = l }

abbrev pub parent_readings : List ParentReading
parent_readings =
    -- "the root names itself", and in an empty file it is the only row
    parents_are SourceFile [] (0 ∷ [])
    -- `a;`: the property is row 1, and its two leaves name it
    ∷ parents_are SourceFile (K.Ident ∷ K.Semicolon ∷ []) (0 ∷ 0 ∷ 1 ∷ 1 ∷ [])
    -- a Name of five raw tokens is one row: rows are counted, and not tokens
    ∷ parents_are SourceFile (K.Ident ∷ K.Comma ∷ K.Ident ∷ K.Minus ∷ K.Ident ∷ K.Semicolon ∷ []) (0 ∷ 0 ∷ 1 ∷ 1 ∷ [])
    -- `a; b;`: the space and the second property are the root's, whatever row is before them
    ∷ parents_are SourceFile (K.Ident ∷ K.Semicolon ∷ K.Whitespace ∷ K.Ident ∷ K.Semicolon ∷ []) (0 ∷ 0 ∷ 1 ∷ 1 ∷ 0 ∷ 0 ∷ 5 ∷ 5 ∷ [])
    -- `/{b{c;};};`: the node b is row 4, its property row 7; after the property the rows are b's again, and after b's
    -- semicolon the outer node's
    ∷ parents_are SourceFile
    (K.Slash ∷ K.LCurly ∷ K.Ident ∷ K.LCurly ∷ K.Ident ∷ K.Semicolon ∷ K.RCurly ∷ K.Semicolon ∷ K.RCurly ∷ K.Semicolon ∷ [])
    (0 ∷ 0 ∷ 1 ∷ 1 ∷ 1 ∷ 4 ∷ 4 ∷ 4 ∷ 7 ∷ 7 ∷ 4 ∷ 4 ∷ 1 ∷ 1 ∷ [])
    -- cells `(1-2-3)`: nodes that start together, outermost first; the inner minus (row 4) is under the outer one
    -- (row 3)
    ∷ parents_are Cells (K.LParen ∷ K.Number ∷ K.Minus ∷ K.Number ∷ K.Minus ∷ K.Number ∷ K.RParen ∷ [])
    (0 ∷ 0 ∷ 1 ∷ 1 ∷ 3 ∷ 4 ∷ 5 ∷ 4 ∷ 4 ∷ 8 ∷ 3 ∷ 3 ∷ 11 ∷ 1 ∷ [])
    -- a node without a token, after `/delete-node/`, has a parent as any other
    ∷ parents_are SourceFile (K.DeleteNodeDirective ∷ []) (0 ∷ 0 ∷ 1 ∷ 1 ∷ [])
    -- an error: `}` is in a ParseError under the root
    ∷ parents_are SourceFile (K.RCurly ∷ []) (0 ∷ 0 ∷ 1 ∷ [])
    -- every entry has a root: a reference's Name is directly under it
    ∷ parents_are ReferenceNoamp (K.Ident ∷ []) (0 ∷ 0 ∷ [])
    ∷ []

-- the fifth of every five numbers
abbrev pub fifths : List ℕ → List ℕ
fifths [] = []
fifths (c ∷ []) = []
fifths (c ∷ k ∷ []) = []
fifths (c ∷ k ∷ w ∷ []) = []
fifths (c ∷ k ∷ w ∷ n ∷ []) = []
fifths (c ∷ k ∷ w ∷ n ∷ p ∷ l) = p ∷ fifths l

abbrev pub of_one_byte : List ℕ → List Token
of_one_byte [] = []
of_one_byte (k ∷ l) = record { kind = k; len = 1 } ∷ of_one_byte l

unfoldable pub parents_read : List ParentReading → List (List ℕ)
unfolding rows_under root root_kind run_entry
parents_read [] = []
parents_read (r ∷ l) =
    let ts : List Token = of_one_byte r.kinds in
    fifths (rows (root (root_kind r.entry) (run_entry r.entry ts) ts)) ∷ parents_read l

unfoldable pub parents_wanted : List ParentReading → List (List ℕ)
parents_wanted [] = []
parents_wanted (r ∷ l) = r.parents ∷ parents_wanted l

pub parent_readings_hold : parents_read parent_readings ≡ parents_wanted parent_readings
unfolding parents_read parents_wanted
parent_readings_hold = refl

-- ---------------------------------------------------------------- how much room

-- `a;` with so many tree numbers
abbrev pub answer_in : ℕ → Answer
answer_in n =
    (call 1 0 (97 ∷ 59 ∷ []) (27 ∷ 1 ∷ 29 ∷ 1 ∷ []) (record { events = replicate 60 7; trees = replicate n 7; errors = []; reports = []; pool = [] })).answer

-- four rows of five numbers are 20; one number fewer is refusal 8, and so are 16, which were enough before
pub needs_twenty : ((answer_in 20).number ≡ 0) × ((answer_in 20).tree_count ≡ 4) × ((answer_in 19).number ≡ 8) × ((answer_in 16).number ≡ 8)
unfolding call
needs_twenty = (refl, refl, refl, refl)
