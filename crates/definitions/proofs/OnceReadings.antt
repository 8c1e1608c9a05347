-- Readings of document 02, 6/14: one table, and one proof over it. The lists of a run's reports, worked out by hand from
-- grammar.rs, and then whole answers where a list's length decides.
use Prim.Native.Nat.{ℕ}
use mathlib.Core.Path.{◌≡◌, refl}
use mathlib.Core.List.{List, [], ◌∷◌}
use Rattle.definitions.specs.TokenKind as K
use Rattle.definitions.specs.Errors as E
use Rattle.definitions.specs.Token.{Token}
use Rattle.definitions.specs.Skeleton.{Report}
use Rattle.definitions.specs.Grammar.{Entry, SourceFile, Cells}
use Rattle.definitions.specs.Report.{pushes, reports}
use Rattle.definitions.specs.Call.{run_entry}

-- entry and kinds, each token of one byte; the expectations of each report
pub record OnceReading : Type 0 where
  pub entry : Entry
  pub kinds : List ℕ
  pub lists : List (List ℕ)

abbrev pub lists_of : Entry → List ℕ → List (List ℕ) → OnceReading
lists_of e k l = record { entry = e; kinds = k; lists = l }

abbrev pub once_readings : List OnceReading
once_readings =
    -- `#else` is message 5, and the branch without an end expects `#endif` twice: "isn't pushed again"
    lists_of SourceFile (K.ElseDirective ∷ []) ([] ∷ (K.EndifDirective ∷ []) ∷ [])
    -- of two `#if` the inner one expects its `#endif` first, and the outer one finds it pending
    ∷ lists_of SourceFile (K.IfDirective ∷ K.IfDirective ∷ K.Semicolon ∷ []) ([] ∷ (K.EndifDirective ∷ []) ∷ (K.EndifDirective ∷ []) ∷ [])
    -- `#if ;` as cells: the turn after the first report expects the same again and then the end, so "first arrivals keep
    -- their order" and the end comes last
    ∷ lists_of Cells (K.IfDirective ∷ K.Semicolon ∷ [])
    ((K.EndifDirective ∷ E.Cell ∷ K.DtIncludeDirective ∷ E.PreprocessorDirective ∷ [])
    ∷ (K.EndifDirective ∷ E.Cell ∷ K.DtIncludeDirective ∷ E.PreprocessorDirective ∷ E.End ∷ [])
    ∷ (K.EndifDirective ∷ E.Cell ∷ K.DtIncludeDirective ∷ E.PreprocessorDirective ∷ E.End ∷ [])
    ∷ [])
    -- a name and a label's name are different ones: `/delete-node/;` expects a Name, `&;` a LabelName
    ∷ lists_of SourceFile (K.DeleteNodeDirective ∷ K.Semicolon ∷ []) ((K.Ampersand ∷ K.Name ∷ []) ∷ [])
    ∷ lists_of SourceFile (K.Ampersand ∷ K.Semicolon ∷ []) ((K.LCurly ∷ E.LabelName ∷ []) ∷ (K.LCurly ∷ []) ∷ [])
    -- a token clears what is pending, and so does a name: `a=;` after its name and its `=`
    ∷ lists_of SourceFile (K.Ident ∷ K.Equals ∷ K.Semicolon ∷ []) ((E.Value ∷ K.DtIncludeDirective ∷ E.PreprocessorDirective ∷ []) ∷ (K.Semicolon ∷ []) ∷ [])
    -- and `(;` as cells after its bracket: an Ident among them, which is no Name
    ∷ lists_of Cells (K.LParen ∷ K.Semicolon ∷ []) ((E.PrefixOperator ∷ K.LParen ∷ K.Ident ∷ K.Number ∷ K.Char ∷ E.InfixOperator ∷ []) ∷ (K.RParen ∷ []) ∷ [])
    ∷ []

tokens_with : List ℕ → List Token
tokens_with [] = []
tokens_with (k ∷ l) = record { kind = k; len = 1 } ∷ tokens_with l

pools : List Report → List (List ℕ)
pools [] = []
pools (r ∷ l) = r.pool ∷ pools l

computed : List OnceReading → List OnceReading
unfolding tokens_with pools run_entry pushes reports
computed [] = []
computed (r ∷ l) = lists_of r.entry r.kinds (pools (reports (pushes (run_entry r.entry (tokens_with r.kinds))))) ∷ computed l

once_read : computed once_readings ≡ once_readings
unfolding computed
once_read = refl
