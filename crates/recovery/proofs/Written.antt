-- What an accepted source file wrote, row by row: the rows of its tree, of its error tokens and of its reports, those
-- of its setting too.
use Prim.Native.Nat.{ℕ, suc, ◌+◌, ◌-◌}
use native.Mathlib.Omega.{arith}
use mathlib.Core.Path.{◌≡◌, refl, ap, sym, ◌∙◌}
use mathlib.Core.Bool.{Bool, true, false, cond}
use mathlib.Core.List.{List, [], ◌∷◌, ◌++◌, map}
use lib.ListN.{length, replicate}
use lib.Seq.{take-append_seam}
use Rattle.definitions.specs.Layout.{REPORT_ROW, ERROR_ROW, TREE_ROW}
use Rattle.definitions.specs.NodeKind as N
use Rattle.definitions.specs.Errors as E
use Rattle.definitions.specs.Token.{Token, tokens_of, is_error, byte_count}
use Rattle.definitions.specs.Grammar.{Entry, SourceFile, root_kind}
use Rattle.definitions.specs.Skeleton.{Label, no_label, label, Report, Skeleton}
use Rattle.definitions.specs.Place.{Tree, nil, subtree, root, lexical_errors}
use Rattle.definitions.specs.Report.{pushes, reports, label_numbers, report_numbers, pool}
use Rattle.definitions.specs.Strict.{NameAt, name_numbers}
use Rattle.definitions.specs.Refusal.{accepted}
use Rattle.definitions.specs.RowCauses.{check_input}
use Rattle.definitions.specs.Call.{Sheets, sheets, kept, run_entry, names_of, for, entry_of}
use Rattle.laws.proofs.Accepted.{accepted_call, written_by}
use Rattle.laws.proofs.Accepted as L
use Rattle.rows.specs.ResultRows.{Row, tree_rows, error_rows, expectations}
use Rattle.rows.specs.ResultRows as S
use Rattle.rows.proofs.Written.{flat, Wide, flat_append, wide_append, written_rows, rows_of, rows_wide, rows_flat}
use Rattle.recovery.specs.Recovery.{File, result, Accepted}
use Rattle.recovery.proofs.Turns.{children}

-- ---------------------------------------------------------------- the rows

unfoldable pub errors_of : ℕ → List Token → List Row
unfolding is_error
errors_of at [] = []
errors_of at (t ∷ ts) = cond (is_error t.kind) ((t.kind ∷ at ∷ (at + t.len) ∷ []) ∷ errors_of (at + t.len) ts) (errors_of (at + t.len) ts)

errors_wide : (at : ℕ) (ts : List Token) → Wide ERROR_ROW (errors_of at ts)
unfolding errors_of
errors_wide at [] = tt
errors_wide at (t ∷ ts) = go (is_error t.kind) (errors_wide (at + t.len) ts)
  where
    go : (b : Bool) → Wide ERROR_ROW (errors_of (at + t.len) ts) → Wide ERROR_ROW (cond b ((t.kind ∷ at ∷ (at + t.len) ∷ []) ∷ errors_of (at + t.len) ts) (errors_of (at + t.len) ts))
    go true h = (refl, h)
    go false h = h

errors_flat : (at : ℕ) (ts : List Token) → lexical_errors at ts ≡ flat (errors_of at ts)
unfolding errors_of lexical_errors flat
errors_flat at [] = refl
errors_flat at (t ∷ ts) = go (is_error t.kind) (errors_flat (at + t.len) ts)
  where
    go : (b : Bool) → lexical_errors (at + t.len) ts ≡ flat (errors_of (at + t.len) ts)
        → cond b (t.kind ∷ at ∷ (at + t.len) ∷ lexical_errors (at + t.len) ts) (lexical_errors (at + t.len) ts) ≡ flat (cond b ((t.kind ∷ at ∷ (at + t.len) ∷ []) ∷ errors_of (at + t.len) ts) (errors_of (at + t.len) ts))
    go true h = ap (λ (l : List ℕ). t.kind ∷ at ∷ (at + t.len) ∷ l) h
    go false h = h

-- the row of a report, in a file of n tokens and b bytes, after `first` expectations
abbrev pub report_row : ℕ → ℕ → ℕ → Report → Row
report_row n b first r = r.message ∷ (b - r.range.from) ∷ (b - r.range.to) ∷ (n - r.mark) ∷ first ∷ length r.pool ∷ r.hint ∷ label_numbers b r.labelled []

unfoldable pub reports_of : ℕ → ℕ → ℕ → List Report → List Row
reports_of n b first [] = []
reports_of n b first (r ∷ l) = report_row n b first r ∷ reports_of n b (first + length r.pool) l

label_wide : (b : ℕ) (x : Label) → length (label_numbers b x []) ≡ 2
label_wide b no_label = refl
label_wide b (label s) = refl

reports_wide : (n b first : ℕ) (l : List Report) → Wide REPORT_ROW (reports_of n b first l)
unfolding reports_of
reports_wide n b first [] = tt
reports_wide n b first (r ∷ l) = (ap (λ (x : ℕ). suc (suc (suc (suc (suc (suc (suc x))))))) (label_wide b r.labelled), reports_wide n b (first + length r.pool) l)

label_flat : (b : ℕ) (x : Label) (l : List ℕ) → label_numbers b x l ≡ label_numbers b x [] ++ l
label_flat b no_label l = refl
label_flat b (label s) l = refl

reports_flat : (n b first : ℕ) (l : List Report) → report_numbers n b first l ≡ flat (reports_of n b first l)
unfolding reports_of report_numbers flat
reports_flat n b first [] = refl
reports_flat n b first (r ∷ l) =
    ap (λ (x : List ℕ). r.message ∷ (b - r.range.from) ∷ (b - r.range.to) ∷ (n - r.mark) ∷ first ∷ length r.pool ∷ r.hint ∷ x)
    (ap (label_numbers b r.labelled) (reports_flat n b (first + length r.pool) l) ∙ label_flat b r.labelled (flat (reports_of n b (first + length r.pool) l)))

-- the row of a Name's report, after `first` expectations
abbrev pub name_row : ℕ → NameAt → Row
name_row first n = E.not_a_label ∷ n.start ∷ n.end ∷ n.first_token ∷ first ∷ 0 ∷ E.no_hint ∷ 0 ∷ 0 ∷ []

abbrev pub name_rows : ℕ → List NameAt → List Row
name_rows first l = map (name_row first) l

names_wide : (first : ℕ) (l : List NameAt) → Wide REPORT_ROW (name_rows first l)
names_wide first [] = tt
names_wide first (n ∷ l) = (refl, names_wide first l)

names_flat : (first : ℕ) (l : List NameAt) → name_numbers first l ≡ flat (name_rows first l)
unfolding name_numbers flat
names_flat first [] = refl
names_flat first (n ∷ l) = ap (name_row first n ++◌) (names_flat first l)

-- ---------------------------------------------------------------- an accepted source file

abbrev pub file_tokens : File → List Token
file_tokens f = tokens_of f.tokens

abbrev pub made_of : File → Skeleton
made_of f = run_entry SourceFile (file_tokens f)

abbrev pub told_of : File → List Report
told_of f = reports (pushes (made_of f))

-- the Names that its setting reports
abbrev pub names_in : File → List NameAt
names_in f = names_of f.setting SourceFile f.bytes (file_tokens f)

-- the rows of all its reports
abbrev pub reports_in : File → List Row
reports_in f = reports_of (length (file_tokens f)) (byte_count (file_tokens f)) 0 (told_of f) ++ name_rows (length (pool (told_of f))) (names_in f)

pub record Wrote (f : File) : Type 0 where
  pub input : check_input f.bytes f.tokens ≡ accepted
  pub trees : tree_rows (result f) ≡ rows_of 0 0 (subtree N.SourceFile (children (made_of f) (file_tokens f)) nil)
  pub errors : error_rows (result f) ≡ errors_of 0 (file_tokens f)
  pub reports : S.report_rows (result f) ≡ reports_in f
  pub pool : expectations (result f) ≡ pool (told_of f)

entry_one : (e : Entry) → entry_of 1 ≡ for e → e ≡ SourceFile
unfolding entry_of
entry_one e h = cc

reports_written : (f : File) → Wide REPORT_ROW (reports_in f) × ((written_by f.setting SourceFile f.bytes (file_tokens f)).reports ≡ flat (reports_in f))
unfolding sheets
reports_written f =
    let n : ℕ = length (file_tokens f) in
    let b : ℕ = byte_count (file_tokens f) in
    let first : ℕ = length (pool (told_of f)) in (
      wide_append REPORT_ROW (reports_of n b 0 (told_of f)) _ (reports_wide n b 0 (told_of f)) (names_wide first (names_in f)),
      (λ i. reports_flat n b 0 (told_of f) i ++ names_flat first (names_in f) i) ∙ sym (flat_append (reports_of n b 0 (told_of f)) _),
    )

-- WHAT IT WROTE
pub wrote : (f : File) → Accepted f → Wrote f
unfolding tree_rows error_rows S.report_rows expectations sheets root children root_kind
wrote f h =
    let A : L.Accepted 1 f.setting f.bytes f.tokens f.buffers = accepted_call 1 f.setting f.bytes f.tokens f.buffers h in
    let ts : List Token = file_tokens f in
    let z : Sheets = written_by f.setting SourceFile f.bytes ts in
    let is : result f ≡ kept z f.buffers = A.returns ∙ ap (λ (e : Entry). kept (written_by f.setting e f.bytes ts) f.buffers) (entry_one A.entry A.asked_for) in
    let t : Tree = subtree N.SourceFile (children (made_of f) ts) nil in
    record {
      input = A.input;
      trees = ap tree_rows is ∙ written_rows TREE_ROW (rows_of 0 0 t) z.trees f.buffers.trees (omega arith) (rows_wide t 0 0) (rows_flat t 0 0);
      errors = ap error_rows is ∙ written_rows ERROR_ROW (errors_of 0 ts) z.errors f.buffers.errors (omega arith) (errors_wide 0 ts) (errors_flat 0 ts);
      reports = ap S.report_rows is ∙ written_rows REPORT_ROW (reports_in f) z.reports f.buffers.reports (omega arith) (reports_written f).0 (reports_written f).1;
      pool = ap expectations is ∙ take-append_seam z.pool (replicate (length f.buffers.pool - length z.pool) 0);
    }
