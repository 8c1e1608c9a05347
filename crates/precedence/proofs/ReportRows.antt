-- Reports and their rows: a report of a run has a row whose mark is its own, and each row is a report's; the rows of
-- the Names that a setting reports follow, each with the Name's first token as its mark.
use Prim.Native.Nat.{ℕ, zero, suc, ◌+◌, ◌*◌, ◌-◌, ◌<◌}
use native.Mathlib.Omega.{arith}
use mathlib.Core.Path.{◌≡◌, refl, ◌∙◌, ap}
use mathlib.Core.Logic.{inl, inr}
use mathlib.Core.List.{List, [], ◌∷◌, ◌++◌}
use lib.ListN.{length, get_or, drop}
use lib.Seq.{drop-append-add}
use Rattle.definitions.specs.Layout.{REPORT_MARK, REPORT_ROW}
use Rattle.definitions.specs.Skeleton.{Label, no_label, label, Report}
use Rattle.definitions.specs.Report.{Push, event, reported, exceeded, reports, label_numbers, report_numbers}
use Rattle.definitions.specs.Strict.{NameAt, name_numbers}
use Rattle.laws.proofs.ReportNumbers.{report_numbers_length}
use Rattle.precedence.specs.Precedence.{mark_in}
use Rattle.precedence.proofs.Pushed.{Reported, here, there}
use Rattle.precedence.proofs.JudgedNames.{Among}

-- r is report q of the list
pub data Nth (r : Report) : ℕ → List Report → Type 0 where
  first : {l : List Report} → Nth r 0 (r ∷ l)
  later : {q : ℕ} {x : Report} {l : List Report} → Nth r q l → Nth r (suc q) (x ∷ l)

pub nth_less : {r : Report} (q : ℕ) (l : List Report) → Nth r q l → q < length l
nth_less q (x ∷ l) first = omega arith
nth_less (suc q) (x ∷ l) (later h) = let g = nth_less q l h in omega arith
nth_less q [] h = elim h [ ]

pub nth_there : (q : ℕ) (l : List Report) → q < length l → (r : Report) × Nth r q l
nth_there q [] h = absurd (omega arith)
nth_there zero (x ∷ l) h = (x, first)
nth_there (suc q) (x ∷ l) h = let g = nth_there q l (omega arith) in (g.0, later g.1)

-- ---------------------------------------------------------------- pushed and listed

pub reported_nth : {r : Report} (l : List Push) → Reported r l → (q : ℕ) × Nth r q (reports l)
unfolding reports
reported_nth (reported r ∷ l) here = (0, first)
reported_nth (event m ∷ l) (there h) = reported_nth l h
reported_nth (reported x ∷ l) (there h) = let g = reported_nth l h in (suc g.0, later g.1)
reported_nth (exceeded m ∷ l) (there h) = reported_nth l h
reported_nth [] h = elim h [ ]

pub nth_reported : {r : Report} (q : ℕ) (l : List Push) → Nth r q (reports l) → Reported r l
unfolding reports
nth_reported q [] h = elim h [ ]
nth_reported q (event m ∷ l) h = there (nth_reported q l h)
nth_reported zero (reported x ∷ l) first = here
nth_reported (suc q) (reported x ∷ l) (later h) = there (nth_reported q l h)
nth_reported q (exceeded m ∷ l) h = there (nth_reported q l h)

-- ---------------------------------------------------------------- rows

next_row : (q : ℕ) → REPORT_ROW * suc q ≡ suc (suc (suc (suc (suc (suc (suc (suc (suc (REPORT_ROW * q)))))))))
next_row q = omega arith

label_drop : (b : ℕ) (x : Label) (k : ℕ) (l z : List ℕ) → drop (suc (suc k)) (label_numbers b x l ++ z) ≡ drop k (l ++ z)
label_drop b no_label k l z = refl
label_drop b (label s) k l z = refl

row_drop : (n b f q : ℕ) (r : Report) (l : List Report) (z : List ℕ)
    → drop (REPORT_ROW * suc q) (report_numbers n b f (r ∷ l) ++ z) ≡ drop (REPORT_ROW * q) (report_numbers n b (f + length r.pool) l ++ z)
unfolding report_numbers
row_drop n b f q r l z =
    ap (λ (k : ℕ). drop k (report_numbers n b f (r ∷ l) ++ z)) (next_row q)
    ∙ label_drop b r.labelled (REPORT_ROW * q) (report_numbers n b (f + length r.pool) l) z

-- in a file of n tokens
pub nth_mark : {r : Report} (n b f q : ℕ) (l : List Report) (z : List ℕ) → Nth r q l → mark_in q (report_numbers n b f l ++ z) ≡ n - r.mark
unfolding report_numbers
nth_mark n b f zero (r ∷ l) z first = refl
nth_mark n b f (suc q) (x ∷ l) z (later h) =
    ap (λ (y : List ℕ). get_or y REPORT_MARK 0) (row_drop n b f q x l z) ∙ nth_mark n b (f + length x.pool) q l z h
nth_mark n b f zero [] z h = elim h [ ]
nth_mark n b f (suc q) [] z h = elim h [ ]

-- ---------------------------------------------------------------- the rows of Names

-- past the rows of all reports
pub mark_past : (n b f q : ℕ) (l : List Report) (z : List ℕ) → mark_in (length l + q) (report_numbers n b f l ++ z) ≡ mark_in q z
mark_past n b f q l z =
    let e : REPORT_ROW * (length l + q) ≡ length (report_numbers n b f l) + REPORT_ROW * q = omega (arith, report_numbers_length n b f l) in
    ap (λ (k : ℕ). get_or (drop k (report_numbers n b f l ++ z)) REPORT_MARK 0) e
    ∙ ap (λ (y : List ℕ). get_or y REPORT_MARK 0) (drop-append-add (report_numbers n b f l) z (REPORT_ROW * q))

-- row q is a Name's, and its mark the Name's first token
pub name_mark : (f q : ℕ) (l : List NameAt) (z : List ℕ) → q < length l → (n : NameAt) × Among n l × (mark_in q (name_numbers f l ++ z) ≡ n.first_token)
unfolding name_numbers
name_mark f q [] z h = absurd (omega arith)
name_mark f zero (n ∷ l) z h = (n, inl refl, refl)
name_mark f (suc q) (n ∷ l) z h =
    let g = name_mark f q l z (omega arith) in
    (g.0, inr g.1, ap (λ (k : ℕ). get_or (drop k (name_numbers f (n ∷ l) ++ z)) REPORT_MARK 0) (next_row q) ∙ g.2)
