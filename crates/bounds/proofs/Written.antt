-- The numbers that an accepted call writes besides its tree rows and its pool: report rows, lexical errors.
use Prim.Native.Nat.{ℕ, suc, ◌+◌, ◌*◌, ◌≤◌, ◌<◌}
use native.Mathlib.Omega.{arith}
use mathlib.Core.List.{List, [], ◌∷◌, ◌++◌}
use lib.ListN.{length, length-append, replicate}
use Rattle.definitions.specs.Layout.{ERROR_ROW}
use Rattle.definitions.specs.Token.{Token, is_error, byte_count}
use Rattle.definitions.specs.Skeleton.{Label, no_label, label, Report, Skeleton, done, token, name, node, ignored, report, over}
use Rattle.definitions.specs.Place.{lexical_errors}
use Rattle.definitions.specs.Report.{pushes, reports, label_numbers, report_numbers, pool}
use Rattle.basics.proofs.Tests.{cond-all}
use Rattle.laws.proofs.Skeleton.{reports_append}
use Rattle.bounds.specs.Numbers.{Below}
use Rattle.bounds.proofs.Codes.{CODES, ReportCoded, Coded}
use Rattle.bounds.proofs.TreeRows.{Kinded}

pub below_wider : (n m : ℕ) (l : List ℕ) → n ≤ m → Below n l → Below m l
below_wider n m [] h b = tt
below_wider n m (x ∷ l) h b = let p : x < n = b.0 in (omega arith, below_wider n m l h b.1)

pub below_zeros : (n k : ℕ) → 1 ≤ n → Below n (replicate k 0)
below_zeros n ℕ.zero h = tt
below_zeros n (suc k) h = (h, below_zeros n k h)

-- ---------------------------------------------------------------- reports

abbrev pub AllCoded : List Report → Type 0
AllCoded [] = Unit {0}
AllCoded (r ∷ l) = ReportCoded r × AllCoded l

coded_append : (l m : List Report) → AllCoded l → AllCoded m → AllCoded (l ++ m)
coded_append [] m h g = g
coded_append (r ∷ l) m h g = (h.0, coded_append l m h.1 g)

pub coded_left : (l m : List Report) → AllCoded (l ++ m) → AllCoded l
coded_left [] m h = tt
coded_left (r ∷ l) m h = (h.0, coded_left l m h.1)

pub reports_coded : (o : Skeleton) → Coded o → AllCoded (reports (pushes o))
unfolding Coded pushes reports
reports_coded done c = tt
reports_coded (token t m o) c = reports_coded o c
reports_coded (name ts m o) c = reports_coded o c
reports_coded (node k m m' a i o) c = simp reports_append (coded_append (reports (pushes a)) _ (reports_coded a c.1) (coded_append (reports (pushes i)) _ (reports_coded i c.2) (reports_coded o c.3)))
reports_coded (ignored m m' a i o) c = simp reports_append (coded_append (reports (pushes a)) _ (reports_coded a c.0) (coded_append (reports (pushes i)) _ (reports_coded i c.1) (reports_coded o c.2)))
reports_coded (report r o) c = (c.0, reports_coded o c.1)
reports_coded (over m o) c = reports_coded o c

-- m: a bound on the tokens, the bytes and the expectations
module _ (m n b : ℕ) (most : CODES ≤ m) (tokens : n < m) (input : b < m) where
  label_below : (x : Label) (l : List ℕ) → Below m l → Below m (label_numbers b x l)
  label_below no_label l h = (omega arith, (omega arith, h))
  label_below (label s) l h = (omega arith, (omega arith, h))

  -- EVERY NUMBER IN THE REPORT ROWS
  pub report_numbers_below : (first : ℕ) (l : List Report) → AllCoded l → first + length (pool l) < m → Below m (report_numbers n b first l)
  unfolding report_numbers pool
  report_numbers_below first [] c h = tt
  report_numbers_below first (r ∷ l) c h =
      let p : first + (length r.pool + length (pool l)) < m = simp length-append at h in
      let g : r.message < CODES = c.0.message in
      let k : r.hint < CODES = c.0.hint in
      (omega arith, (omega arith, (omega arith, (omega arith, (omega arith, (omega arith, (omega arith, label_below r.labelled _ (report_numbers_below (first + length r.pool) l c.1 (omega arith)))))))))

-- ---------------------------------------------------------------- lexical errors

pub errors_most : (at : ℕ) (ts : List Token) → length (lexical_errors at ts) ≤ ERROR_ROW * length ts
unfolding lexical_errors
errors_most at [] = omega arith
errors_most at (t ∷ ts) =
    let h : length (lexical_errors (at + t.len) ts) ≤ ERROR_ROW * length ts = errors_most (at + t.len) ts in
    cond-all (λ (l : List ℕ). length l ≤ ERROR_ROW * suc (length ts)) (is_error t.kind) {x = t.kind ∷ at ∷ (at + t.len) ∷ lexical_errors (at + t.len) ts} {y = lexical_errors (at + t.len) ts} (omega arith) (omega arith)

-- EVERY NUMBER IN THE LEXICAL ERRORS
pub errors_below : (m at : ℕ) (ts : List Token) → CODES ≤ m → Kinded ts → at + byte_count ts < m → Below m (lexical_errors at ts)
unfolding lexical_errors byte_count
errors_below m at [] q k h = tt
errors_below m at (t ∷ ts) q k h =
    let r : Below m (lexical_errors (at + t.len) ts) = errors_below m (at + t.len) ts q k.1 (omega arith) in
    let x : t.kind < CODES = k.0 in
    cond-all (Below m) (is_error t.kind) {x = t.kind ∷ at ∷ (at + t.len) ∷ lexical_errors (at + t.len) ts} {y = lexical_errors (at + t.len) ts} (omega arith, (omega arith, (omega arith, r))) r
