-- The reports after a semicolon: which rows they are, the expectations before them, and how they move.
use Prim.Native.Nat.{ℕ, suc, ◌+◌, ◌-◌, ◌≤◌}
use native.Mathlib.Omega.{arith}
use mathlib.Core.Path.{◌≡◌, refl, ap, sym, ◌∙◌, subst}
use mathlib.Core.Bool.{Bool, true, false, not}
use mathlib.Core.List.{List, [], ◌∷◌, ◌++◌, append_assoc, append-nil}
use lib.ListN.{length, take, drop, length-append}
use lib.Seq.{take-append_seam, drop-append_seam}
use borrow.Author.Tests.{lt-ltb, le-ltb}
use Rattle.definitions.specs.Skeleton.{Label, no_label, label, Report}
use Rattle.definitions.specs.Report.{label_numbers, pool}
use Rattle.rows.specs.ResultRows.{Row}
use Rattle.recovery.specs.Recovery.{those, later_report, pool_counts, pool_before, Moved, Pairwise, none, more, LabelMoved, Places, ReportMoved}
use Rattle.recovery.specs.Recovery as R
use Rattle.recovery.proofs.Told.{All, Above}
use Rattle.recovery.proofs.Inside.{LabelIn, Inside}
use Rattle.recovery.proofs.Written.{report_row, reports_of}
use Rattle.recovery.proofs.LaterErrors.{Every, those_append, those_all, those_none}

reports_append : (n b first : ℕ) (l m : List Report) → reports_of n b first (l ++ m) ≡ reports_of n b first l ++ reports_of n b (first + length (pool l)) m
unfolding reports_of pool
reports_append n b first [] m = ap (λ (x : ℕ). reports_of n b x m) (let e : first ≡ first + 0 = omega arith in e)
reports_append n b first (r ∷ l) m =
    ap (report_row n b first r ∷◌)
    (reports_append n b (first + length r.pool) l m
    ∙ ap (λ (x : ℕ). reports_of n b (first + length r.pool) l ++ reports_of n b x m) (let e : first + length r.pool + length (pool l) ≡ first + length (r.pool ++ pool l) = simp length-append (omega arith) in e))

-- a fact of each report is one of each row
reports_every : (A : Report → Type 0) (P : Row → Type 0) (n b : ℕ) → ((first : ℕ) (r : Report) → A r → P (report_row n b first r)) → (first : ℕ) (l : List Report) → All A l → Every P (reports_of n b first l)
unfolding reports_of
reports_every A P n b f first [] h = tt
reports_every A P n b f first (r ∷ l) h = (f first r h.0, reports_every A P n b f (first + length r.pool) l h.1)

reports_pool : (n b first : ℕ) (l : List Report) → pool_counts (reports_of n b first l) ≡ length (pool l)
unfolding reports_of pool_counts pool
reports_pool n b first [] = refl
reports_pool n b first (r ∷ l) = let e : pool_counts (reports_of n b (first + length r.pool) l) ≡ length (pool l) = reports_pool n b (first + length r.pool) l in simp length-append (omega arith)

-- a file with k tokens after the semicolon at index i: the early reports are not later, the late ones are
module _ (i k b : ℕ) (early late : List Report) (e : All (Above k) early) (l : All (λ r. r.mark ≤ k) late) where
  abbrev n : ℕ
  n = i + suc k

  not_later : Every (λ r. later_report i r ≡ false) (reports_of n b 0 early)
  unfolding later_report
  not_later = reports_every (Above k) _ n b (λ first r h. le-ltb i (n - r.mark) (omega arith)) 0 early e

  are_later : (first : ℕ) → Every (λ r. later_report i r ≡ true) (reports_of n b first late)
  unfolding later_report
  are_later first = reports_every (λ r. r.mark ≤ k) _ n b (λ first r h. lt-ltb i (n - r.mark) (omega arith)) first late l

  abbrev rest : List Row
  rest = reports_of n b (length (pool early)) late

  both : reports_of n b 0 (early ++ late) ≡ reports_of n b 0 early ++ rest
  both = reports_append n b 0 early late ∙ ap (λ (x : ℕ). reports_of n b 0 early ++ reports_of n b x late) (let z : 0 + length (pool early) ≡ length (pool early) = omega arith in z)

  every_not : (v w : Bool) → ((r : Row) → later_report i r ≡ v → not (later_report i r) ≡ w) → (m : List Row) → Every (λ r. later_report i r ≡ v) m → Every (λ r. not (later_report i r) ≡ w) m
  every_not v w f [] h = tt
  every_not v w f (r ∷ m) h = (f r h.0, every_not v w f m h.1)

  pub reports_later : those (later_report i) (reports_of n b 0 (early ++ late)) ≡ rest
  reports_later =
      ap (those (later_report i)) both
      ∙ those_append (later_report i) (reports_of n b 0 early) rest
      ∙ ap (◌++ those (later_report i) rest) (those_none (later_report i) (reports_of n b 0 early) not_later)
      ∙ those_all (later_report i) rest (are_later (length (pool early)))

  pub reports_before : pool_before i (reports_of n b 0 (early ++ late)) ≡ length (pool early)
  unfolding pool_before
  reports_before =
      let f : Row → Bool = λ r. not (later_report i r) in
      ap (λ (m : List Row). pool_counts (those f m)) both
      ∙ ap pool_counts
      (those_append f (reports_of n b 0 early) rest
      ∙ ap (those f (reports_of n b 0 early) ++◌) (those_none f rest (every_not true false (λ r h. ap not h) rest (are_later (length (pool early)))))
      ∙ append-nil _
      ∙ those_all f (reports_of n b 0 early) (every_not false true (λ r h. ap not h) (reports_of n b 0 early) not_later))
      ∙ reports_pool n b 0 early

-- the late reports, in two files
module _ (k c : ℕ) (a b : Places) (p q : List ℕ) where
  -- the row in a file with the semicolon at d
  abbrev row_at : Places → ℕ → Report → Row
  row_at d first r = report_row (d.index + suc k) (d.byte + suc c) first r

  label_moved : {u₀ u₁ u₂ u₃ u₄ u₅ u₆ v₀ v₁ v₂ v₃ v₄ v₅ v₆ : ℕ} (x : Label) → LabelIn c x
      → LabelMoved a.byte b.byte (u₀ ∷ u₁ ∷ u₂ ∷ u₃ ∷ u₄ ∷ u₅ ∷ u₆ ∷ label_numbers (a.byte + suc c) x [])
      (v₀ ∷ v₁ ∷ v₂ ∷ v₃ ∷ v₄ ∷ v₅ ∷ v₆ ∷ label_numbers (b.byte + suc c) x [])
  label_moved no_label h = R.no_label refl refl refl refl
  label_moved (label s) h =
      let f : s.from ≤ c = h.0 in
      let g : s.to ≤ c = h.1 in
      R.label (λ _ e. omega (arith, e)) (omega arith) (omega arith)

  slice : (x m l : List ℕ) → take (length m) (drop (length x) (x ++ (m ++ l))) ≡ m
  slice x m l = ap (take (length m)) (drop-append_seam x (m ++ l)) ∙ take-append_seam m l

  -- one report, after the expectations x in one file and y in the other
  report_moved : (x y l : List ℕ) (r : Report) → Inside k c r → p ≡ x ++ (r.pool ++ l) → q ≡ y ++ (r.pool ++ l) → Moved a.pool_place b.pool_place (length x) (length y)
      → ReportMoved a b p q (row_at a (length x) r) (row_at b (length y) r)
  report_moved x y l r I e f h =
      let from : r.range.from ≤ suc c = I.ranged.0 in
      let to : r.range.to ≤ suc c = I.ranged.1 in
      let m : r.mark ≤ k = I.marked in
      record {
        same_message = refl;
        start_moves = omega arith;
        end_moves = omega arith;
        mark_moves = omega arith;
        first_place_moves = h;
        same_pool_count = refl;
        same_hint = refl;
        label_moves = label_moved r.labelled I.labelled;
        same_expected =
            ap (λ (z : List ℕ). take (length r.pool) (drop (length x) z)) e
            ∙ slice x r.pool l
            ∙ sym (ap (λ (z : List ℕ). take (length r.pool) (drop (length y) z)) f ∙ slice y r.pool l);
      }

  abbrev rows_at : Places → ℕ → List Report → List Row
  rows_at d first l = reports_of (d.index + suc k) (d.byte + suc c) first l

  abbrev AllMoved : ℕ → ℕ → List Report → Type 0
  AllMoved i j l = Pairwise (ReportMoved a b p q) (rows_at a i l) (rows_at b j l)

  pub reports_moved : (x y : List ℕ) (l : List Report) → All (Inside k c) l → p ≡ x ++ pool l → q ≡ y ++ pool l → Moved a.pool_place b.pool_place (length x) (length y) → AllMoved (length x) (length y) l
  unfolding reports_of pool
  reports_moved x y [] I e f h = none
  reports_moved x y (r ∷ l) I e f h =
      let g : AllMoved (length (x ++ r.pool)) (length (y ++ r.pool)) l =
      reports_moved (x ++ r.pool) (y ++ r.pool) l I.1 (e ∙ sym (append_assoc x r.pool (pool l))) (f ∙ sym (append_assoc y r.pool (pool l)))
      (omega (arith, length-append x r.pool, length-append y r.pool)) in
      more (report_moved x y (pool l) r I.0 e f h)
      (subst (λ (j : ℕ). AllMoved (length x + length r.pool) j l) (length-append y r.pool) (subst (λ (i : ℕ). AllMoved i (length (y ++ r.pool)) l) (length-append x r.pool) g))
