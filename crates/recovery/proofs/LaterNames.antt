-- The reports on Names after a semicolon, which only the strict setting has: which rows they are, that they add nothing
-- to the pool, and how they move.
use Prim.Native.Nat.{ℕ, suc, ◌+◌, ◌≤◌}
use native.Mathlib.Omega.{arith}
use mathlib.Core.Path.{◌≡◌, refl, ap, ◌∙◌}
use mathlib.Core.Bool.{Bool, true, false, not}
use mathlib.Core.List.{List, [], ◌∷◌, ◌++◌, map, map-append}
use borrow.Author.Tests.{lt-ltb, le-ltb}
use Rattle.definitions.specs.Strict.{NameAt}
use Rattle.basics.proofs.Tests.{cond-all}
use Rattle.rows.specs.ResultRows.{Row}
use Rattle.recovery.specs.Recovery.{those, later_report, pool_counts, pool_before, Moved, Pairwise, none, more, Places, ReportMoved}
use Rattle.recovery.specs.Recovery as R
use Rattle.recovery.proofs.Told.{All}
use Rattle.recovery.proofs.Written.{name_row, name_rows}
use Rattle.recovery.proofs.NamesApart.{shift}
use Rattle.recovery.proofs.LaterErrors.{Every, those_append, those_all, those_none}

-- ---------------------------------------------------------------- in one file

-- a file with the semicolon at index i: the Names up to it are not later, those moved past it are
module _ (i p first : ℕ) (early late : List NameAt) (e : All (λ n. n.first_token ≤ i) early) where
  abbrev moved : List NameAt
  moved = map (shift (suc i) (suc p)) late

  not_later : (l : List NameAt) → All (λ n. n.first_token ≤ i) l → Every (λ r. later_report i r ≡ false) (name_rows first l)
  unfolding later_report
  not_later [] h = tt
  not_later (n ∷ l) h = (le-ltb i n.first_token h.0, not_later l h.1)

  are_later : (l : List NameAt) → Every (λ r. later_report i r ≡ true) (name_rows first (map (shift (suc i) (suc p)) l))
  unfolding later_report
  are_later [] = tt
  are_later (n ∷ l) = (lt-ltb i (suc i + n.first_token) (omega arith), are_later l)

  pub names_later : those (later_report i) (name_rows first (early ++ moved)) ≡ name_rows first moved
  names_later =
      ap (those (later_report i)) (map-append (name_row first) early moved)
      ∙ those_append (later_report i) (name_rows first early) (name_rows first moved)
      ∙ ap (◌++ those (later_report i) (name_rows first moved)) (those_none (later_report i) (name_rows first early) (not_later early e))
      ∙ those_all (later_report i) (name_rows first moved) (are_later late)

-- whichever of them are taken, they have no expectations
names_no_pool : (f : Row → Bool) (first : ℕ) (l : List NameAt) → pool_counts (those f (name_rows first l)) ≡ 0
unfolding those pool_counts
names_no_pool f first [] = refl
names_no_pool f first (n ∷ l) =
    let m : List Row = those f (name_rows first l) in
    let h : pool_counts m ≡ 0 = names_no_pool f first l in
    cond-all (λ (x : List Row). pool_counts x ≡ 0) (f (name_row first n)) {x = name_row first n ∷ m} {y = m} (omega arith) h

counts_append : (l m : List Row) → pool_counts (l ++ m) ≡ pool_counts l + pool_counts m
unfolding pool_counts
counts_append [] m = let z : pool_counts m ≡ 0 + pool_counts m = omega arith in z
counts_append (r ∷ l) m = let h : pool_counts (l ++ m) ≡ pool_counts l + pool_counts m = counts_append l m in omega arith

pub names_before : (i first : ℕ) (l : List Row) (m : List NameAt) → pool_before i (l ++ name_rows first m) ≡ pool_before i l
unfolding pool_before
names_before i first l m =
    let f : Row → Bool = λ r. not (later_report i r) in
    ap pool_counts (those_append f l (name_rows first m))
    ∙ counts_append (those f l) (those f (name_rows first m))
    ∙ (let h : pool_counts (those f (name_rows first m)) ≡ 0 = names_no_pool f first m in
    let z : pool_counts (those f l) + pool_counts (those f (name_rows first m)) ≡ pool_counts (those f l) = omega arith in z)

-- ---------------------------------------------------------------- in two files

pub pairwise_append : (S : Row → Row → Type 0) (l m x y : List Row) → Pairwise S l m → Pairwise S x y → Pairwise S (l ++ x) (m ++ y)
pairwise_append S [] [] x y none g = g
pairwise_append S (r ∷ l) (s ∷ m) x y (more h k) g = more h (pairwise_append S l m x y k g)
pairwise_append S [] (s ∷ m) x y h g = elim h [ ]
pairwise_append S (r ∷ l) [] x y h g = elim h [ ]

module _ (a b : Places) (p q : List ℕ) (x y : ℕ) (h : Moved a.pool_place b.pool_place x y) where
  -- one row, in a file with the semicolon at d
  abbrev row_at : Places → ℕ → NameAt → Row
  row_at d first n = name_row first (shift (suc d.index) (suc d.byte) n)

  name_moved : (n : NameAt) → ReportMoved a b p q (row_at a x n) (row_at b y n)
  name_moved n =
      record {
        same_message = refl;
        start_moves = omega arith;
        end_moves = omega arith;
        mark_moves = omega arith;
        first_place_moves = h;
        same_pool_count = refl;
        same_hint = refl;
        label_moves = R.no_label refl refl refl refl;
        same_expected = refl;
      }

  abbrev rows_at : Places → ℕ → List NameAt → List Row
  rows_at d first l = name_rows first (map (shift (suc d.index) (suc d.byte)) l)

  pub names_moved : (l : List NameAt) → Pairwise (ReportMoved a b p q) (rows_at a x l) (rows_at b y l)
  names_moved [] = none
  names_moved (n ∷ l) = more (name_moved n) (names_moved l)
