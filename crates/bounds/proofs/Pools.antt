-- At most 69 expectations in a report, and each of them below 256: they are listed once (`once` of crates/laws).
use Prim.Native.Nat.{ℕ, ◌+◌, ◌*◌, ◌≤◌, ◌<◌, zero-le}
use native.Mathlib.Omega.{arith}
use mathlib.Core.Path.{◌≡◌, refl, ap, subst, ◌∙◌}
use mathlib.Core.Bool.{Bool, true, false, ◌||◌}
use mathlib.Core.List.{List, [], ◌∷◌, ◌++◌}
use lib.Dec.{ltb, leb}
use lib.ListN.{length, length-append}
use borrow.Author.Tests.{ltb-true}
use Rattle.definitions.specs.Layout.{KIND_CODES, FIRST_OTHER, OTHER_CODES, MOST_PENDING}
use Rattle.definitions.specs.Token.{Token}
use Rattle.definitions.specs.Skeleton.{Report}
use Rattle.definitions.specs.Grammar.{Entry}
use Rattle.definitions.specs.Report.{Push, pushes, reports, pool}
use Rattle.definitions.specs.Call.{run_entry}
use Rattle.basics.proofs.Tests.{and_right}
use Rattle.laws.specs.Once.{is_kind, is_other, is_expectation, Expectations, ListedInEach}
use Rattle.laws.proofs.Skeleton.{reports_append}
use Rattle.laws.proofs.Once.{once}
use Rattle.bounds.specs.Numbers.{Below}
use Rattle.bounds.proofs.Codes.{CODES, below_append}

listed_left : (l m : List Report) → ListedInEach (l ++ m) → ListedInEach l
listed_left [] m h = tt
listed_left (r ∷ l) m h = (h.0, listed_left l m h.1)

-- of every run, and of any first pushes l of it
pub entry_listed : (e : Entry) (ts : List Token) (l m : List Push) → pushes (run_entry e ts) ≡ l ++ m → ListedInEach (reports l)
entry_listed e ts l m h = listed_left (reports l) (reports m) (subst ListedInEach (ap reports h ∙ reports_append l m) (once e ts).reported)

-- AT MOST 69 EXPECTATIONS A REPORT
pub few_expected : (l : List Report) → ListedInEach l → length (pool l) ≤ MOST_PENDING * length l
unfolding pool
few_expected [] h = zero-le
few_expected (r ∷ l) h =
    let n : length (pool l) ≤ MOST_PENDING * length l = few_expected l h.1 in
    let f : length r.pool ≤ MOST_PENDING = h.0.few in
    simp length-append (omega arith)

-- ---------------------------------------------------------------- their codes

expectation_small : (k : ℕ) → is_expectation k ≡ true → k < CODES
unfolding is_expectation is_kind is_other
expectation_small k = by (ltb k KIND_CODES) refl
  where
    by : (b : Bool) → ltb k KIND_CODES ≡ b → b || is_other k ≡ true → k < CODES
    by true h e = omega (arith, ltb-true k KIND_CODES h)
    by false h e = omega (arith, ltb-true k (FIRST_OTHER + OTHER_CODES) (and_right (leb FIRST_OTHER k) (ltb k (FIRST_OTHER + OTHER_CODES)) e))

expectations_below : (l : List ℕ) → Expectations l → Below CODES l
expectations_below [] h = tt
expectations_below (k ∷ l) h = (expectation_small k h.0, expectations_below l h.1)

-- EVERY EXPECTATION IS BELOW 256
pub pool_below : (l : List Report) → ListedInEach l → Below CODES (pool l)
unfolding pool
pool_below [] h = tt
pool_below (r ∷ l) h = below_append CODES r.pool (pool l) (expectations_below r.pool h.0.expectations) (pool_below l h.1)
