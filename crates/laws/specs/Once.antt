-- EACH EXPECTATION ONCE (document 02, 6/14): at every moment of every run, whatever becomes of the call, each pending
-- expectation is a kind or one of the others, 101 to 108, and none is pending twice, so that there are at most 69; and
-- so are the expectations of each report. It excludes a list with a repeat, and a 70th expectation.
use Rattle.std.specs.Prelude.{ℕ, ◌+◌, ◌≤◌, ◌≡◌, Bool, true, false, ◌&&◌, ◌||◌, List, [], ◌∷◌, ltb, leb, length}
use Rattle.definitions.specs.Layout.{KIND_CODES, FIRST_OTHER, OTHER_CODES, MOST_PENDING}
use Rattle.definitions.specs.Token.{Token, one_of}
use Rattle.definitions.specs.Grammar.{Entry}
use Rattle.definitions.specs.Skeleton.{Report}
use Rattle.definitions.specs.Report.{reports, pushes}
use Rattle.definitions.specs.Call.{run_entry}
use Rattle.laws.specs.Limits.{Moment, entry_moments}

-- a kind, or one of the other expectations
unfoldable pub is_kind : ℕ → Bool
is_kind k = ltb k KIND_CODES

unfoldable pub is_other : ℕ → Bool
is_other k = leb FIRST_OTHER k && ltb k (FIRST_OTHER + OTHER_CODES)

unfoldable pub is_expectation : ℕ → Bool
unfolding is_kind is_other
is_expectation k = is_kind k || is_other k

abbrev pub Expectations : List ℕ → Type 0
Expectations [] = Unit {0}
Expectations (k ∷ l) = (is_expectation k ≡ true) × Expectations l

-- none stands in the list twice
abbrev pub Different : List ℕ → Type 0
Different [] = Unit {0}
Different (k ∷ l) = (one_of l k ≡ false) × Different l

pub record Listed (l : List ℕ) : Type 0 where
  pub expectations : Expectations l
  pub different : Different l
  pub few : length l ≤ MOST_PENDING

-- at each of some moments, and of each of some reports
abbrev pub ListedAtEach : List Moment → Type 0
ListedAtEach [] = Unit {0}
ListedAtEach (x ∷ l) = Listed x.state.pending × ListedAtEach l

abbrev pub ListedInEach : List Report → Type 0
ListedInEach [] = Unit {0}
ListedInEach (r ∷ l) = Listed r.pool × ListedInEach l

pub record EachOnce (e : Entry) (ts : List Token) : Type 0 where
  pub pending : ListedAtEach (entry_moments e ts)
  pub reported : ListedInEach (reports (pushes (run_entry e ts)))

abbrev pub Once : Type 0
Once = (e : Entry) (ts : List Token) → EachOnce e ts
