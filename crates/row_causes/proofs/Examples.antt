-- Calls of each kind before 4/14 and now, computed, so that each premise of `Apart` is met; and answers that it
-- excludes, each refuted by the line that rules it out.
use Prim.Native.Nat.{ℕ}
use native.Mathlib.Omega.{arith}
use mathlib.Core.Path.{◌≡◌, refl, ap}
use mathlib.Core.Logic.{◌⊎◌, inl, inr}
use mathlib.Core.List.{List, [], ◌∷◌}
use lib.ListN.{get_or}
use Rattle.definitions.specs.Token.{tokens_of}
use Rattle.definitions.specs.Call.{Buffers, Result, call}
use Rattle.row_causes.specs.Before as B
use Rattle.row_causes.specs.ToldApart.{OfRows, Apart}
use Rattle.row_causes.proofs.ToldApart.{told_apart}

-- one number in each buffer
abbrev buffers : ℕ → Buffers
buffers x = record { events = x ∷ []; trees = x ∷ []; errors = x ∷ []; reports = x ∷ []; pool = x ∷ [] }

abbrev lent : Buffers
lent = buffers 7

-- number and place, with these buffers
abbrev answers : ℕ → ℕ → Buffers → Result
answers n p b = record { answer = record { number = n; place = p; tree_count = 0; error_count = 0; report_count = 0; expectation_count = 0 }; buffers = b }

-- ---------------------------------------------------------------- computed

-- over one byte: bytes, numbers, and number and place before and now
record Example : Type 0 where
  numbers : List ℕ
  was : Result
  now : Result

abbrev from_to : List ℕ → Result → Result → Example
from_to l was now = record { numbers = l; was = was; now = now }

abbrev examples : List Example
examples =
    -- whole rows: each of the three numbers, with the place that was
    from_to (27 ∷ 1 ∷ 26 ∷ 1 ∷ []) (answers 3 1 lent) (answers 11 1 lent)
    ∷ from_to (27 ∷ 0 ∷ []) (answers 3 0 lent) (answers 12 0 lent)
    ∷ from_to (27 ∷ 2 ∷ []) (answers 3 0 lent) (answers 13 0 lent)
    ∷ from_to [] (answers 3 0 lent) (answers 13 0 lent)
    -- an odd count: the same place, and another after a bad row
    ∷ from_to (27 ∷ 1 ∷ 27 ∷ []) (answers 3 1 lent) (answers 3 1 lent)
    ∷ from_to (99 ∷ 0 ∷ 27 ∷ []) (answers 3 0 lent) (answers 3 1 lent)
    -- others: 4, and 6, for want of an event
    ∷ from_to (29 ∷ 1 ∷ []) (answers 4 0 lent) (answers 4 0 lent)
    ∷ from_to (27 ∷ 1 ∷ []) (answers 6 0 (buffers 0)) (answers 6 0 (buffers 0))
    ∷ []

unfoldable before : List Example → List Result
unfolding B.call
before [] = []
before (x ∷ l) = B.call 1 0 (97 ∷ []) x.numbers lent ∷ before l

unfoldable after : List Example → List Result
unfolding call
after [] = []
after (x ∷ l) = call 1 0 (97 ∷ []) x.numbers lent ∷ after l

unfoldable all_was : List Example → List Result
all_was [] = []
all_was (x ∷ l) = x.was ∷ all_was l

unfoldable all_now : List Example → List Result
all_now [] = []
all_now (x ∷ l) = x.now ∷ all_now l

computed_before : before examples ≡ all_was examples
unfolding before all_was
computed_before = refl

computed_now : after examples ≡ all_now examples
unfolding after all_now
computed_now = refl

-- ---------------------------------------------------------------- excluded, for the numbers 26, 1 of one row

abbrev OfOne : Result → Result → Type 0
OfOne = Apart (26 ∷ 1 ∷ []) lent

-- as it is
pub as_it_is : OfOne (answers 3 0 lent) (answers 11 0 lent)
unfolding B.call call
as_it_is = told_apart 1 0 (97 ∷ []) (26 ∷ 1 ∷ []) lent

not_of_rows : (k : ℕ) → (k ≡ 0) ⊎ (k ≡ 4) → OfRows k → ⊥
not_of_rows k (inl e) (inl h) = omega (arith, e, h)
not_of_rows k (inl e) (inr h) = omega (arith, e, h.0)
not_of_rows k (inr e) (inl h) = omega (arith, e, h)
not_of_rows k (inr e) (inr h) = omega (arith, e, h.0)

-- 4 in the place of 13, and a bad row that is let through
pub four_first : ¬ OfOne (answers 3 0 lent) (answers 4 0 lent)
four_first a = not_of_rows 4 (inr refl) (a.exactly.1 refl)

pub let_through : ¬ OfOne (answers 3 0 lent) (answers 0 0 lent)
let_through a = not_of_rows 0 (inl refl) (a.exactly.1 refl)

-- a call that was accepted, and one that was refused with 4, refused with 11
pub refused_now : ¬ OfOne (answers 0 0 lent) (answers 11 0 lent)
refused_now a = omega (arith, a.exactly.0 (inr (omega arith, omega arith)))

pub eleven_for_four : ¬ OfOne (answers 4 0 lent) (answers 11 0 lent)
eleven_for_four a = omega (arith, a.exactly.0 (inr (omega arith, omega arith)))

-- 3 as before, another place, and buffers that are cleared
pub three_still : ¬ OfOne (answers 3 0 lent) (answers 3 0 lent)
unfolding tokens_of
three_still a = omega (arith, (a.of_whole_rows refl refl).0)

pub another_place : ¬ OfOne (answers 3 0 lent) (answers 11 1 lent)
unfolding tokens_of
another_place a = omega (arith, (a.of_whole_rows refl refl).2)

pub cleared : ¬ OfOne (answers 3 0 lent) (answers 11 0 (buffers 0))
cleared a = let e : ◌≡◌ {A = ℕ} 0 7 = ap (λ (b : Buffers). get_or b.events 0 0) (a.as_it_was refl).0 in omega (arith, e)

-- another refusal with another place
pub others_moved : ¬ OfOne (answers 4 0 lent) (answers 4 1 lent)
others_moved a = let e : ◌≡◌ {A = ℕ} 1 0 = ap (λ (r : Result). r.answer.place) (a.others (λ e. omega (arith, e))) in omega (arith, e)

-- ---------------------------------------------------------------- excluded, for an odd count after a bad row

abbrev OfOdd : Result → Result → Type 0
OfOdd = Apart (99 ∷ 0 ∷ 27 ∷ []) lent

pub as_odd : OfOdd (answers 3 0 lent) (answers 3 1 lent)
unfolding B.call call
as_odd = told_apart 1 0 (97 ∷ []) (99 ∷ 0 ∷ 27 ∷ []) lent

-- the bad row first: its number, and its place
pub odd_after_rows : ¬ OfOdd (answers 3 0 lent) (answers 11 0 lent)
unfolding tokens_of
odd_after_rows a = omega (arith, (a.of_odd_count refl (λ e. omega (arith, e))).0)

pub place_of_the_row : ¬ OfOdd (answers 3 0 lent) (answers 3 0 lent)
unfolding tokens_of
place_of_the_row a = omega (arith, (a.of_odd_count refl (λ e. omega (arith, e))).1)
