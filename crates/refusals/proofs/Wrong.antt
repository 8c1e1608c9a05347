-- Wrong results, each refuted by the part of `Returns` that rules it out.
use Prim.Native.Nat.{ℕ, ◌≤◌}
use mathlib.Core.Logic.{◌⊎◌, inl, inr}
use native.Mathlib.Omega.{arith}
use mathlib.Core.Path.{◌≡◌, refl, ap}
use mathlib.Core.List.{List, [], ◌∷◌}
use lib.ListN.{get_or, replicate}
use Rattle.definitions.specs.Grammar.{Entry, SourceFile, ReferenceNoamp, PropValues, Cells}
use Rattle.definitions.specs.Refusal.{unknown_entry, past_input, bad_text, too_deep, number_of}
use Rattle.definitions.specs.Call.{Buffers, Answer, Result, untouched, cleared, call}
use Rattle.refusals.specs.Refusals.{entry_number, to_write}
use Rattle.refusals.specs.Answered.{Written, BeforeTheParse, InTheParse, Returns}

-- an empty source file in buffers that are not zero: one tree row, and one number left over
abbrev lent : Buffers
lent = record { events = 7 ∷ []; trees = 7 ∷ 7 ∷ 7 ∷ 7 ∷ 7 ∷ 7 ∷ []; errors = 7 ∷ []; reports = 7 ∷ []; pool = 7 ∷ [] }

abbrev gives : Answer → List ℕ → List ℕ → Result
gives a trees errors = record { answer = a; buffers = record { events = 0 ∷ []; trees = trees; errors = errors; reports = 0 ∷ []; pool = 0 ∷ [] } }

abbrev answers : ℕ → ℕ → ℕ → Answer
answers n p t = record { number = n; place = p; tree_count = t; error_count = 0; report_count = 0; expectation_count = 0 }

-- the right one
pub right : call 1 0 [] [] lent ≡ gives (answers 0 0 1) (0 ∷ 0 ∷ 0 ∷ 0 ∷ 0 ∷ 0 ∷ []) (0 ∷ [])
unfolding call
right = refl

-- numbers that are none of the listed
not_listed : (k : ℕ) → 9 ≤ k → ¬ ((11 ≤ k) × (k ≤ 13)) → ¬ ((k ≡ 0) ⊎ (BeforeTheParse k ⊎ InTheParse k))
not_listed k l h (inl e) = omega (arith, e, l)
not_listed k l h (inr (inl (inl g))) = omega (arith, l, g.1)
not_listed k l h (inr (inl (inr g))) = h g
not_listed k l h (inr (inr g)) = omega (arith, l, g.1)

pub number_9 : ¬ Returns 1 0 [] [] lent (gives (answers 9 0 0) (0 ∷ 0 ∷ 0 ∷ 0 ∷ 0 ∷ 0 ∷ []) (0 ∷ []))
number_9 h = not_listed 9 (omega arith) (λ g. omega (arith, g.0)) h.listed

pub number_14 : ¬ Returns 1 0 [] [] lent (gives (answers 14 0 0) (0 ∷ 0 ∷ 0 ∷ 0 ∷ 0 ∷ 0 ∷ []) (0 ∷ []))
number_14 h = not_listed 14 (omega arith) (λ g. omega (arith, g.1)) h.listed

-- refusals 1, 4 and 13 that clear, and a refusal 5 that does not
pub cleared_1 : ¬ Returns 1 0 [] [] lent (cleared unknown_entry lent)
unfolding number_of
cleared_1 h = let e : ◌≡◌ {A = ℕ} 0 7 = ap (λ (b : Buffers). get_or b.events 0 0) (h.as_it_was (inl (omega arith, omega arith))) in omega (arith, e)

pub cleared_4 : ¬ Returns 1 0 [] [] lent (cleared (bad_text 0) lent)
unfolding number_of
cleared_4 h = let e : ◌≡◌ {A = ℕ} 0 7 = ap (λ (b : Buffers). get_or b.events 0 0) (h.as_it_was (inl (omega arith, omega arith))) in omega (arith, e)

pub cleared_13 : ¬ Returns 1 0 [] [] lent (cleared (past_input 0) lent)
unfolding number_of
cleared_13 h = let e : ◌≡◌ {A = ℕ} 0 7 = ap (λ (b : Buffers). get_or b.events 0 0) (h.as_it_was (inr (omega arith, omega arith))) in omega (arith, e)

pub untouched_5 : ¬ Returns 1 0 [] [] lent (untouched (too_deep 0) lent)
unfolding number_of
untouched_5 h = let e : ◌≡◌ {A = ℕ} 7 0 = ap (λ (l : List ℕ). get_or l 0 0) (h.all_zero (omega arith, omega arith)).pool in omega (arith, e)

-- a refusal that counts a row; places with 0, 2 and 8
pub counted_1 : ¬ Returns 1 0 [] [] lent (gives (answers 1 0 1) (7 ∷ 7 ∷ 7 ∷ 7 ∷ 7 ∷ 7 ∷ []) (7 ∷ []))
counted_1 h = omega (arith, (h.no_counts (omega arith)).tree_count)

pub place_0 : ¬ Returns 1 0 [] [] lent (gives (answers 0 1 1) (0 ∷ 0 ∷ 0 ∷ 0 ∷ 0 ∷ 0 ∷ []) (0 ∷ []))
place_0 h = omega (arith, h.no_place.0 (omega arith))

pub place_2 : ¬ Returns 1 0 [] [] lent (gives (answers 2 1 0) (7 ∷ 7 ∷ 7 ∷ 7 ∷ 7 ∷ 7 ∷ []) (7 ∷ []))
place_2 h = omega (arith, h.no_place.0 (omega arith))

pub place_8 : ¬ Returns 1 0 [] [] lent (gives (answers 8 1 0) (0 ∷ 0 ∷ 0 ∷ 0 ∷ 0 ∷ 0 ∷ []) (0 ∷ []))
place_8 h = omega (arith, h.no_place.1 refl)

-- a buffer one number longer
pub longer : ¬ Returns 1 0 [] [] lent (gives (answers 8 0 0) (0 ∷ 0 ∷ 0 ∷ 0 ∷ 0 ∷ 0 ∷ 0 ∷ []) (0 ∷ []))
longer h = omega (arith, h.lengths.trees)

-- ---------------------------------------------------------------- accepted

-- what it writes is the source file's
source_file : (r : Result) → r.answer.number ≡ 0 → Returns 1 0 [] [] lent r → Written (to_write 0 SourceFile [] []) lent r
source_file r e h = by (h.accepted e).0 (h.accepted e).1 (h.accepted e).2
  where
    by : (x : Entry) → entry_number x ≡ 1 → Written (to_write 0 x [] []) lent r → Written (to_write 0 SourceFile [] []) lent r
    by SourceFile q w = w
    by ReferenceNoamp q w = absurd (omega (arith, q))
    by PropValues q w = absurd (omega (arith, q))
    by Cells q w = absurd (omega (arith, q))

-- a count other than that of the rows; a number left after the row; a row that is not the run's; a lexical error left
pub two_rows : ¬ Returns 1 0 [] [] lent (gives (answers 0 0 2) (0 ∷ 0 ∷ 0 ∷ 0 ∷ 0 ∷ 0 ∷ []) (0 ∷ []))
unfolding call
two_rows h = omega (arith, (source_file _ refl h).trees.whole_rows)

pub left_over : ¬ Returns 1 0 [] [] lent (gives (answers 0 0 1) (0 ∷ 0 ∷ 0 ∷ 0 ∷ 0 ∷ 7 ∷ []) (0 ∷ []))
unfolding call
left_over h = let e : ◌≡◌ {A = ℕ} 7 0 = ap (λ (l : List ℕ). get_or l 5 0) (source_file _ refl h).trees.then_zeros in omega (arith, e)

pub other_row : ¬ Returns 1 0 [] [] lent (gives (answers 0 0 1) (0 ∷ 1 ∷ 0 ∷ 0 ∷ 0 ∷ 0 ∷ []) (0 ∷ []))
unfolding call
other_row h = let e : ◌≡◌ {A = ℕ} 1 0 = ap (λ (l : List ℕ). get_or l 1 0) (source_file _ refl h).trees.then_zeros in omega (arith, e)

pub errors_left : ¬ Returns 1 0 [] [] lent (gives (answers 0 0 1) (0 ∷ 0 ∷ 0 ∷ 0 ∷ 0 ∷ 0 ∷ []) (7 ∷ []))
unfolding call
errors_left h = let e : ◌≡◌ {A = ℕ} 7 0 = ap (λ (l : List ℕ). get_or l 0 0) (source_file _ refl h).errors.then_zeros in omega (arith, e)

-- ---------------------------------------------------------------- the strict setting

-- entry 2, an Ident over `1a`, in buffers with room for its two tree rows and its report
abbrev label_lent : Buffers
label_lent = record { events = replicate 12 7; trees = replicate 10 7; errors = []; reports = replicate 10 7; pool = [] }

-- with so many reports in the answer, and these numbers in the buffer
abbrev reports_so : ℕ → List ℕ → Result
reports_so n reports =
    record {
      answer = record { number = 0; place = 0; tree_count = 2; error_count = 0; report_count = n; expectation_count = 0 };
      buffers = record { events = replicate 12 0; trees = 0 ∷ 21 ∷ 2 ∷ 1 ∷ 0 ∷ 1 ∷ 26 ∷ 2 ∷ 1 ∷ 0 ∷ []; errors = []; reports = reports; pool = [] };
    }

-- the right ones: message 8 over the name, mark 0, no expectations, hint or label; and nothing in the old setting
pub strict_right : call 2 1 (49 ∷ 97 ∷ []) (27 ∷ 2 ∷ []) label_lent ≡ reports_so 1 (8 ∷ 0 ∷ 2 ∷ 0 ∷ 0 ∷ 0 ∷ 0 ∷ 0 ∷ 0 ∷ 0 ∷ [])
unfolding call
strict_right = refl

pub old_right : call 2 0 (49 ∷ 97 ∷ []) (27 ∷ 2 ∷ []) label_lent ≡ reports_so 0 (replicate 10 0)
unfolding call
old_right = refl

abbrev LabelReturns : ℕ → Result → Type 0
LabelReturns setting r = Returns 2 setting (49 ∷ 97 ∷ []) (27 ∷ 2 ∷ []) label_lent r

-- what it writes is the reference's
reference : (setting : ℕ) (r : Result) → r.answer.number ≡ 0 → LabelReturns setting r → Written (to_write setting ReferenceNoamp (49 ∷ 97 ∷ []) (27 ∷ 2 ∷ [])) label_lent r
reference setting r e h = by (h.accepted e).0 (h.accepted e).1 (h.accepted e).2
  where
    by : (x : Entry) → entry_number x ≡ 2 → Written (to_write setting x (49 ∷ 97 ∷ []) (27 ∷ 2 ∷ [])) label_lent r → Written (to_write setting ReferenceNoamp (49 ∷ 97 ∷ []) (27 ∷ 2 ∷ [])) label_lent r
    by SourceFile q w = absurd (omega (arith, q))
    by ReferenceNoamp q w = w
    by PropValues q w = absurd (omega (arith, q))
    by Cells q w = absurd (omega (arith, q))

-- no report; the row without its count; the mark just past the name; and the report in the old setting
pub unreported : ¬ LabelReturns 1 (reports_so 0 (replicate 10 0))
unfolding call
unreported h = let e : ◌≡◌ {A = ℕ} 0 8 = ap (λ (l : List ℕ). get_or l 0 0) (reference 1 _ refl h).reports.then_zeros in omega (arith, e)

pub uncounted : ¬ LabelReturns 1 (reports_so 0 (8 ∷ 0 ∷ 2 ∷ 0 ∷ 0 ∷ 0 ∷ 0 ∷ 0 ∷ 0 ∷ 0 ∷ []))
unfolding call
uncounted h = omega (arith, (reference 1 _ refl h).reports.whole_rows)

pub marked_after : ¬ LabelReturns 1 (reports_so 1 (8 ∷ 0 ∷ 2 ∷ 1 ∷ 0 ∷ 0 ∷ 0 ∷ 0 ∷ 0 ∷ 0 ∷ []))
unfolding call
marked_after h = let e : ◌≡◌ {A = ℕ} 1 0 = ap (λ (l : List ℕ). get_or l 3 0) (reference 1 _ refl h).reports.then_zeros in omega (arith, e)

pub reported_in_old : ¬ LabelReturns 0 (reports_so 1 (8 ∷ 0 ∷ 2 ∷ 0 ∷ 0 ∷ 0 ∷ 0 ∷ 0 ∷ 0 ∷ 0 ∷ []))
unfolding call
reported_in_old h = let e : ◌≡◌ {A = ℕ} 8 0 = ap (λ (l : List ℕ). get_or l 0 0) (reference 0 _ refl h).reports.then_zeros in omega (arith, e)
