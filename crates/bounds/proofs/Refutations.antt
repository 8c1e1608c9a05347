-- Numbers that are too large are refused by the crate's statements: 2^32 in any place of an answer, of a buffer or of a
-- report's pool, and counts past their bounds. A statement that says less, or has other bounds, under the same name is
-- refused by this file.
use Prim.Native.Nat.{ℕ}
use native.Mathlib.Omega.{arith}
use mathlib.Core.Path.{◌≡◌, refl}
use mathlib.Core.List.{List, [], ◌∷◌, ◌++◌}
use lib.ListN.{length}
use Rattle.definitions.specs.Token.{Token, byte_count}
use Rattle.definitions.specs.Skeleton.{no_label}
use Rattle.definitions.specs.Event.{StartNode, AddCombinedToken}
use Rattle.definitions.specs.Place.{leaf, subtree, nil, count}
use Rattle.definitions.specs.Report.{Push, reported, pushes, reports, pool}
use Rattle.definitions.specs.Grammar.{Entry}
use Rattle.definitions.specs.Strict.{NameAt}
use Rattle.definitions.specs.Call.{Answer, Result, run_entry, names_of}
use Rattle.bounds.specs.Numbers.{most_events, most_reports, most_expectations, most_rows, WithinLimits, SoFar, AnswerFits, Fits, AllFit, CountsWithin, NamesWithin, Bounded}

-- 2^32, by its own number: a larger `TWO_TO_32` would pass otherwise
abbrev large : ℕ
large = 4294967296

-- an answer with one number
abbrev answered : ℕ → ℕ → ℕ → ℕ → ℕ → ℕ → Answer
answered n p t e r x = record { number = n; place = p; tree_count = t; error_count = e; report_count = r; expectation_count = x }

not_the_answer : (AnswerFits (answered large 0 0 0 0 0) → ⊥) × (AnswerFits (answered 0 large 0 0 0 0) → ⊥) × (AnswerFits (answered 0 0 large 0 0 0) → ⊥) × (AnswerFits (answered 0 0 0 large 0 0) → ⊥) × (AnswerFits (answered 0 0 0 0 large 0) → ⊥) × (AnswerFits (answered 0 0 0 0 0 large) → ⊥)
not_the_answer =
    (λ a. omega (arith, a.number), λ a. omega (arith, a.place), λ a. omega (arith, a.tree_count), λ a. omega (arith, a.error_count), λ a. omega (arith, a.report_count), λ a. omega (arith, a.expectation_count))

-- the buffers of a call, with something in one of them
abbrev held : List ℕ → List ℕ → List ℕ → List ℕ → List ℕ → Result
held e t x r p =
    record { answer = answered 0 0 0 0 0 0; buffers = record { events = e; trees = t; errors = x; reports = r; pool = p } }

abbrev too_large : List ℕ
too_large = 0 ∷ large ∷ []

not_the_buffers : (Fits (held too_large [] [] [] []) → ⊥) × (Fits (held [] too_large [] [] []) → ⊥) × (Fits (held [] [] too_large [] []) → ⊥) × (Fits (held [] [] [] too_large []) → ⊥) × (Fits (held [] [] [] [] too_large) → ⊥)
not_the_buffers =
    (λ f. omega (arith, f.buffers.events.1.0), λ f. omega (arith, f.buffers.trees.1.0), λ f. omega (arith, f.buffers.errors.1.0), λ f. omega (arith, f.buffers.reports.1.0), λ f. omega (arith, f.buffers.pool.1.0))

-- a report of an expectation that is not a word
not_the_pool : SoFar [] (reported (record { message = 1; range = record { from = 1; to = 0 }; mark = 1; hint = 0; labelled = no_label; pool = large ∷ [] }) ∷ []) → ⊥
unfolding pool reports
not_the_pool s = omega (arith, s.pool_words.0)

-- 70 expectations of a run without tokens, whatever it is refused for later
not_the_expectations : (e : Entry) → Bounded e [] → (l m : List Push) → pushes (run_entry e []) ≡ l ++ m → length (pool (reports l)) ≡ 70 → ⊥
not_the_expectations e b l m h n = omega (arith, b.pool_so_far l m h, n)

-- a node kind of more than a byte, a distance past all events, a name of more tokens than there are, and more children
-- than rows
not_the_events : (AllFit 14 1 (StartNode 256 0 ∷ []) → ⊥) × (AllFit 14 1 (StartNode 0 15 ∷ []) → ⊥) × (AllFit 14 1 (AddCombinedToken 2 ∷ []) → ⊥)
not_the_events = (λ a. omega (arith, a.0.0), λ a. omega (arith, a.0.1), λ a. omega (arith, a.0))

not_the_children : CountsWithin 1 (subtree 0 (leaf 27 [] (leaf 29 [] nil)) nil) → ⊥
unfolding count
not_the_children c = omega (arith, c.0)

-- two Names for one token; and a Name past the tokens, one past the bytes, one that ends before it starts
not_the_names : (e : Entry) (ts : List Token) → Bounded e ts → length ts ≡ 1 → (setting : ℕ) (bytes : List ℕ) → length (names_of setting e bytes ts) ≡ 2 → ⊥
not_the_names e ts b t setting bytes h = omega (arith, b.names setting bytes, t, h)

abbrev a_name : ℕ → ℕ → ℕ → List NameAt
a_name t s e = record { first_token = t; start = s; end = e } ∷ []

not_inside : (NamesWithin 1 2 (a_name 1 0 2) → ⊥) × (NamesWithin 1 2 (a_name 0 2 3) → ⊥) × (NamesWithin 1 2 (a_name 0 2 1) → ⊥)
not_inside = (λ n. omega (arith, n.0), λ n. omega (arith, n.2), λ n. omega (arith, n.1))

-- ---------------------------------------------------------------- the bounds themselves

-- for one token, and for none
bounds : (most_events 1 ≡ 14) × (most_reports 1 ≡ 4) × (most_expectations 1 ≡ 276) × (most_rows 1 ≡ 7)
bounds = (refl, refl, refl, refl)

bounds_of_nothing : (most_events 0 ≡ 1) × (most_reports 0 ≡ 1) × (most_expectations 0 ≡ 69) × (most_rows 0 ≡ 1)
bounds_of_nothing = (refl, refl, refl, refl)

-- files at both limits of cause 2 are spoken of
at_the_limits : (ts : List Token) → length ts ≡ 65536 → byte_count ts ≡ 1048576 → WithinLimits ts
at_the_limits ts t b = record { tokens = omega arith; input = omega arith }
