-- The premises of the crate's statements can be met: a call whose buffers hold words, in either setting, all that its
-- run pushes, and Names that the strict setting reports. A statement that asks for more under the same name is refused
-- by this file.
use Prim.Native.Nat.{ℕ, zero, suc, ◌≤◌}
use native.Mathlib.Omega.{arith}
use mathlib.Core.Path.{◌≡◌, refl}
use mathlib.Core.List.{List, [], ◌∷◌}
use lib.ListN.{length, replicate}
use Rattle.definitions.specs.Layout.{TWO_TO_32}
use Rattle.definitions.specs.Token.{byte_count, tokens_of}
use Rattle.definitions.specs.Grammar.{SourceFile, ReferenceNoamp, whole, root_kind}
use Rattle.definitions.specs.Place.{root}
use Rattle.definitions.specs.Report.{Push, pushes}
use Rattle.definitions.specs.Strict.{reported_names}
use Rattle.definitions.specs.Call.{Buffers, run_entry, names_of, call}
use Rattle.bounds.specs.Numbers.{WithinLimits, SoFar, Below, Fits}
use Rattle.bounds.proofs.Numbers.{runs_bounded, so_far, numbers_fit}

-- a stray `}`, with buffers of the lengths that it needs
abbrev numbers : List ℕ
numbers = 38 ∷ 1 ∷ []

abbrev lent : Buffers
lent = let l : List ℕ = replicate 15 7 in record { events = l; trees = l; errors = l; reports = l; pool = l }

accepted : (call 1 0 (125 ∷ []) numbers lent).answer.number ≡ 0
unfolding call
accepted = refl

sevens : (n : ℕ) → Below TWO_TO_32 (replicate n 7)
sevens zero = tt
sevens (suc n) = (omega arith, sevens n)

fits : Fits (call 1 0 (125 ∷ []) numbers lent)
fits = numbers_fit 1 0 (125 ∷ []) numbers lent (record { events = sevens 15; trees = sevens 15; errors = sevens 15; reports = sevens 15; pool = sevens 15 })

within : WithinLimits (tokens_of numbers)
unfolding tokens_of byte_count
within = record { tokens = omega arith; input = omega arith }

-- all that its run pushes: an event and a row for the report, and the events of a node with its token
abbrev all : List Push
all = pushes (run_entry SourceFile (tokens_of numbers))

words : SoFar (tokens_of numbers) all
unfolding tokens_of run_entry whole pushes
words = so_far SourceFile (tokens_of numbers) within all [] refl

-- ---------------------------------------------------------------- the strict setting

-- `1a:&2b{};` with the largest setting, and buffers of more than it needs: both Names are reported
abbrev labels : List ℕ
labels = 49 ∷ 97 ∷ 58 ∷ 38 ∷ 50 ∷ 98 ∷ 123 ∷ 125 ∷ 59 ∷ []

abbrev label_numbers : List ℕ
label_numbers = 35 ∷ 1 ∷ 27 ∷ 1 ∷ 31 ∷ 1 ∷ 30 ∷ 1 ∷ 35 ∷ 1 ∷ 27 ∷ 1 ∷ 37 ∷ 1 ∷ 38 ∷ 1 ∷ 29 ∷ 1 ∷ []

abbrev wide : Buffers
wide = let l : List ℕ = replicate 60 7 in record { events = l; trees = l; errors = l; reports = l; pool = l }

strict : ((call 1 4294967295 labels label_numbers wide).answer.number ≡ 0) × ((call 1 4294967295 labels label_numbers wide).answer.report_count ≡ 2)
unfolding call
strict = (refl, refl)

strict_fits : Fits (call 1 4294967295 labels label_numbers wide)
strict_fits = numbers_fit 1 4294967295 labels label_numbers wide (record { events = sevens 60; trees = sevens 60; errors = sevens 60; reports = sevens 60; pool = sevens 60 })

-- an Ident row over `1a`: as many Names as tokens
as_many : (length (names_of 1 ReferenceNoamp (49 ∷ 97 ∷ []) (tokens_of (27 ∷ 2 ∷ []))) ≡ 1) × (length (tokens_of (27 ∷ 2 ∷ [])) ≡ 1)
unfolding run_entry root root_kind tokens_of reported_names
as_many = (refl, refl)

at_most_as_many : length (names_of 1 ReferenceNoamp (49 ∷ 97 ∷ []) (tokens_of (27 ∷ 2 ∷ []))) ≤ length (tokens_of (27 ∷ 2 ∷ []))
at_most_as_many = omega (arith, (runs_bounded ReferenceNoamp (tokens_of (27 ∷ 2 ∷ []))).names 1 (49 ∷ 97 ∷ []))
