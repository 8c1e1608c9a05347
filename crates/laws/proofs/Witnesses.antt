-- The premises of the crate's statements can be met: accepted calls, computed, and what the statements then say of
-- them. A statement whose premise no call meets, or that has lost a conclusion named here, is refused by this file.
use Prim.Native.Nat.{ℕ, zero, suc}
use mathlib.Core.Path.{◌≡◌, refl, ap, sym, ◌∙◌}
use mathlib.Core.Bool.{cond}
use mathlib.Core.List.{List, [], ◌∷◌, ◌++◌}
use lib.Dec.{ltb}
use lib.ListN.{length, take, replicate}
use Rattle.definitions.specs.Token.{tokens_of}
use Rattle.definitions.specs.Grammar.{Entry, Cells, whole}
use Rattle.definitions.specs.Call.{Buffers, for, entry_of, call}
use Rattle.laws.specs.TreeRows.{Rows, end, leaf, node, preorder, Counts, read}
use Rattle.laws.specs.Lossless.{Leaf, leaves, errors_in, Lossless}
use Rattle.laws.specs.Limits.{Moment, Limited, entry_moments}
use Rattle.laws.proofs.Lossless.{nothing_lost}
use Rattle.laws.proofs.Limits.{limits}

-- buffers of n numbers each, full of sevens
abbrev lent : ℕ → Buffers
lent n = let l : List ℕ = replicate n 7 in record { events = l; trees = l; errors = l; reports = l; pool = l }

-- ---------------------------------------------------------------- nothing lost

-- ` a,b;` and a backtick: trivia, a name of three raw tokens, a lexical error
abbrev input : List ℕ
input = 32 ∷ 97 ∷ 44 ∷ 98 ∷ 59 ∷ 96 ∷ []

abbrev numbers : List ℕ
numbers = 0 ∷ 1 ∷ 27 ∷ 1 ∷ 2 ∷ 1 ∷ 27 ∷ 1 ∷ 29 ∷ 1 ∷ 74 ∷ 1 ∷ []

-- every entry accepts them
four : ((call 1 0 input numbers (lent 100)).answer.number ≡ 0) × ((call 2 0 input numbers (lent 100)).answer.number ≡ 0) × ((call 3 0 input numbers (lent 100)).answer.number ≡ 0) × ((call 4 0 input numbers (lent 100)).answer.number ≡ 0)
unfolding call
four = (refl, refl, refl, refl)

said : (e : Entry) × (entry_of 1 ≡ for e) × Lossless e input (tokens_of numbers) (call 1 0 input numbers (lent 100))
unfolding call
said = nothing_lost 1 0 input numbers (lent 100) refl

-- the tree that the statement speaks of, its leaves, and the row of the lexical error
abbrev tree : Rows
tree = node 0 6 3 (leaf 0 1 1 (node 16 4 2 (leaf 26 3 3 (leaf 29 1 1 end)) (node 10 1 1 (leaf 25 1 1 end) end))) end

tree_is : said.2.tree ≡ tree
unfolding call read
tree_is = sym said.2.read_back

the_only_tree : (other : Rows) → Counts other → preorder other ≡ preorder tree → other ≡ tree
the_only_tree other c e = said.2.only_one other c (e ∙ ap preorder (sym tree_is) ∙ sym said.2.written) ∙ tree_is

abbrev a_leaf : ℕ → ℕ → ℕ → Leaf
a_leaf k w n = record { kind = k; width = w; count = n }

leaves_are : leaves tree ≡ a_leaf 0 1 1 ∷ a_leaf 26 3 3 ∷ a_leaf 29 1 1 ∷ a_leaf 25 1 1 ∷ []
unfolding leaves
leaves_are = refl

errors_are : (take 3 (call 1 0 input numbers (lent 100)).buffers.errors ≡ 74 ∷ 5 ∷ 6 ∷ []) × (errors_in (tokens_of numbers) ≡ 1)
unfolding call errors_in tokens_of
errors_are = (refl, refl)

-- ---------------------------------------------------------------- limits

-- so many times a list, and then another
times : ℕ → List ℕ → List ℕ → List ℕ
times zero l m = m
times (suc n) l m = l ++ times n l m

-- so many times `#if`, and then `a;`, as cells
ifs : ℕ → List ℕ
unfolding times
ifs n = times n (35 ∷ 105 ∷ 102 ∷ []) (97 ∷ 59 ∷ [])

if_numbers : ℕ → List ℕ
unfolding times
if_numbers n = times n (4 ∷ 3 ∷ []) (27 ∷ 1 ∷ 29 ∷ 1 ∷ [])

-- 63 are accepted, and 64 calls are open in the innermost
all_deep : (call 4 0 (ifs 63) (if_numbers 63) (lent 6936)).answer.number ≡ 0
unfolding call ifs if_numbers
all_deep = refl

limited : (e : Entry) × (entry_of 4 ≡ for e) × Limited 64 (entry_moments e (tokens_of (if_numbers 63)))
limited = limits 4 0 (ifs 63) (if_numbers 63) (lent 6936) all_deep

-- and the 64th opens a 65th
over_deep : (call 4 0 (ifs 64) (if_numbers 64) (lent 6936)).answer ≡ record { number = 5; place = 64; tree_count = 0; error_count = 0; report_count = 0; expectation_count = 0 }
unfolding call ifs if_numbers
over_deep = refl

-- so many brackets around `1`, as a cell
brackets : ℕ → List ℕ
unfolding times
brackets n = times n (40 ∷ []) (49 ∷ times n (41 ∷ []) [])

bracket_numbers : ℕ → List ℕ
unfolding times
bracket_numbers n = times n (41 ∷ 1 ∷ []) (35 ∷ 1 ∷ times n (42 ∷ 1 ∷ []) [])

-- 63 are accepted: 64 calls are open in the innermost
all_open : (call 4 0 (brackets 63) (bracket_numbers 63) (lent 1143)).answer.number ≡ 0
unfolding call brackets bracket_numbers
all_open = refl

-- and the 64th bracket is a 65th call
over_open : (call 4 0 (brackets 64) (bracket_numbers 64) (lent 1143)).answer ≡ record { number = 5; place = 64; tree_count = 0; error_count = 0; report_count = 0; expectation_count = 0 }
unfolding call brackets bracket_numbers
over_open = refl

-- The places that a run comes to are those that it is at: of smaller files, the most open calls and the most pending
-- expectations at any of them. (For the files above they take the checker too long.)
greater : ℕ → ℕ → ℕ
greater m n = cond (ltb m n) n m

most : (Moment → ℕ) → List Moment → ℕ
unfolding greater
most f [] = 0
most f (x ∷ l) = let m = most f l in greater (f x) m

figures : List Moment → List ℕ
unfolding most
figures l = most (λ x. x.open_calls) l ∷ most (λ x. length x.state.pending) l ∷ []

places_are : (figures (entry_moments Cells (tokens_of (if_numbers 2))) ≡ 3 ∷ 6 ∷ []) × (figures (entry_moments Cells (tokens_of (bracket_numbers 3))) ≡ 4 ∷ 5 ∷ [])
unfolding if_numbers bracket_numbers tokens_of whole entry_moments figures
places_are = (refl, refl)
