-- The premises of the crate's statements can be met: calls, computed, and what the statements then say of them. A
-- statement whose premise no call meets, or that has lost a conclusion named here, is refused by this file.
use Prim.Native.Nat.{ℕ, ◌+◌, ◌≤◌, ◌<◌}
use native.Mathlib.Omega.{arith}
use mathlib.Core.Path.{◌≡◌, refl, sym, subst}
use mathlib.Core.List.{List, [], ◌∷◌}
use mathlib.Core.Logic.{◌⊎◌, inl}
use lib.ListN.{take, replicate}
use Rattle.definitions.specs.Call.{Buffers, Answer, Result, call}
use Rattle.laws.specs.TreeRows.{Rows, end, leaf, node, read}
use Rattle.strict.specs.AsItWas as W
use Rattle.strict.specs.Settings.{SameTree}
use Rattle.strict.specs.Exactly.{underscore, InLabel, LeadingDigit, KeepsRule, raw_tokens, Unbraced, here, Judged, in_label, in_phandle, deeper, past_leaf, past_node, Breaks, tree_of, report_row, mark, Exact}
use Rattle.strict.proofs.AsItWas.{as_it_was}
use Rattle.strict.proofs.Settings.{one_strict_setting, leaves_tree_alone, same_refusals, old_refusals}
use Rattle.strict.proofs.Exactly.{exactly}

-- buffers full of sevens: so many tree numbers and report numbers, and enough of the others
abbrev pub room : ℕ → ℕ → Buffers
room t r = record { events = replicate 100 7; trees = replicate t 7; errors = replicate 9 7; reports = replicate r 7; pool = replicate 50 7 }

abbrev accepts : ℕ → ℕ → ℕ → Answer
accepts t r x = record { number = 0; place = 0; tree_count = t; error_count = 0; report_count = r; expectation_count = x }

abbrev refuses : ℕ → ℕ → Answer
refuses n p = record { number = n; place = p; tree_count = 0; error_count = 0; report_count = 0; expectation_count = 0 }

-- `1a:&2b{};`
abbrev pub two : List ℕ
two = 49 ∷ 97 ∷ 58 ∷ 38 ∷ 50 ∷ 98 ∷ 123 ∷ 125 ∷ 59 ∷ []

abbrev pub two_rows : List ℕ
two_rows = 35 ∷ 1 ∷ 27 ∷ 1 ∷ 31 ∷ 1 ∷ 30 ∷ 1 ∷ 35 ∷ 1 ∷ 27 ∷ 1 ∷ 37 ∷ 1 ∷ 38 ∷ 1 ∷ 29 ∷ 1 ∷ []

-- `1a:c}`, which has a report of its own, with five expectations
abbrev own : List ℕ
own = 49 ∷ 97 ∷ 58 ∷ 99 ∷ 125 ∷ []

abbrev own_rows : List ℕ
own_rows = 35 ∷ 1 ∷ 27 ∷ 1 ∷ 31 ∷ 1 ∷ 27 ∷ 1 ∷ 38 ∷ 1 ∷ []

-- their calls, in the old setting and in the strict one
abbrev old_own : Result
old_own = call 1 0 own own_rows (room 55 18)

abbrev new_own : Result
new_own = call 1 1 own own_rows (room 55 18)

abbrev new_two : Result
new_two = call 1 1 two two_rows (room 55 18)

-- ---------------------------------------------------------------- as it was

-- the call as it was accepts, and refuses
was : ((W.call 1 own own_rows (room 55 18)).answer ≡ accepts 7 1 5) × ((W.call 1 own own_rows (room 55 8)).answer ≡ refuses 7 4) × ((W.call 1 two two_rows (room 54 18)).answer ≡ refuses 8 0) × ((W.call 5 two two_rows (room 54 18)).answer ≡ refuses 1 0) × ((W.call 1 two (35 ∷ []) (room 54 18)).answer ≡ refuses 3 0)
unfolding W.call
was = (refl, refl, refl, refl, refl)

is_as_it_was : old_own ≡ W.call 1 own own_rows (room 55 18)
is_as_it_was = as_it_was 1 own own_rows (room 55 18)

-- ---------------------------------------------------------------- two settings

-- in the old one, and in two others
counted : (old_own.answer ≡ accepts 7 1 5) × (new_own.answer ≡ accepts 7 2 5) × ((call 1 4294967295 own own_rows (room 55 18)).answer ≡ accepts 7 2 5)
unfolding call
counted = (refl, refl, refl)

one : new_own ≡ call 1 4294967295 own own_rows (room 55 18)
one = one_strict_setting 1 1 4294967295 own own_rows (room 55 18) (λ e. omega arith) (λ e. omega arith)

same : SameTree new_own old_own
unfolding call
same = leaves_tree_alone 1 1 own own_rows (room 55 18) refl

-- what it says of them
same_numbers : (old_own.answer.number ≡ 0) × (old_own.buffers.trees ≡ new_own.buffers.trees) × (old_own.buffers.errors ≡ new_own.buffers.errors) × (old_own.buffers.pool ≡ new_own.buffers.pool) × (old_own.buffers.events ≡ new_own.buffers.events)
same_numbers = (same.number, same.trees, same.errors, same.pool, same.events)

same_counts : (old_own.answer.tree_count ≡ new_own.answer.tree_count) × (old_own.answer.error_count ≡ new_own.answer.error_count) × (old_own.answer.expectation_count ≡ new_own.answer.expectation_count) × (old_own.answer.report_count ≤ new_own.answer.report_count)
same_counts = (same.tree_count, same.error_count, same.expectation_count, same.no_fewer)

-- its own report comes first, and then the Name's
first_report : (take 9 old_own.buffers.reports ≡ take 9 new_own.buffers.reports) × (take 18 new_own.buffers.reports ≡ 1 ∷ 4 ∷ 5 ∷ 4 ∷ 0 ∷ 5 ∷ 0 ∷ 0 ∷ 0 ∷ 8 ∷ 0 ∷ 2 ∷ 0 ∷ 5 ∷ 0 ∷ 0 ∷ 0 ∷ 0 ∷ [])
unfolding call
first_report = (same.first_reports, refl)

-- refused: 8 in both; 8 and 7; accepted and 7; and 7 in both
refused : ((call 1 0 two two_rows (room 54 18)).answer ≡ refuses 8 0) × ((call 1 1 two two_rows (room 54 18)).answer ≡ refuses 8 0) × ((call 1 0 two two_rows (room 3 17)).answer ≡ refuses 8 0) × ((call 1 1 two two_rows (room 3 17)).answer ≡ refuses 7 4) × ((call 1 0 two two_rows (room 55 8)).answer ≡ accepts 11 0 0) × ((call 1 1 two two_rows (room 55 8)).answer ≡ refuses 7 0) × ((call 1 0 own own_rows (room 55 8)).answer ≡ refuses 7 4) × ((call 1 1 own own_rows (room 55 8)).answer ≡ refuses 7 4)
unfolding call
refused = (refl, refl, refl, refl, refl, refl, refl, refl)

same_eight : call 1 0 two two_rows (room 54 18) ≡ call 1 1 two two_rows (room 54 18)
unfolding call
same_eight = same_refusals 1 1 two two_rows (room 54 18) (λ e. omega arith) (λ e. omega arith)

-- the old setting's 8, which is a 7 here: it is the second alternative that holds
eight_or_seven : (call 1 1 two two_rows (room 3 17) ≡ call 1 0 two two_rows (room 3 17)) ⊎ (((call 1 0 two two_rows (room 3 17)).answer.number ≡ 8) × ((call 1 1 two two_rows (room 3 17)).answer.number ≡ 7))
unfolding call
eight_or_seven = old_refusals 1 1 two two_rows (room 3 17) (λ e. omega arith)

-- ---------------------------------------------------------------- exactly

-- the tree that a reader of the rows finds
abbrev pub tree : Rows
tree = node 0 9 1 (node 15 9 5 (node 19 3 2 (leaf 26 2 2 (leaf 31 1 1 end)) (node 21 3 2 (leaf 30 1 1 (leaf 26 2 2 end)) (leaf 37 1 1 (leaf 38 1 1 (leaf 29 1 1 end))))) end) end

tree_is : tree_of new_two ≡ tree
unfolding call read
tree_is = refl

-- a digit leads
not_one : KeepsRule (49 ∷ 97 ∷ []) → ⊥
unfolding LeadingDigit
not_one h = h.leads (record { least = omega arith; most = omega arith })

not_two : KeepsRule (50 ∷ 98 ∷ []) → ⊥
unfolding LeadingDigit
not_two h = h.leads (record { least = omega arith; most = omega arith })

-- the label's Name, and the reference's
pub label_breaks : Breaks two tree 0 0 2
label_breaks = record { judged = deeper (deeper (in_label here)); breaks = not_one }

no_brace : Unbraced (leaf 30 1 1 (leaf 26 2 2 end))
unfolding Unbraced
no_brace = (λ e. omega arith, (λ e. omega arith, tt))

pub reference_breaks : Breaks two tree 4 4 2
unfolding raw_tokens
reference_breaks = record { judged = deeper (deeper (past_node (in_phandle (past_leaf here) no_brace))); breaks = not_two }

said : Exact two 0 new_two
unfolding call
said = exactly 1 1 two two_rows (room 55 18) (λ e. omega arith) refl

-- each has its report
has_report : (q : ℕ) × (0 ≤ q) × (q < 2) × (report_row new_two q ≡ 8 ∷ 4 ∷ 6 ∷ 4 ∷ 0 ∷ 0 ∷ 0 ∷ 0 ∷ 0 ∷ [])
unfolding call
has_report = said.each_name 4 4 2 (subst (λ (t : Rows). Breaks two t 4 4 2) (sym tree_is) reference_breaks)

-- and each report its Name, in order
has_name : (at : ℕ) × (byte : ℕ) × (width : ℕ) × Breaks two (tree_of new_two) at byte width × (report_row new_two 1 ≡ 8 ∷ byte ∷ (byte + width) ∷ at ∷ 0 ∷ 0 ∷ 0 ∷ 0 ∷ 0 ∷ [])
unfolding call
has_name = said.each_report 1 (omega arith) (omega arith)

ordered : mark new_two 0 < mark new_two 1
unfolding call
ordered = said.in_order 0 1 (omega arith) (omega arith) (omega arith)

-- ---------------------------------------------------------------- exactly: other calls

-- entry 2, `1a`: the root is the parent
abbrev root_call : Result
root_call = call 2 1 (49 ∷ 97 ∷ []) (35 ∷ 1 ∷ 27 ∷ 1 ∷ []) (room 10 9)

root_breaks : Breaks (49 ∷ 97 ∷ []) (tree_of root_call) 0 0 2
unfolding call read Unbraced
root_breaks = record { judged = in_phandle here (λ e. omega arith, tt); breaks = not_one }

root_report : (q : ℕ) × (0 ≤ q) × (q < 1) × (report_row root_call q ≡ 8 ∷ 0 ∷ 2 ∷ 0 ∷ 0 ∷ 0 ∷ 0 ∷ 0 ∷ 0 ∷ [])
unfolding call
root_report = (exactly 2 1 (49 ∷ 97 ∷ []) (35 ∷ 1 ∷ 27 ∷ 1 ∷ []) (room 10 9) (λ e. omega arith) refl).each_name 0 0 2 root_breaks

-- entry 2, `{1a}`: no report, so no Name breaks the rule there
abbrev braced_call : Result
braced_call = call 2 1 (123 ∷ 49 ∷ 97 ∷ 125 ∷ []) (37 ∷ 1 ∷ 35 ∷ 1 ∷ 27 ∷ 1 ∷ 38 ∷ 1 ∷ []) (room 20 9)

none_braced : (at byte width : ℕ) → Breaks (123 ∷ 49 ∷ 97 ∷ 125 ∷ []) (tree_of braced_call) at byte width → ⊥
unfolding call
none_braced at byte width h =
    let w = (exactly 2 1 (123 ∷ 49 ∷ 97 ∷ 125 ∷ []) (37 ∷ 1 ∷ 35 ∷ 1 ∷ 27 ∷ 1 ∷ 38 ∷ 1 ∷ []) (room 20 9) (λ e. omega arith) refl).each_name at byte width h in
    omega (arith, w.2)

-- `_:c{};`: judged, and the rule is kept
abbrev underscore_call : Result
underscore_call = call 1 1 (95 ∷ 58 ∷ 99 ∷ 123 ∷ 125 ∷ 59 ∷ []) (27 ∷ 1 ∷ 31 ∷ 1 ∷ 27 ∷ 1 ∷ 37 ∷ 1 ∷ 38 ∷ 1 ∷ 29 ∷ 1 ∷ []) (room 45 9)

underscore_judged : Judged 1 0 0 (tree_of underscore_call)
unfolding call read
underscore_judged = deeper (deeper (in_label here))

underscore_kept : KeepsRule (95 ∷ []) × (underscore_call.answer ≡ accepts 9 0 0)
unfolding call InLabel LeadingDigit
underscore_kept = (record { holds = (inl (underscore refl), tt); leads = λ d. omega (arith, d.most) }, refl)

-- `a,b:c{};`: three raw tokens, and a comma
abbrev comma_call : Result
comma_call = call 1 1 (97 ∷ 44 ∷ 98 ∷ 58 ∷ 99 ∷ 123 ∷ 125 ∷ 59 ∷ []) (27 ∷ 1 ∷ 2 ∷ 1 ∷ 27 ∷ 1 ∷ 31 ∷ 1 ∷ 27 ∷ 1 ∷ 37 ∷ 1 ∷ 38 ∷ 1 ∷ 29 ∷ 1 ∷ []) (room 45 9)

comma_name : (at : ℕ) × (byte : ℕ) × (width : ℕ) × Breaks (97 ∷ 44 ∷ 98 ∷ 58 ∷ 99 ∷ 123 ∷ 125 ∷ 59 ∷ []) (tree_of comma_call) at byte width × (8 ∷ 0 ∷ 3 ∷ 0 ∷ 0 ∷ 0 ∷ 0 ∷ 0 ∷ 0 ∷ [] ≡ 8 ∷ byte ∷ (byte + width) ∷ at ∷ 0 ∷ 0 ∷ 0 ∷ 0 ∷ 0 ∷ [])
unfolding call
comma_name = (exactly 1 1 (97 ∷ 44 ∷ 98 ∷ 58 ∷ 99 ∷ 123 ∷ 125 ∷ 59 ∷ []) (27 ∷ 1 ∷ 2 ∷ 1 ∷ 27 ∷ 1 ∷ 31 ∷ 1 ∷ 27 ∷ 1 ∷ 37 ∷ 1 ∷ 38 ∷ 1 ∷ 29 ∷ 1 ∷ []) (room 45 9) (λ e. omega arith) refl).each_report 0 (omega arith) (omega arith)
