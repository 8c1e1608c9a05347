-- Wrong answers are refused by the crate's statements: for each sentence a case in which it does not hold, computed. A
-- statement that allows more under the same name is refused by this file.
use Prim.Native.Nat.{ℕ, ◌+◌, ◌*◌, ◌<◌}
use native.Mathlib.Omega.{arith}
use mathlib.Core.Path.{◌≡◌, refl, ap, sym, ◌∙◌, subst}
use mathlib.Core.List.{List, [], ◌∷◌, ◌++◌}
use mathlib.Core.Logic.{◌⊎◌, inl, inr}
use lib.ListN.{take, drop, get_or}
use Rattle.definitions.specs.Call.{Result, call}
use Rattle.laws.specs.TreeRows.{Rows, end, leaf, node, read}
use Rattle.strict.specs.AsItWas as W
use Rattle.strict.specs.Settings.{SameTree}
use Rattle.strict.specs.Exactly.{Letter, lower, upper, underscore, Digit, InLabel, LeadingDigit, KeepsRule, Unbraced, Judged, Exact}
use Rattle.strict.proofs.Judged.{JudgedWays, judged_ways}
use Rattle.strict.proofs.Witnesses.{room, two, two_rows, reference_breaks}

-- ---------------------------------------------------------------- as it was

-- the strict setting is not as it was
strict_is_new : call 1 1 two two_rows (room 55 18) ≡ W.call 1 two two_rows (room 55 18) → ⊥
unfolding call W.call
strict_is_new e = let n : ◌≡◌ {A = ℕ} 2 0 = ap (λ (r : Result). r.answer.report_count) e in omega arith

-- nor is the old one strict
two_settings : call 1 1 two two_rows (room 55 18) ≡ call 1 0 two two_rows (room 55 18) → ⊥
unfolding call
two_settings e = let n : ◌≡◌ {A = ℕ} 2 0 = ap (λ (r : Result). r.answer.report_count) e in omega arith

-- ---------------------------------------------------------------- the same tree

-- an answer: number, counts of lexical errors, reports and expectations; tree numbers, lexical errors, reports, pool
abbrev wrote : ℕ → ℕ → ℕ → ℕ → List ℕ → List ℕ → List ℕ → List ℕ → Result
wrote n e r x trees errors reports pool =
    record {
      answer = record { number = n; place = 0; tree_count = 1; error_count = e; report_count = r; expectation_count = x };
      buffers = record { events = []; trees = trees; errors = errors; reports = reports; pool = pool };
    }

-- a report with an expectation
abbrev a_report : List ℕ
a_report = 1 ∷ 4 ∷ 5 ∷ 4 ∷ 0 ∷ 1 ∷ 0 ∷ 0 ∷ 0 ∷ []

-- a Name's
abbrev name_report : List ℕ
name_report = 8 ∷ 0 ∷ 2 ∷ 0 ∷ 1 ∷ 0 ∷ 0 ∷ 0 ∷ 0 ∷ []

-- the old setting's answer
abbrev old : Result
old = wrote 0 0 1 1 (0 ∷ 0 ∷ 5 ∷ 1 ∷ []) (0 ∷ []) a_report (28 ∷ [])

old_refuses : SameTree (wrote 0 0 1 1 (0 ∷ 0 ∷ 5 ∷ 1 ∷ []) (0 ∷ []) a_report (28 ∷ [])) (wrote 8 0 1 1 (0 ∷ 0 ∷ 5 ∷ 1 ∷ []) (0 ∷ []) a_report (28 ∷ [])) → ⊥
old_refuses s = omega (arith, s.number)

another_tree : SameTree (wrote 0 0 1 1 (0 ∷ 0 ∷ 5 ∷ 2 ∷ []) (0 ∷ []) a_report (28 ∷ [])) old → ⊥
another_tree s = let e : ◌≡◌ {A = ℕ} 1 2 = ap (λ (l : List ℕ). get_or l 3 0) s.trees in omega arith

another_error : SameTree (wrote 0 0 1 1 (0 ∷ 0 ∷ 5 ∷ 1 ∷ []) (74 ∷ []) a_report (28 ∷ [])) old → ⊥
another_error s = let e : ◌≡◌ {A = ℕ} 0 74 = ap (λ (l : List ℕ). get_or l 0 0) s.errors in omega arith

error_counted : SameTree (wrote 0 1 1 1 (0 ∷ 0 ∷ 5 ∷ 1 ∷ []) (0 ∷ []) a_report (28 ∷ [])) old → ⊥
error_counted s = omega (arith, s.error_count)

another_expectation : SameTree (wrote 0 0 1 1 (0 ∷ 0 ∷ 5 ∷ 1 ∷ []) (0 ∷ []) a_report (29 ∷ [])) old → ⊥
another_expectation s = let e : ◌≡◌ {A = ℕ} 28 29 = ap (λ (l : List ℕ). get_or l 0 0) s.pool in omega arith

expectation_counted : SameTree (wrote 0 0 1 2 (0 ∷ 0 ∷ 5 ∷ 1 ∷ []) (0 ∷ []) a_report (28 ∷ [])) old → ⊥
expectation_counted s = omega (arith, s.expectation_count)

-- a report of the old setting's is lost, and the Name's stands before it
report_lost : SameTree (wrote 0 0 0 1 (0 ∷ 0 ∷ 5 ∷ 1 ∷ []) (0 ∷ []) a_report (28 ∷ [])) old → ⊥
report_lost s = omega (arith, s.no_fewer)

name_first : SameTree (wrote 0 0 2 1 (0 ∷ 0 ∷ 5 ∷ 1 ∷ []) (0 ∷ []) (name_report ++ a_report) (28 ∷ [])) old → ⊥
name_first s = let e : ◌≡◌ {A = ℕ} 1 8 = ap (λ (l : List ℕ). get_or l 0 0) s.first_reports in omega arith

-- ---------------------------------------------------------------- the rule

-- the first and the last letters, and the bytes beside them
letters : Letter 65 × Letter 90 × Letter 95 × Letter 97 × Letter 122
letters = (upper (omega arith) (omega arith), upper (omega arith) (omega arith), underscore refl, lower (omega arith) (omega arith), lower (omega arith) (omega arith))

beside_letters : (b : ℕ) → Letter b → (b ≡ 64 → ⊥) × (b ≡ 91 → ⊥) × (b ≡ 94 → ⊥) × (b ≡ 96 → ⊥) × (b ≡ 123 → ⊥)
beside_letters b (lower h g) = (λ e. omega arith, λ e. omega arith, λ e. omega arith, λ e. omega arith, λ e. omega arith)
beside_letters b (upper h g) = (λ e. omega arith, λ e. omega arith, λ e. omega arith, λ e. omega arith, λ e. omega arith)
beside_letters b (underscore h) = (λ e. omega arith, λ e. omega arith, λ e. omega arith, λ e. omega arith, λ e. omega arith)

-- digits
digits : Digit 48 × Digit 57 × (Digit 47 → ⊥) × (Digit 58 → ⊥)
digits = (record { least = omega arith; most = omega arith }, record { least = omega arith; most = omega arith }, λ d. omega (arith, d.least), λ d. omega (arith, d.most))

-- `a,`, and a first byte that is none of the three
comma_inside : KeepsRule (97 ∷ 44 ∷ []) → ⊥
unfolding InLabel
comma_inside h = go h.holds.1.0
  where
    go : Letter 44 ⊎ Digit 44 → ⊥
    go (inl (lower a b)) = omega (arith, a)
    go (inl (upper a b)) = omega (arith, a)
    go (inl (underscore a)) = omega (arith, a)
    go (inr d) = omega (arith, d.least)

hash_first : KeepsRule (35 ∷ 97 ∷ []) → ⊥
unfolding InLabel
hash_first h = go h.holds.0
  where
    go : Letter 35 ⊎ Digit 35 → ⊥
    go (inl (lower a b)) = omega (arith, a)
    go (inl (upper a b)) = omega (arith, a)
    go (inl (underscore a)) = omega (arith, a)
    go (inr d) = omega (arith, d.least)

-- ---------------------------------------------------------------- exactly

-- an accepted answer: so many tree rows, and so many reports
abbrev says : ℕ → List ℕ → ℕ → List ℕ → Result
says nt trees nr reports =
    record {
      answer = record { number = 0; place = 0; tree_count = nt; error_count = 0; report_count = nr; expectation_count = 0 };
      buffers = record { events = []; trees = trees; errors = []; reports = reports; pool = [] };
    }

-- `1a:&2b{};`, whose tree rows are right
abbrev with_reports : ℕ → List ℕ → Result
with_reports = says 11 (0 ∷ 0 ∷ 9 ∷ 1 ∷ 0 ∷ 0 ∷ 15 ∷ 9 ∷ 5 ∷ 0 ∷ 0 ∷ 19 ∷ 3 ∷ 2 ∷ 1 ∷ 1 ∷ 26 ∷ 2 ∷ 2 ∷ 2 ∷ 1 ∷ 31 ∷ 1 ∷ 1 ∷ 2 ∷ 0 ∷ 21 ∷ 3 ∷ 2 ∷ 1 ∷ 1 ∷ 30 ∷ 1 ∷ 1 ∷ 5 ∷ 1 ∷ 26 ∷ 2 ∷ 2 ∷ 5 ∷ 1 ∷ 37 ∷ 1 ∷ 1 ∷ 1 ∷ 1 ∷ 38 ∷ 1 ∷ 1 ∷ 1 ∷ 1 ∷ 29 ∷ 1 ∷ 1 ∷ 1 ∷ [])

abbrev first_name : List ℕ
first_name = 8 ∷ 0 ∷ 2 ∷ 0 ∷ 0 ∷ 0 ∷ 0 ∷ 0 ∷ 0 ∷ []

abbrev second_name : List ℕ
second_name = 8 ∷ 4 ∷ 6 ∷ 4 ∷ 0 ∷ 0 ∷ 0 ∷ 0 ∷ 0 ∷ []

-- the reference's row among so many, by the statement
reference_row : (n : ℕ) (l : List ℕ) → Exact two 0 (with_reports n l) → (q : ℕ) × (q < n) × (take 9 (drop (9 * q) l) ≡ second_name)
unfolding read
reference_row n l x = let w = x.each_name 4 4 2 reference_breaks in (w.0, w.2, w.3)

-- one row that is another
other_row : (n i a b : ℕ) (l : List ℕ) → n ≡ 1 → get_or (take 9 l) i 0 ≡ a → get_or second_name i 0 ≡ b → (a ≡ b → ⊥) → Exact two 0 (with_reports n l) → ⊥
other_row n i a b l e f g h x =
    let w : (q : ℕ) × (q < n) × (take 9 (drop (9 * q) l) ≡ second_name) = reference_row n l x in
    let z : 9 * w.0 ≡ 0 = omega (arith, w.1) in
    h (sym f ∙ ap (λ (r : List ℕ). get_or r i 0) (subst (λ (m : ℕ). take 9 (drop m l) ≡ second_name) z w.2) ∙ g)

-- the reference's report is missing
missing : Exact two 0 (with_reports 1 first_name) → ⊥
missing = other_row 1 1 0 4 first_name refl refl refl (λ e. omega arith)

none : Exact two 0 (with_reports 0 []) → ⊥
none x = omega (arith, (reference_row 0 [] x).1)

-- it has the mark of the `&`, covers the `&` too, is another message, has an expectation, a hint, a label
mark_before : Exact two 0 (with_reports 1 (8 ∷ 4 ∷ 6 ∷ 3 ∷ 0 ∷ 0 ∷ 0 ∷ 0 ∷ 0 ∷ [])) → ⊥
mark_before = other_row 1 3 3 4 (8 ∷ 4 ∷ 6 ∷ 3 ∷ 0 ∷ 0 ∷ 0 ∷ 0 ∷ 0 ∷ []) refl refl refl (λ e. omega arith)

covers_more : Exact two 0 (with_reports 1 (8 ∷ 3 ∷ 6 ∷ 4 ∷ 0 ∷ 0 ∷ 0 ∷ 0 ∷ 0 ∷ [])) → ⊥
covers_more = other_row 1 1 3 4 (8 ∷ 3 ∷ 6 ∷ 4 ∷ 0 ∷ 0 ∷ 0 ∷ 0 ∷ 0 ∷ []) refl refl refl (λ e. omega arith)

covers_less : Exact two 0 (with_reports 1 (8 ∷ 4 ∷ 5 ∷ 4 ∷ 0 ∷ 0 ∷ 0 ∷ 0 ∷ 0 ∷ [])) → ⊥
covers_less = other_row 1 2 5 6 (8 ∷ 4 ∷ 5 ∷ 4 ∷ 0 ∷ 0 ∷ 0 ∷ 0 ∷ 0 ∷ []) refl refl refl (λ e. omega arith)

another_message : Exact two 0 (with_reports 1 (6 ∷ 4 ∷ 6 ∷ 4 ∷ 0 ∷ 0 ∷ 0 ∷ 0 ∷ 0 ∷ [])) → ⊥
another_message = other_row 1 0 6 8 (6 ∷ 4 ∷ 6 ∷ 4 ∷ 0 ∷ 0 ∷ 0 ∷ 0 ∷ 0 ∷ []) refl refl refl (λ e. omega arith)

another_pool : Exact two 0 (with_reports 1 (8 ∷ 4 ∷ 6 ∷ 4 ∷ 1 ∷ 0 ∷ 0 ∷ 0 ∷ 0 ∷ [])) → ⊥
another_pool = other_row 1 4 1 0 (8 ∷ 4 ∷ 6 ∷ 4 ∷ 1 ∷ 0 ∷ 0 ∷ 0 ∷ 0 ∷ []) refl refl refl (λ e. omega arith)

an_expectation : Exact two 0 (with_reports 1 (8 ∷ 4 ∷ 6 ∷ 4 ∷ 0 ∷ 1 ∷ 0 ∷ 0 ∷ 0 ∷ [])) → ⊥
an_expectation = other_row 1 5 1 0 (8 ∷ 4 ∷ 6 ∷ 4 ∷ 0 ∷ 1 ∷ 0 ∷ 0 ∷ 0 ∷ []) refl refl refl (λ e. omega arith)

a_hint : Exact two 0 (with_reports 1 (8 ∷ 4 ∷ 6 ∷ 4 ∷ 0 ∷ 0 ∷ 1 ∷ 0 ∷ 0 ∷ [])) → ⊥
a_hint = other_row 1 6 1 0 (8 ∷ 4 ∷ 6 ∷ 4 ∷ 0 ∷ 0 ∷ 1 ∷ 0 ∷ 0 ∷ []) refl refl refl (λ e. omega arith)

a_label : Exact two 0 (with_reports 1 (8 ∷ 4 ∷ 6 ∷ 4 ∷ 0 ∷ 0 ∷ 0 ∷ 4 ∷ 6 ∷ [])) → ⊥
a_label = other_row 1 8 6 0 (8 ∷ 4 ∷ 6 ∷ 4 ∷ 0 ∷ 0 ∷ 0 ∷ 4 ∷ 6 ∷ []) refl refl refl (λ e. omega arith)

-- one is doubled; they stand in the other order
doubled : Exact two 0 (with_reports 3 (first_name ++ (first_name ++ second_name))) → ⊥
doubled x = omega (arith, x.in_order 0 1 (omega arith) (omega arith) (omega arith))

reversed : Exact two 0 (with_reports 2 (second_name ++ first_name)) → ⊥
reversed x = omega (arith, x.in_order 0 1 (omega arith) (omega arith) (omega arith))

-- ---------------------------------------------------------------- reports of other Names

-- leaves alone judge none
abbrev Leaves : Rows → Type 0
Leaves end = Unit {0}
Leaves (leaf k w n f) = Leaves f
Leaves (node k w n c f) = ⊥

none_in_leaves : {v a y : ℕ} (r : Rows) → Leaves r → Judged v a y r → ⊥
none_in_leaves end l h = judged_ways h
none_in_leaves {v = v} {a = a} {y = y} (leaf k w n f) l h = let w = judged_ways h in none_in_leaves {v = v} {a = w.0} {y = w.1} f l w.4
none_in_leaves (node k w n c f) l h = l

-- entry 2, `{1a}`: the reference is braced
braced : Exact (123 ∷ 49 ∷ 97 ∷ 125 ∷ []) 0 (says 4 (0 ∷ 21 ∷ 4 ∷ 3 ∷ 0 ∷ 1 ∷ 37 ∷ 1 ∷ 1 ∷ 0 ∷ 1 ∷ 26 ∷ 2 ∷ 2 ∷ 0 ∷ 1 ∷ 38 ∷ 1 ∷ 1 ∷ 0 ∷ []) 1 (8 ∷ 1 ∷ 3 ∷ 1 ∷ 0 ∷ 0 ∷ 0 ∷ 0 ∷ 0 ∷ [])) → ⊥
unfolding read Unbraced
braced x = let w = x.each_report 0 (omega arith) (omega arith) in go (judged_ways w.3.judged)
  where
    go : {v a y : ℕ} → JudgedWays v a y (node 21 4 3 (leaf 37 1 1 (leaf 26 2 2 (leaf 38 1 1 end))) end) → ⊥
    go (inl (inl e, h)) = omega arith
    go (inl (inr e, h)) = e.1.0 refl
    go (inr (inl h)) = none_in_leaves (leaf 37 1 1 (leaf 26 2 2 (leaf 38 1 1 end))) tt h
    go (inr (inr h)) = none_in_leaves end tt h.4

-- `1a{};`: the name of a node
node_name : Exact (49 ∷ 97 ∷ 123 ∷ 125 ∷ 59 ∷ []) 0 (says 6 (0 ∷ 0 ∷ 5 ∷ 1 ∷ 0 ∷ 0 ∷ 15 ∷ 5 ∷ 4 ∷ 0 ∷ 1 ∷ 26 ∷ 2 ∷ 2 ∷ 1 ∷ 1 ∷ 37 ∷ 1 ∷ 1 ∷ 1 ∷ 1 ∷ 38 ∷ 1 ∷ 1 ∷ 1 ∷ 1 ∷ 29 ∷ 1 ∷ 1 ∷ 1 ∷ []) 1 (8 ∷ 0 ∷ 2 ∷ 0 ∷ 0 ∷ 0 ∷ 0 ∷ 0 ∷ 0 ∷ [])) → ⊥
unfolding read
node_name x = let w = x.each_report 0 (omega arith) (omega arith) in in_file (judged_ways w.3.judged)
  where
    in_node : {v a y : ℕ} → JudgedWays v a y (node 15 5 4 (leaf 26 2 2 (leaf 37 1 1 (leaf 38 1 1 (leaf 29 1 1 end)))) end) → ⊥
    in_node (inl (inl e, h)) = omega arith
    in_node (inl (inr e, h)) = omega (arith, e.0)
    in_node (inr (inl h)) = none_in_leaves (leaf 26 2 2 (leaf 37 1 1 (leaf 38 1 1 (leaf 29 1 1 end)))) tt h
    in_node (inr (inr h)) = none_in_leaves end tt h.4

    in_file : {v a y : ℕ} → JudgedWays v a y (node 0 5 1 (node 15 5 4 (leaf 26 2 2 (leaf 37 1 1 (leaf 38 1 1 (leaf 29 1 1 end)))) end) end) → ⊥
    in_file (inl (inl e, h)) = omega arith
    in_file (inl (inr e, h)) = omega (arith, e.0)
    in_file (inr (inl h)) = in_node (judged_ways h)
    in_file (inr (inr h)) = none_in_leaves end tt h.4

-- `_:c{};`: a label that keeps the rule
kept_label : Exact (95 ∷ 58 ∷ 99 ∷ 123 ∷ 125 ∷ 59 ∷ []) 0 (says 9 (0 ∷ 0 ∷ 6 ∷ 1 ∷ 0 ∷ 0 ∷ 15 ∷ 6 ∷ 5 ∷ 0 ∷ 0 ∷ 19 ∷ 2 ∷ 2 ∷ 1 ∷ 1 ∷ 26 ∷ 1 ∷ 1 ∷ 2 ∷ 1 ∷ 31 ∷ 1 ∷ 1 ∷ 2 ∷ 1 ∷ 26 ∷ 1 ∷ 1 ∷ 1 ∷ 1 ∷ 37 ∷ 1 ∷ 1 ∷ 1 ∷ 1 ∷ 38 ∷ 1 ∷ 1 ∷ 1 ∷ 1 ∷ 29 ∷ 1 ∷ 1 ∷ 1 ∷ []) 1 (8 ∷ 0 ∷ 1 ∷ 0 ∷ 0 ∷ 0 ∷ 0 ∷ 0 ∷ 0 ∷ [])) → ⊥
unfolding InLabel LeadingDigit
kept_label x =
    let w = x.each_report 0 (omega arith) (omega arith) in
    let e : 0 ≡ w.1 = ap (λ (l : List ℕ). get_or l 1 0) w.4 in
    let f : 1 ≡ w.1 + w.2 = ap (λ (l : List ℕ). get_or l 2 0) w.4 in
    let g : 1 ≡ w.2 = omega arith in
    w.3.breaks (rw (← e, ← g) (record { holds = (inl (underscore refl), tt); leads = λ d. omega (arith, d.most) }))
