-- What guards the statements: queries that meet their premises, computed, and answers that they exclude, each refuted
-- by the line that rules it out.
use Prim.Native.Nat.{ℕ, zero, suc, ◌+◌, ◌<◌}
use native.Mathlib.Omega.{arith}
use mathlib.Core.Path.{◌≡◌, refl, ap, sym, subst}
use mathlib.Core.Logic.{inl, inr, ⊎_elim}
use mathlib.Core.List.{List, [], ◌∷◌}
use lib.ListN.{drop, replicate, get_or}
use Rattle.basics.proofs.Lists.{rest_same}
use Rattle.definitions.specs.Call.{Buffers, Answer, Result, call}
use Rattle.definitions.specs.Caret.{Query, caret, range, ListResult, query_call}
use Rattle.rows.specs.ResultRows.{Row, cut_rows, tree_rows, over_leaves}
use Rattle.rows.specs.RowTree.{span, Chain, HasByte, IsLeaf}
use Rattle.queries.specs.AsParsed.{EndsAsParsed}
use Rattle.queries.specs.UnderCaret.{rows_left, on_list, ToLeaf}
use Rattle.queries.specs.PartsListed.{PartsListed}

-- ---------------------------------------------------------------- ` a;`

abbrev bytes : List ℕ
bytes = 32 ∷ 97 ∷ 59 ∷ []

abbrev tokens : List ℕ
tokens = 0 ∷ 1 ∷ 27 ∷ 1 ∷ 29 ∷ 1 ∷ []

abbrev lent : Buffers
lent = record { events = replicate 60 7; trees = replicate 27 7; errors = []; reports = []; pool = [] }

abbrev asks : Query → ListResult
asks q = query_call q 0 bytes tokens lent (replicate 5 7)

-- the root, the space, a property, its Name and its semicolon
abbrev rows : List Row
rows = (0 ∷ 0 ∷ 3 ∷ 2 ∷ 0 ∷ []) ∷ (1 ∷ 0 ∷ 1 ∷ 1 ∷ 0 ∷ []) ∷ (0 ∷ 16 ∷ 2 ∷ 2 ∷ 0 ∷ []) ∷ (1 ∷ 26 ∷ 1 ∷ 1 ∷ 2 ∷ []) ∷ (1 ∷ 29 ∷ 1 ∷ 1 ∷ 2 ∷ []) ∷ []

-- both queries are accepted, and leave these rows
pub caret_accepted : (asks (caret 1)).answer.number ≡ 0
unfolding query_call
caret_accepted = refl

pub caret_rows : rows_left (asks (caret 1)) ≡ rows
unfolding query_call tree_rows cut_rows
caret_rows = refl

pub caret_list : on_list (asks (caret 1)) ≡ 0 ∷ 2 ∷ 3 ∷ []
unfolding query_call
caret_list = refl

pub range_accepted : (asks (range 0 3)).answer.number ≡ 0
unfolding query_call
range_accepted = refl

pub range_list : on_list (asks (range 0 3)) ≡ 1 ∷ 2 ∷ []
unfolding query_call
range_list = refl

-- ---------------------------------------------------------------- chains that are excluded

-- the space ends at 1: "A leaf owns its first byte and not its end"
pub leaf_owns_its_end : ToLeaf rows 3 1 (0 ∷ 1 ∷ []) → ⊥
unfolding Chain over_leaves
leaf_owns_its_end t =
    let c : Chain rows 0 (1 ∷ []) t.leaf = subst (λ (x : List ℕ). Chain rows 0 x t.leaf) (sym (rest_same t.from_root)) t.chain in
    let h : HasByte rows 1 1 = subst (λ (i : ℕ). HasByte rows i 1) (sym c.1) (t.owns (omega arith)) in
    omega (arith, h.1)

-- the Name is no child of the root: the first is row 1, the second row 2
not_child : (n : ℕ) → n < 2 → 3 ≡ 1 + span n (drop 1 rows) → ⊥
unfolding span
not_child zero h e = omega (arith, e)
not_child (suc zero) h e = omega (arith, e)
not_child (suc (suc n)) h e = omega (arith, h)

-- the Name without the property above it
pub row_skipped : ToLeaf rows 3 1 (0 ∷ 3 ∷ []) → ⊥
unfolding Chain
row_skipped t =
    let c : Chain rows 0 (3 ∷ []) t.leaf = subst (λ (x : List ℕ). Chain rows 0 x t.leaf) (sym (rest_same t.from_root)) t.chain in
    not_child c.0.before c.0.among c.0.is

-- where a row starts in the buffer, in the place of its number
pub offsets_for_numbers : ToLeaf rows 3 1 (0 ∷ 10 ∷ 15 ∷ []) → ⊥
unfolding Chain
offsets_for_numbers t =
    let c : Chain rows 0 (10 ∷ 15 ∷ []) t.leaf = subst (λ (x : List ℕ). Chain rows 0 x t.leaf) (sym (rest_same t.from_root)) t.chain in
    omega (arith, c.0.exists)

-- `/delete-node/`: the last row is a node of width 0, under the directive
abbrev directive : List Row
directive = (0 ∷ 0 ∷ 13 ∷ 1 ∷ 0 ∷ []) ∷ (0 ∷ 11 ∷ 13 ∷ 2 ∷ 0 ∷ []) ∷ (1 ∷ 21 ∷ 13 ∷ 1 ∷ 1 ∷ []) ∷ (0 ∷ 12 ∷ 0 ∷ 0 ∷ 1 ∷ []) ∷ []

pub directive_rows : rows_left (query_call (caret 13) 0 (47 ∷ 100 ∷ 101 ∷ 108 ∷ 101 ∷ 116 ∷ 101 ∷ 45 ∷ 110 ∷ 111 ∷ 100 ∷ 101 ∷ 47 ∷ []) (21 ∷ 13 ∷ [])
    (record { events = replicate 60 7; trees = replicate 27 7; errors = []; reports = replicate 40 7; pool = replicate 40 7 }) (replicate 5 7)) ≡ directive
unfolding query_call tree_rows cut_rows
directive_rows = refl

pub last_row_for_last_leaf : ToLeaf directive 13 13 (0 ∷ 1 ∷ 3 ∷ []) → ⊥
unfolding Chain
last_row_for_last_leaf t =
    let c : Chain directive 0 (1 ∷ 3 ∷ []) t.leaf = subst (λ (x : List ℕ). Chain directive 0 x t.leaf) (sym (rest_same t.from_root)) t.chain in
    let h : IsLeaf directive 3 = subst (IsLeaf directive) (sym c.1.1) t.is_leaf in
    omega (arith, h.1)

-- ---------------------------------------------------------------- lists of parts that are excluded

-- the property starts where the range ends
pub touching : PartsListed rows 0 1 (1 ∷ 2 ∷ []) → ⊥
unfolding over_leaves
touching p = let s = p.shares 2 (inr (inl refl)) in omega (arith, s.before_end, s.has.0)

pub part_missed : PartsListed rows 0 3 (1 ∷ []) → ⊥
unfolding span over_leaves
part_missed p =
    ⊎_elim (λ e. (let z : ⊥ = omega (arith, e) in z)) (λ e. e)
    (p.all 2 (record { exists = omega arith; before = 1; among = omega arith; is = refl }) (record { byte = 1; after_start = omega arith; before_end = omega arith; has = (omega arith, omega arith) }))

pub out_of_order : PartsListed rows 0 3 (2 ∷ 1 ∷ []) → ⊥
out_of_order p = omega (arith, p.in_order.0)

pub listed_twice : PartsListed rows 0 3 (1 ∷ 1 ∷ 2 ∷ []) → ⊥
listed_twice p = omega (arith, p.in_order.0)

pub under_a_part : PartsListed rows 0 3 (1 ∷ 2 ∷ 3 ∷ []) → ⊥
under_a_part p = let c = p.part 3 (inr (inr (inl refl))) in not_child c.before c.among c.is

pub reversed_range : PartsListed rows 2 1 (2 ∷ []) → ⊥
reversed_range p = let s = p.shares 2 (inl refl) in omega (arith, s.after_start, s.before_end)

-- ---------------------------------------------------------------- ends that are excluded

abbrev accepted : Result
accepted = call 1 0 bytes tokens lent

abbrev left : Answer → List ℕ → Buffers → ListResult
left a list b = record { answer = a; list_count = 3; list = list; buffers = b }

pub accepted_parse : accepted.answer.number ≡ 0
unfolding call
accepted_parse = refl

-- what stood in the list's buffer is left after the list
pub not_cleared : EndsAsParsed lent (replicate 5 7) (0 ∷ 2 ∷ 3 ∷ []) accepted (left accepted.answer (0 ∷ 2 ∷ 3 ∷ 7 ∷ 7 ∷ []) accepted.buffers) → ⊥
not_cleared e =
    let z : ◌≡◌ {A = ℕ} 7 0 = ap (λ (l : List ℕ). get_or l 3 0) (e.kept accepted_parse (omega arith)).1.1.1 in
    omega (arith, z)

-- a list that does not fit is cut off
pub cut_off : EndsAsParsed lent (7 ∷ 7 ∷ []) (0 ∷ 2 ∷ 3 ∷ []) accepted (left accepted.answer (0 ∷ 2 ∷ []) accepted.buffers) → ⊥
cut_off e =
    let z = (e.full accepted_parse (omega arith)).0.number in
    omega (arith, z, accepted_parse)

-- a refusal of its own beside the parse's, and a list that is cleared where no other buffer is
abbrev odd : Result
odd = call 1 0 bytes (0 ∷ 1 ∷ 27 ∷ []) lent

pub odd_refused : odd.answer.number ≡ 3
unfolding call
odd_refused = refl

pub another_refusal : EndsAsParsed lent (7 ∷ []) (0 ∷ []) odd (left (record { number = 8; place = 0; tree_count = 0; error_count = 0; report_count = 0; expectation_count = 0 }) (0 ∷ []) lent) → ⊥
another_refusal e =
    let z : 8 ≡ odd.answer.number = ap (λ (a : Answer). a.number) (e.refused (λ x. omega (arith, x, odd_refused))).0 in
    omega (arith, z, odd_refused)

pub cleared_too_early : EndsAsParsed lent (7 ∷ []) (0 ∷ []) odd (left odd.answer (0 ∷ []) lent) → ⊥
cleared_too_early e =
    let z : ◌≡◌ {A = ℕ} 0 7 = ap (λ (l : List ℕ). get_or l 0 0) (e.left_alone (inl (omega (arith, odd_refused), omega (arith, odd_refused)))) in
    omega (arith, z)
