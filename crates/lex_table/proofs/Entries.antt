-- The entry of a state at a byte is the state that the byte leads to.
use Prim.Native.Nat.{ℕ, zero, suc, ◌+◌, ◌-◌, ◌*◌, ◌≤◌, ◌<◌}
use native.Mathlib.Omega.{arith}
use mathlib.Core.Path.{◌≡◌, refl, sym, ◌∙◌, ap, subst}
use mathlib.Core.Bool.{Bool, true, false, cond, false≢true}
use mathlib.Core.List.{List, [], ◌∷◌}
use lib.Dec.{eqb, ltb}
use lib.ListN.{get_or, length, take, drop}
use lib.Seq.{get_or-take, get_or-drop}
use borrow.Author.Tests.{ltb-true, ltb-false, eqb-true, eq-eqb}
use Rattle.basics.proofs.Tests.{and_left, and_right}
use Rattle.definitions.specs.Rules.{Rule}
use Rattle.lexing.specs.Scan.{go_on}
use Rattle.lex_table.specs.States.{long_rows, classes, short_rows}
use Rattle.lex_table.proofs.Words.{firsts}
use Rattle.lex_table.proofs.Every.{at_each}
use Rattle.lex_table.proofs.Parts.{class_below, long_reached, short_reached}
use Rattle.lex_table.proofs.Same.{rules_true}
use Rattle.lex_table.proofs.States.{states, st, entry_right, firsts_right, even, long_right, short_right, long_row, short_row, long_state, short_state, long_states, short_states}
use Rattle.lex_table.proofs.Bytes.{first_of, firsts_length, first_first, first_below, first_class, same_first}

dead : st 132 ≡ []
unfolding states
dead = refl

entry_true : (l : List Rule) (j : ℕ) → entry_right states l j ≡ true → l ≡ st j
unfolding entry_right
entry_true [] j h = sym (ap st (eqb-true j 132 h) ∙ dead)
entry_true (r ∷ rs) j h = rules_true (r ∷ rs) (st j) h

-- ---------------------------------------------------------------- from the first byte to all that are alike

by_first : (i : ℕ) (next : ℕ → ℕ) (b : ℕ) → firsts_right states (st i) next ≡ true → b < 256 → next b ≡ next (first_of b)
    → go_on b (st i) ≡ st (next b)
unfolding firsts_right
by_first i next b t h e =
    let f = first_of b in
    let test : ℕ → ℕ → Bool =
    λ (x y : ℕ).
    let right = entry_right states (go_on x (st i)) (next x) in
    cond (eqb x y) right true in
    let u : test f (first_of f) ≡ true = at_each test firsts 0 t f (rw firsts_length (first_below b h)) in
    let v : eqb f (first_of f) ≡ true = eq-eqb f (first_of f) (sym (first_first b h)) in
    let w : entry_right states (go_on f (st i)) (next f) ≡ true =
    subst (λ (x : Bool). cond x (entry_right states (go_on f (st i)) (next f)) true ≡ true) v u in
    same_first i b h ∙ entry_true (go_on f (st i)) (next f) w ∙ ap st (sym e)

even_true : (row js fs : List ℕ) → even row js fs ≡ true → (k : ℕ) → k < length fs → get_or js k 0 ≡ get_or row (get_or fs k 0) 0
unfolding even
even_true row js [] t k h = absurd (omega (arith, h))
even_true row [] (f ∷ fs) t k h = absurd (false≢true t)
even_true row (j ∷ js) (f ∷ fs) t zero h = eqb-true j (get_or row f 0) (and_left (eqb j (get_or row f 0)) (even row js fs) t)
even_true row (j ∷ js) (f ∷ fs) t (suc k) h =
    even_true row js fs (and_right (eqb j (get_or row f 0)) (even row js fs) t) k (omega (arith, h))

-- ---------------------------------------------------------------- long rows and short ones

long_count : length (take 21 states) ≡ 21
unfolding states
long_count = refl

short_count : length (take 75 (drop 21 states)) ≡ 75
unfolding states
short_count = refl

long_entry : (i b : ℕ) → i < 21 → b < 256 → go_on b (st i) ≡ st (get_or long_rows (i * 256 + b) 0)
unfolding long_state long_right long_row
long_entry i b h k =
    let row = long_row i in
    let next : ℕ → ℕ = λ (x : ℕ). get_or row x 0 in
    let s = at_each (long_state states) (take 21 states) [] long_states i (rw long_count h) in
    let t : long_right states (st i) row ≡ true =
    subst (λ (x : List Rule). long_right states x row ≡ true) (get_or-take 21 states i [] h) s in
    let u = and_left (firsts_right states (st i) next) (even row row firsts) t in
    let v = and_right (firsts_right states (st i) next) (even row row firsts) t in
    let e = even_true row row firsts v b (rw firsts_length k) in
    let w : next b ≡ get_or long_rows (i * 256 + b) 0 =
    get_or-take 256 (drop (i * 256) long_rows) b 0 k ∙ get_or-drop (i * 256) long_rows b 0 in
    by_first i next b u k e ∙ ap st w

short_entry : (i b : ℕ) → i < 75 → b < 256 → go_on b (st (21 + i)) ≡ st (get_or short_rows (i * 31 + get_or classes b 0) 0)
unfolding short_state short_right short_row
short_entry i b h k =
    let row = short_row i in
    let next : ℕ → ℕ = λ (x : ℕ). get_or row (get_or classes x 0) 0 in
    let c = get_or classes b 0 in
    let l = take 75 (drop 21 states) in
    let s = at_each (short_state states) l [] short_states i (rw short_count h) in
    let there : get_or l i [] ≡ st (21 + i) = get_or-take 75 (drop 21 states) i [] h ∙ get_or-drop 21 states i [] in
    let t : short_right states (st (21 + i)) row ≡ true = subst (λ (x : List Rule). short_right states x row ≡ true) there s in
    let e = ap (λ (x : ℕ). get_or row x 0) (first_class b k) in
    let w : next b ≡ get_or short_rows (i * 31 + c) 0 =
    get_or-take 31 (drop (i * 31) short_rows) c 0 (class_below b k) ∙ get_or-drop (i * 31) short_rows c 0 in
    by_first (21 + i) next b t k e ∙ ap st w

-- ---------------------------------------------------------------- any

unfoldable pub next_state : ℕ → ℕ → ℕ
next_state i b =
    cond (ltb i 21) (get_or long_rows (i * 256 + b) 0) (get_or short_rows ((i - 21) * 31 + get_or classes b 0) 0)

pub entry : (i b : ℕ) → i < 96 → b < 256 → go_on b (st i) ≡ st (next_state i b)
unfolding next_state
entry i b h k = go (ltb i 21) refl
  where
    go : (t : Bool) → ltb i 21 ≡ t
        → go_on b (st i) ≡ st (cond t (get_or long_rows (i * 256 + b) 0) (get_or short_rows ((i - 21) * 31 + get_or classes b 0) 0))
    go true e = long_entry i b (ltb-true i 21 e) k
    go false e =
        let f = ltb-false i 21 e in
        let g : 21 + (i - 21) ≡ i = omega (arith, f) in
        ap (λ (x : ℕ). go_on b (st x)) (sym g) ∙ short_entry (i - 21) b (omega (arith, h, f)) k

-- no byte leads to the start
pub next_reached : (i b : ℕ) → i < 96 → b < 256 → (1 ≤ next_state i b) × (next_state i b < 133)
unfolding next_state
next_reached i b h k = go (ltb i 21) refl
  where
    go : (t : Bool) → ltb i 21 ≡ t
        → (1 ≤ cond t (get_or long_rows (i * 256 + b) 0) (get_or short_rows ((i - 21) * 31 + get_or classes b 0) 0))
        × (cond t (get_or long_rows (i * 256 + b) 0) (get_or short_rows ((i - 21) * 31 + get_or classes b 0) 0) < 133)
    go true e = let f = ltb-true i 21 e in long_reached (i * 256 + b) (omega (arith, f, k))
    go false e =
        let f = ltb-false i 21 e in
        let g = class_below b k in
        short_reached ((i - 21) * 31 + get_or classes b 0) (omega (arith, f, g, h))
