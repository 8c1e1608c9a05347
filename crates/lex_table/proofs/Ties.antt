-- TIES DO NOT MATTER, proved: after a text the rules that can still match are those of a state, by the table's entries;
-- and in each state one rule matches at most, which is computed.
use Prim.Native.Nat.{ℕ, ◌≤◌, ◌<◌}
use native.Mathlib.Omega.{arith}
use mathlib.Core.Path.{◌≡◌, refl, sym, ◌∙◌, ap, subst}
use mathlib.Core.Bool.{Bool, true, false, cond, beq, ◌&&◌, ◌||◌}
use mathlib.Core.List.{List, [], ◌∷◌}
use lib.Dec.{leb, ltb}
use lib.ListN.{length}
use borrow.Author.Tests.{leb-true, leb-false, lt-leb, ltb-true, ltb-false}
use Rattle.basics.proofs.Tests.{and_left, and_right, and_both}
use Rattle.definitions.specs.Pattern.{Range, Pattern, nothing, empty, one, other, ◌then◌, ◌or◌, many, within, fits}
use Rattle.definitions.specs.Rules.{Rule, rules}
use Rattle.patterns.specs.Remainder.{fits_empty}
use Rattle.patterns.proofs.Textbook.{says_fits}
use Rattle.lexing.specs.Scan.{go_on}
use Rattle.lex_table.specs.Ties.{NoTies, OneRule}
use Rattle.lex_table.proofs.Every.{every, at_each}
use Rattle.lex_table.proofs.Alike.{alike, alike_in, same_on}
use Rattle.lex_table.proofs.States.{states, st}
use Rattle.lex_table.proofs.Entries.{next_state, entry, next_reached}
use Rattle.lex_table.proofs.Law.{starts}
use Rattle.lex_table.proofs.Counts.{count, fitting, at_most_all, one_place, one_read, none_read}

-- ---------------------------------------------------------------- what is not a byte

-- no class has 255 or more
unfoldable low : List Range → Bool
low [] = true
low (r ∷ rs) = ltb r.high 255 && low rs

unfoldable low_in : Pattern → Bool
unfolding low
low_in nothing = true
low_in empty = true
low_in (one c) = low c
low_in (other c) = low c
low_in (p then q) = low_in p && low_in q
low_in (p or q) = low_in p && low_in q
low_in (many p) = low_in p

unfoldable all_low : List Rule → Bool
unfolding low_in
all_low [] = true
all_low (r ∷ rs) = low_in r.pattern && all_low rs

outside : (x y z : Bool) → y ≡ false → z ≡ false → ((x && y) || z) ≡ false
outside true y z e f = ap (λ (t : Bool). t || z) e ∙ f
outside false y z e f = f

beyond : (c : List Range) (b : ℕ) → low c ≡ true → 255 ≤ b → within c b ≡ false
unfolding low within
beyond [] b t h = refl
beyond (r ∷ c) b t h =
    let l = ltb-true r.high 255 (and_left (ltb r.high 255) (low c) t) in
    outside (leb r.low b) (leb b r.high) (within c b) (lt-leb b r.high (omega (arith, l, h)))
    (beyond c b (and_right (ltb r.high 255) (low c) t) h)

high_class : (c : List Range) (b : ℕ) → low c ≡ true → 255 ≤ b → beq (within c b) (within c 255) ≡ true
high_class c b t h =
    let e = beyond c b t h in
    let f = beyond c 255 t (omega arith) in
    λ i. beq (e i) (f i)

high_alike : (b : ℕ) (p : Pattern) → low_in p ≡ true → 255 ≤ b → alike b 255 p ≡ true
unfolding low_in alike
high_alike b nothing t h = refl
high_alike b empty t h = refl
high_alike b (one c) t h = high_class c b t h
high_alike b (other c) t h = high_class c b t h
high_alike b (p then q) t h =
    and_both (high_alike b p (and_left (low_in p) (low_in q) t) h) (high_alike b q (and_right (low_in p) (low_in q) t) h)
high_alike b (p or q) t h =
    and_both (high_alike b p (and_left (low_in p) (low_in q) t) h) (high_alike b q (and_right (low_in p) (low_in q) t) h)
high_alike b (many p) t h = high_alike b p t h

all_alike : (b : ℕ) (rs : List Rule) → all_low rs ≡ true → 255 ≤ b → alike_in b 255 rs ≡ true
unfolding all_low alike_in
all_alike b [] t h = refl
all_alike b (r ∷ rs) t h =
    and_both (high_alike b r.pattern (and_left (low_in r.pattern) (all_low rs) t) h)
    (all_alike b rs (and_right (low_in r.pattern) (all_low rs) t) h)

-- so the rules go on after any number as after a byte
as_byte : (b : ℕ) (rs : List Rule) → all_low rs ≡ true → (c : ℕ) × (c < 256) × (go_on b rs ≡ go_on c rs)
as_byte b rs t = go (ltb b 256) refl
  where
    go : (f : Bool) → ltb b 256 ≡ f → (c : ℕ) × (c < 256) × (go_on b rs ≡ go_on c rs)
    go true e = (b, ltb-true b 256 e, refl)
    go false e = let h = ltb-false b 256 e in (255, omega arith, same_on b 255 rs (all_alike b rs t (omega (arith, h))))

-- ---------------------------------------------------------------- the states

-- one rule matches at most; in a state that does not go on there is one at most
unfoldable pub one_at_most : ℕ → List Rule → Bool
unfolding count fits_empty
one_at_most j rs =
    let all = leb (length rs) 1 in
    let some = leb (count fits_empty rs) 1 in
    cond (leb 96 j) all some

unfoldable tie_free : ℕ → List Rule → Bool
unfolding one_at_most all_low
tie_free j rs = one_at_most j rs && all_low rs

all_tie_free : every tie_free 0 states ≡ true
unfolding every tie_free states
all_tie_free = refl

states_length : length states ≡ 133
unfolding states
states_length = refl

tested : (j : ℕ) → j < 133 → (one_at_most j (st j) ≡ true) × (all_low (st j) ≡ true)
unfolding tie_free
tested j h =
    let t = at_each tie_free states [] all_tie_free j (rw states_length h) in
    (and_left (one_at_most j (st j)) (all_low (st j)) t, and_right (one_at_most j (st j)) (all_low (st j)) t)

-- in a state that goes on, and in one that does not
on_most : (j : ℕ) (rs : List Rule) → leb 96 j ≡ false → one_at_most j rs ≡ true → count fits_empty rs ≤ 1
unfolding one_at_most
on_most j rs e t =
    leb-true (count fits_empty rs) 1 (subst (λ (x : Bool). cond x (leb (length rs) 1) (leb (count fits_empty rs) 1) ≡ true) e t)

final_most : (j : ℕ) (rs : List Rule) → leb 96 j ≡ true → one_at_most j rs ≡ true → length rs ≤ 1
unfolding one_at_most
final_most j rs e t =
    leb-true (length rs) 1 (subst (λ (x : Bool). cond x (leb (length rs) 1) (leb (count fits_empty rs) 1) ≡ true) e t)

final_few : (u : List ℕ) (j : ℕ) → leb 96 j ≡ true → j < 133 → fitting u (st j) ≤ 1
final_few u j e h =
    let l = final_most j (st j) e (tested j h).0 in
    omega (arith, l, at_most_all (λ (p : Pattern). fits p u) (st j))

few : (u : List ℕ) (j : ℕ) → j < 133 → fitting u (st j) ≤ 1
few [] j h = go (leb 96 j) refl
  where
    go : (f : Bool) → leb 96 j ≡ f → fitting [] (st j) ≤ 1
    go true e = final_few [] j e h
    go false e = rw (none_read (st j)) (on_most j (st j) e (tested j h).0)
few (b ∷ u) j h = go (leb 96 j) refl (few u)
  where
    go : (f : Bool) → leb 96 j ≡ f → ((k : ℕ) → k < 133 → fitting u (st k) ≤ 1) → fitting (b ∷ u) (st j) ≤ 1
    go true e more = final_few (b ∷ u) j e h
    go false e more =
        let (c, i, s) = as_byte b (st j) (tested j h).1 in
        let k = leb-false 96 j e in
        subst (λ (n : ℕ). n ≤ 1) (sym (one_read b u (st j) ∙ ap (fitting u) (s ∙ entry j c k i)))
        (more (next_state j c) (next_reached j c k i).1)

-- ---------------------------------------------------------------- the theorem

-- the start is the state of all rules
pub one_rule : OneRule
one_rule u r q a b m n e g =
    one_place (λ (p : Pattern). fits p u) rules a b r q m n (says_fits r.pattern u e) (says_fits q.pattern u g)
    (subst (λ (rs : List Rule). fitting u rs ≤ 1) starts (few u 0 (omega arith)))

pub no_ties : NoTies
no_ties u r q a b m n e g =
    let s = (one_rule u r q a b m n e g).1 in
    (ap (λ (x : Rule). x.kind) s, ap (λ (x : Rule). x.callback) s)
