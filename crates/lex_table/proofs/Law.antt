-- One byte of a scan is one look-up in the table: what a state matches, where none goes on, and the step.
use Prim.Native.Nat.{ℕ, suc, ◌≤◌, ◌<◌}
use mathlib.Core.Path.{◌≡◌, refl, ◌∙◌, ap, subst}
use mathlib.Core.Bool.{Bool, true, false, cond, ◌&&◌, false≢true}
use mathlib.Core.List.{List, [], ◌∷◌}
use lib.Dec.{eqb}
use lib.ListN.{get_or, length}
use borrow.Author.Tests.{le-leb, eqb-true, ne_eqb, not-true}
use Rattle.basics.proofs.Tests.{and_left, and_right}
use Rattle.definitions.specs.Pattern.{Pattern, nothing, empty, one, other, ◌then◌, ◌or◌, many}
use Rattle.definitions.specs.Rules.{Rule, rules}
use Rattle.definitions.specs.Lex.{Match, matched}
use Rattle.patterns.specs.Remainder.{fits_empty, is_empty, after}
use Rattle.lexing.specs.Scan.{go_on, better, scan}
use Rattle.lexing.proofs.Scan.{one_byte}
use Rattle.lex_table.specs.States.{kinds}
use Rattle.lex_table.specs.Matches.{callback_of, match_of}
use Rattle.lex_table.proofs.Every.{at_each}
use Rattle.lex_table.proofs.Same.{number, same_number}
use Rattle.lex_table.proofs.States.{go_through, states, st, accepting, fit_right, accept_right, accepts, only_empty, final_right, finals}
use Rattle.lex_table.proofs.Entries.{next_state, entry, next_reached}

-- ---------------------------------------------------------------- what a state matches

fit_true : (j n : ℕ) (m : Match) (r : Rule) → fit_right j r ≡ true → matched n r.kind r.callback ≡ cond (accepting j) (match_of j n) m
unfolding fit_right match_of
fit_true j n m r h =
    let a = and_left (accepting j) _ h in
    let both = and_right (accepting j) (eqb r.kind (get_or kinds j 0) && eqb (number r.callback) (number (callback_of j))) h in
    let k = eqb-true r.kind (get_or kinds j 0) (and_left _ (eqb (number r.callback) (number (callback_of j))) both) in
    let c = same_number r.callback (callback_of j) (and_right (eqb r.kind (get_or kinds j 0)) _ both) in
    let z : eqb j 0 ≡ false = ne_eqb j 0 (λ q. false≢true (subst (λ (x : ℕ). accepting x ≡ true) q a)) in
    rw (a, z, k, c)

accept_true : (j n : ℕ) (m : Match) (rs : List Rule) → accept_right j rs ≡ true → better n rs m ≡ cond (accepting j) (match_of j n) m
unfolding accept_right better
accept_true j n m [] h = rw (not-true (accepting j) h)
accept_true j n m (r ∷ rs) h = go (fits_empty r.pattern) h (accept_true j n m rs)
  where
    go : (f : Bool) → cond f (fit_right j r) (accept_right j rs) ≡ true
        → (accept_right j rs ≡ true → better n rs m ≡ cond (accepting j) (match_of j n) m)
        → cond f (matched n r.kind r.callback) (better n rs m) ≡ cond (accepting j) (match_of j n) m
    go true e more = fit_true j n m r e
    go false e more = more e

states_length : length states ≡ 133
unfolding states
states_length = refl

pub accepted : (j n : ℕ) (m : Match) → j < 133 → better n (st j) m ≡ cond (accepting j) (match_of j n) m
accepted j n m h = accept_true j n m (st j) (at_each accept_right states [] accepts j (rw states_length h))

-- ---------------------------------------------------------------- where none goes on

after_empty : (b : ℕ) (p : Pattern) → is_empty p ≡ true → after b p ≡ nothing
unfolding after
after_empty b nothing h = absurd (false≢true h)
after_empty b empty h = refl
after_empty b (one c) h = absurd (false≢true h)
after_empty b (other c) h = absurd (false≢true h)
after_empty b (p then q) h = absurd (false≢true h)
after_empty b (p or q) h = absurd (false≢true h)
after_empty b (many p) h = absurd (false≢true h)

none_go_on : (b : ℕ) (rs : List Rule) → only_empty rs ≡ true → go_on b rs ≡ []
unfolding only_empty go_on
none_go_on b [] h = refl
none_go_on b (r ∷ rs) h =
    rw (after_empty b r.pattern (and_left _ (only_empty rs) h)) (none_go_on b rs (and_right (is_empty r.pattern) _ h))

stuck : (rs : List Rule) (n : ℕ) (m : Match) (s : List ℕ) → only_empty rs ≡ true → scan rs n m s ≡ m
unfolding scan
stuck rs n m [] h = refl
stuck rs n m (b ∷ s) h = rw (none_go_on b rs h)

pub ends_here : (j n : ℕ) (m : Match) (s : List ℕ) → 96 ≤ j → j < 133 → scan (st j) n m s ≡ m
unfolding final_right
ends_here j n m s h k =
    let f = at_each final_right states [] finals j (rw states_length k) in
    stuck (st j) n m s (subst (λ (x : Bool). cond x (only_empty (st j)) true ≡ true) (le-leb 96 j h) f)

-- ---------------------------------------------------------------- one byte

pub starts : st 0 ≡ rules
unfolding states go_through
starts = refl

pub stepped : (i b n : ℕ) (m : Match) (s : List ℕ) → i < 96 → b < 256
    → scan (st i) n m (b ∷ s) ≡ scan (st (next_state i b)) (suc n) (cond (accepting (next_state i b)) (match_of (next_state i b) (suc n)) m) s
stepped i b n m s h k =
    one_byte (st i) n b m s ∙ ap (λ (l : List Rule). scan l (suc n) (better (suc n) l m) s) (entry i b h k)
    ∙ ap (λ (x : Match). scan (st (next_state i b)) (suc n) x s) (accepted (next_state i b) (suc n) m (next_reached i b h k).1)
