-- Loops and macro arguments, turn by turn: what a proof of code with a loop cites. Fuel above the tokens left does not
-- matter, so a loop is the same loop from wherever a turn has brought it.
use Prim.Native.Nat.{ℕ, zero, suc, ◌-◌, ◌/◌, ◌≤◌, ◌<◌}
use mathlib.Core.Path.{◌≡◌, refl, ap, ◌∙◌}
use mathlib.Core.Bool.{Bool, true, false, cond, ◌&&◌}
use mathlib.Core.List.{List, [], ◌∷◌}
use native.Mathlib.Omega.{arith}
use lib.Dec.{ltb, eqb}
use lib.ListN.{length, length-drop}
use borrow.Author.Tests.{ltb-true, lt-ltb}
use Rattle.basics.proofs.Tests.{cond-all}
use Rattle.basics.proofs.TokenRows.{tokens_length}
use Rattle.definitions.specs.Layout.{TOKEN_ROW, EVENT_ROW, ADD_TOKEN, NO_EVENT_ROOM, TWO_TO_64}
use Rattle.definitions.specs.TokenKind as K
use Rattle.definitions.specs.Token.{Token, tokens_of, trivia, ended, first_in}
use Rattle.definitions.specs.Skeleton.{Span}
use Rattle.definitions.specs.Prog.{Ans, no, yes, again, Rule, Prog, loop}
use Rattle.definitions.specs.Run.{is_again}
use Rattle.machine.specs.Machine.{Machine, PAST_THE_END, rest, passed, skip, peek, took, refuse, fits, push_row, push, bump_first, bump}
use Rattle.machine.specs.Walk.{Walked, said, at_depth, argument, goes_on, iter, walk}

-- ---------------------------------------------------------------- the tokens left

abbrev pub ahead : List Token → Machine → ℕ
ahead ts m = length (rest ts m)

-- as the code counts them
pub ahead_is : (tokens : List ℕ) (m : Machine) → ahead (tokens_of tokens) m ≡ length tokens / TOKEN_ROW - m.cursor
ahead_is tokens m = length-drop m.cursor (tokens_of tokens) ∙ ap (λ (n : ℕ). n - m.cursor) (tokens_length tokens)

-- no more tokens than a cursor can pass
abbrev pub Few : List Token → Type 0
Few ts = length ts ≤ PAST_THE_END

pub few_rows : (tokens : List ℕ) → length tokens < TWO_TO_64 → Few (tokens_of tokens)
few_rows tokens h = omega (arith, tokens_length tokens, h)

-- ---------------------------------------------------------------- what moves the cursor, and no move goes back

pub onward : (ts : List Token) (m m' : Machine) → m.cursor ≤ m'.cursor → ahead ts m' ≤ ahead ts m
onward ts m m' h = omega (arith, length-drop m.cursor ts, length-drop m'.cursor ts)

skip_on : (l : List Token) (m : Machine) → m.cursor ≤ (skip l m).cursor
unfolding skip
skip_on [] m = omega arith
skip_on (t ∷ l) m = cond-all (λ (x : Machine). m.cursor ≤ x.cursor) (trivia t) (omega (arith, skip_on l (passed t m))) (omega arith)

pub peek_ahead : (ts : List Token) (m : Machine) → ahead ts (peek ts m) ≤ ahead ts m
unfolding peek
peek_ahead ts m = onward ts m (peek ts m) (skip_on (rest ts m) m)

pub refuse_ahead : (ts : List Token) (n : ℕ) (m : Machine) → Few ts → ahead ts (refuse n m) ≡ 0
unfolding refuse
refuse_ahead ts n m h = omega (arith, length-drop PAST_THE_END ts, h)

pub row_ahead : (ts : List Token) (tag value : ℕ) (m : Machine) → Few ts → ahead ts (push_row tag value m) ≤ ahead ts m
unfolding push_row
row_ahead ts tag value m h =
    cond-all (λ (x : Machine). ahead ts x ≤ ahead ts m) (fits (length m.events.numbers) m.events.count EVENT_ROW) (omega arith) (omega (arith, refuse_ahead ts NO_EVENT_ROOM m h))

pub push_ahead : (ts : List Token) (tag value : ℕ) (m : Machine) → Few ts → ahead ts (push tag value m) ≤ ahead ts m
unfolding push
push_ahead ts tag value m h = cond-all (λ (x : Machine). ahead ts x ≤ ahead ts m) (eqb m.refusal 0) (row_ahead ts tag value m h) (omega arith)

-- what is taken is passed
first_ahead : (ts : List Token) (m : Machine) → Few ts → (l : List Token) → rest ts m ≡ l → ahead ts (bump_first l m) ≤ ahead ts m - 1
unfolding bump_first
first_ahead ts m h [] e = omega (arith, ap length e)
first_ahead ts m h (t ∷ l) e =
    omega (arith, push_ahead ts ADD_TOKEN 0 (took t m) h, length-drop m.cursor ts, length-drop (took t m).cursor ts)

pub bump_ahead : (ts : List Token) (m : Machine) → Few ts → ahead ts (bump ts m) ≤ ahead ts m - 1
unfolding bump
bump_ahead ts m h = omega (arith, first_ahead ts (peek ts m) h (rest ts (peek ts m)) refl, peek_ahead ts m)

-- ---------------------------------------------------------------- loops

pub iter_fuel : (ts : List Token) (n k : ℕ) (f : Machine → Walked) (m : Machine) → ahead ts m < n → ahead ts m < k → iter ts n f m ≡ iter ts k f m
unfolding iter goes_on
iter_fuel ts zero k f m h g = absurd (omega (arith, h))
iter_fuel ts (suc n) zero f m h g = absurd (omega (arith, g))
iter_fuel ts (suc n) (suc k) f m h g =
    go (is_again (f m).ans) (ltb (ahead ts (f m).on) (ahead ts m)) refl (λ l. iter_fuel ts n k f (f m).on (omega (arith, h, l)) (omega (arith, g, l)))
  where
    go : (a b : Bool) → ltb (ahead ts (f m).on) (ahead ts m) ≡ b → (ahead ts (f m).on < ahead ts m → iter ts n f (f m).on ≡ iter ts k f (f m).on)
        → cond (a && b) (iter ts n f (f m).on) (said (f m).ans (f m).on) ≡ cond (a && b) (iter ts k f (f m).on) (said (f m).ans (f m).on)
    go true true e r = r (ltb-true _ _ e)
    go true false e r = refl
    go false true e r = refl
    go false false e r = refl

module _ (ask : Rule → Machine → Walked) (ts : List Token) (b : Span) (p : Prog) (m m' : Machine) where
  -- a turn that answers again and moved the cursor: the loop from here is the loop from there
  pub turn_again : said again m' ≡ walk ask ts b p m → ahead ts m' < ahead ts m → walk ask ts b (loop p) m' ≡ walk ask ts b (loop p) m
  unfolding walk iter goes_on is_again
  turn_again e h = rw (← e, lt-ltb _ _ h) (iter_fuel ts (suc (ahead ts m')) (ahead ts m) (walk ask ts b p) m' (omega arith) h)

  -- a turn that answers anything else ends the loop
  pub turn_last : (a : Ans) → is_again a ≡ false → said a m' ≡ walk ask ts b p m → said a m' ≡ walk ask ts b (loop p) m
  unfolding walk iter goes_on
  turn_last a i e = rw (← e, i)

-- ---------------------------------------------------------------- macro arguments

-- one token of an argument: the answers at its end, or go, with so many brackets open after it
abbrev pub one_token : Bool → Bool → Bool → Bool → ℕ → Machine → (ℕ → Walked) → Walked
one_token end opens closes comma n p go =
    cond end (said no p) (cond opens (go (suc n)) (cond closes (at_depth n (said no p) go) (cond comma (at_depth n (said yes p) (λ k. go (suc k))) (go n))))

one_token_same : (end opens closes comma : Bool) (n : ℕ) (p : Machine) (go go' : ℕ → Walked) → (end ≡ false → (k : ℕ) → go k ≡ go' k)
    → one_token end opens closes comma n p go ≡ one_token end opens closes comma n p go'
one_token_same true opens closes comma n p go go' h = refl
one_token_same false true closes comma n p go go' h = h refl (suc n)
one_token_same false false true comma zero p go go' h = refl
one_token_same false false true comma (suc n) p go go' h = h refl n
one_token_same false false false true zero p go go' h = refl
one_token_same false false false true (suc n) p go go' h = h refl (suc n)
one_token_same false false false false n p go go' h = h refl n

some_ahead : (l : List Token) → ended l ≡ false → 0 < length l
some_ahead [] e = let z : ◌≡◌ {A = ℕ} 1 0 = ap (λ (x : Bool). cond x 1 0) e in absurd (omega (arith, z))
some_ahead (t ∷ l) e = omega arith

-- past a token that is not an end
pub bump_falls : (ts : List Token) (m : Machine) → Few ts → ended (rest ts (peek ts m)) ≡ false → ahead ts (bump ts (peek ts m)) < ahead ts m
bump_falls ts m h e = omega (arith, bump_ahead ts (peek ts m) h, peek_ahead ts m, some_ahead (rest ts (peek ts m)) e)

pub argument_fuel : (ts : List Token) → Few ts → (f g n : ℕ) (m : Machine) → ahead ts m < f → ahead ts m < g → argument f ts n m ≡ argument g ts n m
unfolding argument
argument_fuel ts w zero g n m h k = absurd (omega (arith, h))
argument_fuel ts w (suc f) zero n m h k = absurd (omega (arith, k))
argument_fuel ts w (suc f) (suc g) n m h k =
    let p = peek ts m in
    one_token_same (ended (rest ts p)) (first_in (K.LParen ∷ []) (rest ts p)) (first_in (K.RParen ∷ []) (rest ts p)) (first_in (K.Comma ∷ []) (rest ts p)) n p
    (λ j. argument f ts j (bump ts p)) (λ j. argument g ts j (bump ts p))
    (λ e j. let l = bump_falls ts m w e in argument_fuel ts w f g j (bump ts p) (omega (arith, h, l)) (omega (arith, k, l)))

-- the rest of an argument, in so many open brackets
unfoldable pub argue : List Token → ℕ → Machine → Walked
argue ts n m = argument (suc (ahead ts m)) ts n m

-- one token further
pub argue_one : (ts : List Token) (n : ℕ) (m : Machine) → Few ts → let p = peek ts m in
    one_token (ended (rest ts p)) (first_in (K.LParen ∷ []) (rest ts p)) (first_in (K.RParen ∷ []) (rest ts p)) (first_in (K.Comma ∷ []) (rest ts p)) n p (λ k. argue ts k (bump ts p))
    ≡ argue ts n m
unfolding argue argument
argue_one ts n m w =
    let p = peek ts m in
    one_token_same (ended (rest ts p)) (first_in (K.LParen ∷ []) (rest ts p)) (first_in (K.RParen ∷ []) (rest ts p)) (first_in (K.Comma ∷ []) (rest ts p)) n p
    (λ k. argue ts k (bump ts p)) (λ k. argument (ahead ts m) ts k (bump ts p))
    (λ e k. let l = bump_falls ts m w e in argument_fuel ts w (suc (ahead ts (bump ts p))) (ahead ts m) k (bump ts p) (omega arith) l)
