-- An analysis that computes on a program: what it surely does about semicolons that end its parts. Sound.antt proves it
-- right.
use mathlib.Core.Path.{◌≡◌, refl}
use Prim.Native.Nat.{ℕ, zero, suc}
use mathlib.Core.Bool.{Bool, true, false, cond, ◌&&◌, ◌||◌, not}
use lib.Dec.{eqb}
use Rattle.definitions.specs.TokenKind as K
use Rattle.definitions.specs.Token.{one_of}
use Rattle.definitions.specs.Prog.{Ans, no, yes, also, again, Rule, item, propvalues, eat_cell, expr_binding_power, Act, silent_at, at_end, immediate, immediate_next, add_expected, bump, bump_name, bump_argument, emit, emit_unclosed, less, Prog, ret, act, ◌⨟◌, case, in_marker, loop, chain, brace, open_call}
use Rattle.definitions.specs.Grammar.{grammar, sourcefile_turn, left_over}
use Rattle.definitions.specs.Run.{is_again}
use Rattle.recovery.specs.Recovery.{is_statement}

pub data Rank : Type 0 where
  low mid high : Rank

-- What is known of a run, from the state in which it began.
-- still: it made nothing and changed nothing.
-- head: the current token may be a semicolon now.
-- tail: of the last thing made. low: it is not a semicolon's leaf; mid: if it is, the run stands right after it; high:
-- unknown.
-- part: of the parts made. low: no statement among them ends in a semicolon of its own; mid: only the last may, and
-- then the run stands right after it; high: unknown.
pub record Known : Type 0 where
  pub still : Bool
  pub head : Bool
  pub tail : Rank
  pub part : Rank

abbrev pub idle : Bool → Known
idle h = record { still = true; head = h; tail = low; part = low }

abbrev pub know : Bool → Rank → Rank → Known
know h t p = record { still = false; head = h; tail = t; part = p }

-- one after the other: what stood right after a semicolon does so no longer
infixr 30 ◌▷ʳ◌
abbrev pub ◌▷ʳ◌ : Rank → Rank → Rank
low ▷ʳ y = y
mid ▷ʳ y = high
high ▷ʳ y = high

infixr 30 ◌▷◌
abbrev pub ◌▷◌ : Known → Known → Known
d ▷ e = cond e.still d (know e.head (d.tail ▷ʳ e.tail) (d.part ▷ʳ e.part))

abbrev pub ends : Bool → Rank
ends true = mid
ends false = low

-- a marker closed around what e is known of, as a node of kind k or ignored
abbrev pub around : ℕ → Known → Known
around zero e = know e.head e.tail e.part
around (suc k) e = know e.head low (cond (is_statement (suc k)) e.tail low)

abbrev pub le_rank : Rank → Rank → Bool
le_rank low y = true
le_rank mid low = false
le_rank mid mid = true
le_rank mid high = true
le_rank high low = false
le_rank high mid = false
le_rank high high = true

abbrev pub le_bool : Bool → Bool → Bool
le_bool true y = y
le_bool false y = true

-- d says at least as much as e
abbrev pub fits : Known → Known → Bool
fits d e = le_bool e.still d.still && (le_bool d.head e.head && (le_rank d.tail e.tail && le_rank d.part e.part))

-- what is wanted of a run: of its shape, its answer and what is known of it
abbrev pub Post : Type 0
Post = ℕ → Ans → Known → Bool

abbrev pub any_answer : (Ans → Bool) → Bool
any_answer f = f no && (f yes && (f also && f again))

unfoldable pub act_surely : Act → Post → Bool → Bool
unfolding one_of
act_surely (silent_at ks) P h = P 0 no (know (h && not (one_of ks K.Semicolon)) low low) && P 0 yes (know (h && one_of ks K.Semicolon) low low)
act_surely at_end P h = P 0 no (know h low low) && P 0 yes (know false low low)
act_surely (immediate k) P h = P 0 no (idle h) && P 0 yes (idle h)
act_surely (immediate_next k) P h = P 0 no (idle h) && P 0 yes (idle h)
act_surely (add_expected k) P h = P 0 yes (know h low low)
act_surely bump P h = P 0 yes (know true (ends h) low)
act_surely (bump_name ks) P h = P 0 yes (know true low low)
act_surely bump_argument P h = any_answer (λ x. P 0 x (know true high high))
act_surely (emit m k) P h = P 0 yes (know h low low)
act_surely emit_unclosed P h = P 0 yes (know h low low)
act_surely (less m n) P h = P 0 no (idle h) && P 0 yes (idle h)

-- what is known of a call
abbrev pub claim : Rule → Known
claim item = know true low mid
claim (propvalues b) = know true high high
claim (eat_cell b) = know true high high
claim (expr_binding_power m) = know true high high

abbrev pub pick : Ans → Bool → Bool → Bool → Bool
pick no n y a = n
pick yes n y a = y
pick also n y a = a
pick again n y a = y

-- a node kind that the promise does not speak of
abbrev pub plain_kind : ℕ → Bool
plain_kind zero = false
plain_kind (suc k) = not (is_statement (suc k))

-- p's marker surely becomes a node of such a kind, so that it does not matter what is inside
unfoldable pub dull : Prog → Bool
unfolding is_statement
dull (ret k a) = plain_kind k
dull (act a) = false
dull (p ⨟ q) = dull q
dull (case c n y a) = dull n && (dull y && dull a)
dull (in_marker p) = false
dull (loop p) = false
dull (chain p q) = false
dull (brace p) = dull p
dull (open_call r) = false

-- whether P surely holds of a run of p; h: the current token may be a semicolon
unfoldable pub surely : Prog → Post → Bool → Bool
unfolding act_surely is_again dull is_statement
surely (ret k a) P h = P k a (idle h)
surely (act a) P h = act_surely a P h
surely (p ⨟ q) P h = surely p (λ _ _ d. surely q (λ k x e. P k x (d ▷ e)) d.head) h
surely (case c n y a) P h =
    surely c
    (λ _ x d.
    let R : Post = λ k z e. P k z (d ▷ e) in
    let pn = surely n R d.head in
    let py = surely y R d.head in
    let pa = surely a R d.head in
    pick x pn py pa)
    h
surely (in_marker p) P h =
    let skipped = any_answer (λ x. P 0 x (know true low low)) in
    let entered = surely p (λ k x e. P 0 x (around k e)) h in
    cond (dull p) skipped entered
surely (loop p) P h =
    let try : Known → Bool = λ J. P 0 again J && surely p (λ k x e. cond (is_again x) (fits (J ▷ e) J) (P 0 x (J ▷ e))) true in
    let first = try (know true low low) in
    let second = try (know true low high) in
    let third = try (know true high high) in
    first || (second || third)
surely (chain p q) P h = any_answer (λ x. P 0 x (know true high high))
surely (brace p) P h = surely p P h
surely (open_call r) P h = any_answer (λ x. P 0 x (claim r))

abbrev pub up_to : Known → Post
up_to c k x e = eqb k 0 && fits e c

-- an item: only its last part may end in a semicolon of its own, and then the run stands right after it
pub item_surely : surely (grammar item) (up_to (know true low mid)) true ≡ true
unfolding surely grammar
item_surely = refl

pub turn_surely : surely sourcefile_turn (up_to (know true low mid)) true ≡ true
unfolding surely sourcefile_turn
turn_surely = refl

pub left_over_surely : surely left_over (up_to (know true low low)) true ≡ true
unfolding surely left_over
left_over_surely = refl
