-- The analysis: what is known after each answer of a program, and whether everything that it begins is begun where it
-- may be. (laws has one too, in Analysis.antt, which tells what holds at a program's end. Here something is asked at
-- every place, a turn is looked at from its own beginning, and an answer again is told apart by whether it shapes the
-- marker.)
use Prim.Native.Nat.{ℕ, zero, suc}
use mathlib.Core.Bool.{Bool, true, false, ◌&&◌}
use mathlib.Core.List.{List, [], ◌∷◌}
use lib.Dec.{eqb}
use Rattle.definitions.specs.TokenKind as K
use Rattle.definitions.specs.Prog.{Ans, no, yes, also, again, Rule, Act, silent_at, immediate, immediate_next, add_expected, bump, bump_name, bump_argument, emit, emit_unclosed, less, Prog, ret, act, ◌⨟◌, case, in_marker, loop, chain, brace, open_call}
use Rattle.definitions.specs.Prog as P
use Rattle.facts.proofs.Known.{Known, known, some, nothing, seen_in, not_in, at_end, not_at_end}
use Rattle.facts.proofs.May.{may_begin}
use Rattle.facts.proofs.Facts.{map, meet, nowhere, cleared, by_never, by_pushed, Fact, fact, unreached, over, ◌⊔◌, fact_within, fact_never, if_fresh, if_took, taken_before}

-- what is known after each answer; if-linked: after again, where the program shapes its marker
pub record Look : Type 0 where
  pub ok : Bool
  pub if_no : Fact
  pub if_yes : Fact
  pub if_also : Fact
  pub if_again : Fact
  pub if_linked : Fact

abbrev pub looked : Bool → Fact → Fact → Fact → Fact → Fact → Look
looked o n y a g l = record { ok = o; if_no = n; if_yes = y; if_also = a; if_again = g; if_linked = l }

unfoldable pub get : Look → Ans → ℕ → Fact
get l no k = l.if_no
get l yes k = l.if_yes
get l also k = l.if_also
get l again zero = l.if_again
get l again (suc k) = l.if_linked

unfoldable pub only : Ans → ℕ → Fact → Look
only no k d = looked true d unreached unreached unreached unreached
only yes k d = looked true unreached d unreached unreached unreached
only also k d = looked true unreached unreached d unreached unreached
only again zero d = looked true unreached unreached unreached d unreached
only again (suc k) d = looked true unreached unreached unreached unreached d

abbrev pub not_reached : Look
not_reached = looked true unreached unreached unreached unreached unreached

abbrev pub any_of : Look → Fact
any_of l = l.if_no ⊔ (l.if_yes ⊔ (l.if_also ⊔ (l.if_again ⊔ l.if_linked)))

-- and something more is asked
abbrev pub and_ok : Bool → Look → Look
and_ok b l = looked (b && l.ok) l.if_no l.if_yes l.if_also l.if_again l.if_linked

abbrev pub either : Look → Look → Look
either l m = looked (l.ok && m.ok) (l.if_no ⊔ m.if_no) (l.if_yes ⊔ m.if_yes) (l.if_also ⊔ m.if_also) (l.if_again ⊔ m.if_again) (l.if_linked ⊔ m.if_linked)

-- a marker around is shaped, and the whole shapes none
abbrev pub unshaped : Look → Look
unshaped l = looked l.ok l.if_no l.if_yes l.if_also (l.if_again ⊔ l.if_linked) unreached

-- without the answer again
abbrev pub stopped : Look → Look
stopped l = looked l.ok l.if_no l.if_yes l.if_also unreached unreached

-- where a token was taken before
abbrev pub later : Look → Look
later l = looked l.ok (taken_before l.if_no) (taken_before l.if_yes) (taken_before l.if_also) (taken_before l.if_again) (taken_before l.if_linked)

-- ---------------------------------------------------------------- actions

abbrev pub tested : Fact → Fact → Look
tested n y = looked true n y unreached unreached unreached

abbrev pub done_so : Fact → Look
done_so d = looked true unreached d unreached unreached unreached

abbrev pub bumped : Fact
bumped = fact nowhere (cleared nothing)

-- a macro argument: as far as a token of these kinds
unfoldable pub argued : Known → (Known → Known) → Fact → Fact
unfolding meet map
argued k g d = fact (map g d.fresh) (meet (cleared k) (map g d.took))

unfoldable pub ended_or_in : List ℕ → Known → Known
unfolding seen_in
ended_or_in ks d = known d.ended (seen_in ks d).kinds

-- a bracket is not trivia, so a peek comes to it too
unfoldable pub immediate_look : Bool → ℕ → Fact → Look
unfolding map
immediate_look true k d = tested d (over (map (seen_in (k ∷ []))) d)
immediate_look false k d = tested d d

unfoldable pub act_look : Act → Fact → Look
unfolding map seen_in not_in at_end not_at_end by_pushed argued ended_or_in immediate_look
act_look (silent_at ks) d = tested (over (map (not_in ks)) d) (over (map (seen_in ks)) d)
act_look P.at_end d = tested (over (map not_at_end) d) (over (map at_end) d)
act_look (immediate k) d = immediate_look (eqb k K.LParen) k d
act_look (immediate_next k) d = tested d d
act_look (add_expected k) d = done_so (over (by_pushed k) d)
act_look bump d = done_so bumped
act_look (bump_name ks) d = done_so bumped
act_look bump_argument d = tested (argued (known true (some (K.RParen ∷ []))) (ended_or_in (K.RParen ∷ [])) d) (argued (known false (some (K.Comma ∷ []))) (seen_in (K.Comma ∷ [])) d)
act_look (emit m h) d = done_so d
act_look emit_unclosed d = done_so d
act_look (less m n) d = tested d d

-- ---------------------------------------------------------------- programs

-- what is not reached is not looked at
unfoldable pub entering : Bool → (Fact → Look) → Fact → Look
entering true f d = not_reached
entering false f d = f d

unfoldable pub from : Fact → (Fact → Look) → Look
unfolding entering fact_never
from d f = entering (fact_never d) f d

-- a turn, or a call, that begins where no token was taken, and where one was
pub record Turns : Type 0 where
  pub first : Look
  pub after : Look

unfoldable pub turns : Fact → (Fact → Look) → Turns
unfolding from
turns d f = record { first = from (if_fresh d) f; after = from (if_took d) f }

-- the two together
unfoldable pub joined : Turns → Look
unfolding meet
joined t = either t.first (later t.after)

abbrev pub again_of : Look → Fact
again_of l = l.if_again ⊔ l.if_linked

-- what a turn that took a token leaves for another
unfoldable pub left_over : Turns → Fact
unfolding meet
left_over t = fact nowhere (meet (again_of t.first).took (again_of t.after).took)

-- a turn that is to go on took a token
unfoldable pub moves : Look → Bool
unfolding by_never
moves l = by_never l.if_again.fresh && by_never l.if_linked.fresh

-- what holds at a loop's head: what held before it and what a turn leaves for another
unfoldable pub settled : Fact → (Fact → Look) → Fact
unfolding turns left_over meet
settled d f = d ⊔ left_over (turns d f)

-- a loop whose head is i
unfoldable pub looped : Fact → Turns → Look
unfolding moves fact_within left_over meet joined
looped i t = and_ok ((moves t.first && moves t.after) && fact_within (left_over t) i) (stopped (joined t))

-- t: what is said of each counted function
unfoldable pub look : (Rule → Fact → Look) → Prog → Fact → Look
unfolding from turns settled looped act_look may_begin fact_never only meet
look t (ret k a) d = only a k d
look t (act a) d = and_ok (may_begin (act a) d) (act_look a d)
look t (p ⨟ q) d = let l = look t p d in and_ok (may_begin (p ⨟ q) d && l.ok) (from (any_of l) (look t q))
look t (case c n y a) d =
    let l = look t c d in
    and_ok (l.ok && fact_never (again_of l)) (either (from l.if_no (look t n)) (either (from l.if_yes (look t y)) (from l.if_also (look t a))))
look t (in_marker p) d = and_ok (may_begin (in_marker p) d) (unshaped (look t p d))
look t (loop p) d = let i = settled d (look t p) in looped i (turns i (look t p))
look t (chain p q) d =
    let l = look t p d in
    let i = settled (again_of l) (look t q) in
    let m = turns i (look t q) in
    and_ok (l.ok && (fact_never m.first.if_again && fact_never m.after.if_again)) (either (stopped l) (looped i m))
look t (brace p) d = and_ok (may_begin (brace p) d) (look t p d)
look t (open_call r) d = t r d

-- one look says no more than another
unfoldable pub looks_within : Look → Look → Bool
unfolding fact_within
looks_within l m =
    l.ok
    && (fact_within l.if_no m.if_no
    && (fact_within l.if_yes m.if_yes && (fact_within l.if_also m.if_also && (fact_within l.if_again m.if_again && fact_within l.if_linked m.if_linked))))
