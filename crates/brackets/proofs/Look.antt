-- An analysis that computes on programs: at each place that a program comes to, which token may stand ahead, and the
-- flags of all that was made since the marker around was pushed. A marker is closed where the flags allow it.
use Prim.Native.Nat.{ℕ, zero, suc}
use mathlib.Core.Bool.{Bool, true, false, cond, ◌&&◌}
use mathlib.Core.List.{List}
use Rattle.definitions.specs.Prog.{Ans, no, yes, also, again, Rule, Act, silent_at, at_end, immediate, immediate_next, add_expected, bump, bump_name, bump_argument, emit, emit_unclosed, less, Prog, ret, act, ◌⨟◌, case, in_marker, loop, chain, brace, open_call}
use Rattle.laws.proofs.Analysis.{Look, same}
use Rattle.laws.proofs.Analysis as A
use Rattle.laws.proofs.Progress.{standing, taking, taking_tokens}
use Rattle.laws.proofs.Progress as G
use Rattle.brackets.specs.Brackets.{end}
use Rattle.brackets.proofs.Bits.{both, either, any, below}
use Rattle.brackets.proofs.Summary.{Sum, bits, exact, concat}
use Rattle.brackets.proofs.Closing.{closing_ok, close}
use Rattle.brackets.proofs.Ahead.{anything, none_left, some_left, another, seen_set, unseen_set}
use Rattle.brackets.proofs.Taken.{meet, bumped, name_taken, leaves}

-- ---------------------------------------------------------------- facts

-- never: a place that is not reached. fact: the classes of the token ahead, and the flags of what was made.
pub data Fact : Type 0 where
  never : Fact
  fact : List Bool → Sum → Fact

-- where no class is left, the place is not reached
unfoldable pub kept : List Bool → Sum → Fact
kept n m = cond (any n) (fact n m) never

infixr 30 ◌∪◌
abbrev pub ◌∪◌ : Fact → Fact → Fact
never ∪ e = e
fact n m ∪ never = fact n m
fact n m ∪ fact j l = fact (either n j) (meet m l)

abbrev pub within : Fact → Fact → Bool
within never e = true
within (fact n m) never = false
within (fact n m) (fact j l) = below n j && below (bits l) (bits m)

-- ---------------------------------------------------------------- looks

abbrev pub only : Ans → Bool → Fact → Look Fact
only no b d = record { ok = b; if_no = d; if_yes = never; if_also = never; if_again = never }
only yes b d = record { ok = b; if_no = never; if_yes = d; if_also = never; if_again = never }
only also b d = record { ok = b; if_no = never; if_yes = never; if_also = d; if_again = never }
only again b d = record { ok = b; if_no = never; if_yes = never; if_also = never; if_again = d }

abbrev pub tested : Fact → Fact → Look Fact
tested n y = record { ok = true; if_no = n; if_yes = y; if_also = never; if_again = never }

abbrev pub any_of : Look Fact → Fact
any_of l = l.if_no ∪ (l.if_yes ∪ (l.if_also ∪ l.if_again))

-- b: something else that has to hold
abbrev pub then_look : Bool → Look Fact → Look Fact → Look Fact
then_look b l m = record { ok = b && (l.ok && m.ok); if_no = m.if_no; if_yes = m.if_yes; if_also = m.if_also; if_again = m.if_again }

abbrev pub of_two : Look Fact → Look Fact → Look Fact
of_two l m =
    record {
      ok = l.ok && m.ok;
      if_no = l.if_no ∪ m.if_no;
      if_yes = l.if_yes ∪ m.if_yes;
      if_also = l.if_also ∪ m.if_also;
      if_again = l.if_again ∪ m.if_again;
    }

-- with another fact after the answer again
abbrev pub going : Look Fact → Fact → Look Fact
going l d = record { ok = l.ok; if_no = l.if_no; if_yes = l.if_yes; if_also = l.if_also; if_again = d }

abbrev pub looks_within : Look Fact → Look Fact → Bool
looks_within l m =
    l.ok && (within l.if_no m.if_no && (within l.if_yes m.if_yes && (within l.if_also m.if_also && within l.if_again m.if_again)))

-- ---------------------------------------------------------------- actions

unfoldable pub look_act : Act → List Bool → Sum → Look Fact
unfolding kept concat bumped name_taken seen_set unseen_set
look_act (silent_at ks) n m = tested (kept (both n (unseen_set ks)) m) (kept (both n (seen_set ks)) m)
look_act at_end n m = tested (kept (both n some_left) m) (kept (both n none_left) m)
look_act (immediate k) n m = tested (fact n m) (fact n m)
look_act (immediate_next k) n m = tested (fact n m) (fact n m)
look_act (add_expected k) n m = only yes true (fact n m)
look_act bump n m = only yes true (fact anything (concat m (bumped n)))
look_act (bump_name ks) n m = only yes true (fact anything (concat m (name_taken n)))
look_act bump_argument n m = tested (fact anything (concat m leaves)) (fact another (concat m leaves))
look_act (emit k h) n m = only yes true (fact n m)
look_act emit_unclosed n m = only yes true (fact n m)
look_act (less j k) n m = tested (fact n m) (fact n m)

-- ---------------------------------------------------------------- programs

-- a program that is not reached is not looked at
unfoldable pub from : Fact → (Fact → Look Fact) → Look Fact
from never f = same true never
from (fact n m) f = f (fact n m)

-- in a marker of its own: what it makes comes after what was made before
abbrev pub joined : Sum → Fact → Fact
joined m never = never
joined m (fact n l) = fact n (concat m l)

abbrev pub joined_all : Sum → Look Fact → Look Fact
joined_all m l =
    record { ok = l.ok; if_no = joined m l.if_no; if_yes = joined m l.if_yes; if_also = joined m l.if_also; if_again = joined m l.if_again }

unfoldable pub scoped : Fact → (Fact → Look Fact) → Look Fact
unfolding concat exact
scoped never f = same true never
scoped (fact n m) f = joined_all m (f (fact n (exact end)))

-- where the marker around is completed as a kind
unfoldable pub returned : ℕ → Ans → Fact → Look Fact
unfolding closing_ok close
returned zero a d = only a true d
returned (suc k) a never = same true never
returned (suc k) a (fact n m) = only a (closing_ok (suc k) m) (fact n (close (suc k) m))

-- a program that completes no marker around
unfoldable pub shapeless : Prog → Bool
shapeless (ret zero a) = true
shapeless (ret (suc k) a) = false
shapeless (act a) = true
shapeless (p ⨟ q) = shapeless q
shapeless (case c n y a) = shapeless n && (shapeless y && shapeless a)
shapeless (in_marker p) = true
shapeless (loop p) = true
shapeless (chain p q) = true
shapeless (brace p) = shapeless p
shapeless (open_call r) = true

-- a turn that answers again takes a token where one is there: the laws' own analysis
unfoldable pub goes_on_surely : Prog → Bool
unfolding A.look G.act_facts G.facts_from G.table
goes_on_surely p = let l = A.look taking_tokens G.table p standing in l.ok && G.within l.if_again taking

-- what holds at a loop's head: what held before it, and what a turn leaves for another
unfoldable pub head : Fact → (Fact → Look Fact) → Fact
unfolding from
head d f =
    let i = d ∪ (from d f).if_again in
    i ∪ (from i f).if_again

abbrev pub at_end_only : Fact → Fact
at_end_only never = never
at_end_only (fact n m) = kept (both n none_left) m

-- A loop's result, from what holds at its head. Where a turn goes on surely, one that answers again and does not move
-- has begun at the end.
unfoldable pub turns : Bool → Fact → (Fact → Look Fact) → Look Fact
unfolding from kept
turns true i f = let l = from (at_end_only i) f in then_look l.ok (from i f) (going (from i f) l.if_again)
turns false i f = from i f

-- the head is one: it holds before the loop, and again after a turn
abbrev pub headed : Fact → Fact → (Fact → Look Fact) → Bool
headed d i f = within d i && within (from i f).if_again i

-- t: what is said of each counted function
unfoldable pub look : (Rule → Fact → Look Fact) → Prog → Fact → Look Fact
unfolding from scoped returned look_act shapeless goes_on_surely head turns
look t (ret k a) d = returned k a d
look t (act a) never = same true never
look t (act a) (fact n m) = look_act a n m
look t (p ⨟ q) d = let l = look t p d in then_look (shapeless p) l (from (any_of l) (look t q))
look t (case c n y a) d =
    let l = look t c d in
    then_look (shapeless c) l (of_two (from l.if_no (look t n)) (of_two (from (l.if_yes ∪ l.if_again) (look t y)) (from l.if_also (look t a))))
look t (in_marker p) d = scoped d (look t p)
look t (loop p) d =
    let i = head d (look t p) in
    let l = turns (goes_on_surely p) i (look t p) in
    then_look (shapeless p && headed d i (look t p)) l l
look t (chain p q) d =
    scoped d (λ e.
    let l = look t p e in
    let i = head l.if_again (look t q) in
    then_look (shapeless p && headed l.if_again i (look t q)) l (of_two (going l never) (from i (look t q))))
look t (brace p) d = look t p d
look t (open_call r) d = scoped d (t r)
