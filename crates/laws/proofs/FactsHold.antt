-- What the facts of Progress.antt mean, and that each action gives the facts that the analysis says.
use Prim.Native.Nat.{ℕ, ◌≤◌, ◌<◌}
use native.Mathlib.Nat.{le_trans, le_refl}
use native.Mathlib.Omega.{arith}
use mathlib.Core.Path.{◌≡◌, refl, ap, sym, ◌∙◌, subst}
use mathlib.Core.Bool.{Bool, true, false, ◌&&◌, ◌||◌, false≢true, true≢false}
use mathlib.Core.List.{List, [], ◌∷◌, ◌++◌}
use lib.Dec.{ltb}
use lib.ListN.{length, length-append}
use Rattle.definitions.specs.Prog.{Act, silent_at, at_end, immediate, immediate_next, add_expected, bump, bump_name, bump_argument, emit, emit_unclosed, less}
use Rattle.definitions.specs.Token.{Token, drop_trivia, first_in, past, ended}
use Rattle.definitions.specs.Skeleton.{Label}
use Rattle.definitions.specs.Run.{State, mark_of, peeked, truth, replies, makes, taken, do_bump, stretch_of, do_name, do_emit, do_expected, perform}
use Rattle.basics.proofs.Tests.{and_left, and_right}
use Rattle.laws.proofs.Trivia.{drop_twice, drop_trivia_length}
use Rattle.laws.proofs.Kept.{Stands, stands_taken, stands_peeked, run_of_split, act_ran}
use Rattle.laws.proofs.Onward.{Onward, onward_kept}
use Rattle.laws.proofs.Clear.{BelowLimits, within_pieces}
use Rattle.laws.proofs.Analysis.{get}
use Rattle.laws.proofs.Sound.{Meaning, in_same}
use Rattle.laws.proofs.Progress.{Fact, fact, anything, ◌∪◌, implies, within, tested, done_so, bumped, act_facts, taking_tokens}

-- ---------------------------------------------------------------- what the facts mean

-- a token is there to take, or none
abbrev pub There : State → Type 0
There s = ended (drop_trivia s.rest) ≡ false

abbrev pub Gone : State → Type 0
Gone s = ended (drop_trivia s.rest) ≡ true

-- a token was taken on the way from s₀ to s: fewer are left after it than stood at the cursor
abbrev pub Taken : State → State → Type 0
Taken s₀ s = mark_of s < length s₀.rest

pub data Case (d : Fact) (s₀ s : State) : Type 0 where
  took_case : d.took ≡ true → Taken s₀ s → Case d s₀ s
  there_case : d.there ≡ true → There s → Case d s₀ s
  gone_case : d.gone ≡ true → Gone s → Case d s₀ s

-- d holds at s, on the way from s₀
pub record Holds (d : Fact) (s₀ s : State) : Type 0 where
  pub stands : Stands s
  pub below : length s.rest ≤ length s₀.rest
  pub case : Case d s₀ s

pub or_left : (a b : Bool) → a ≡ true → (a || b) ≡ true
or_left true b e = refl
or_left false b e = absurd (false≢true e)

pub or_right : (a b : Bool) → b ≡ true → (a || b) ≡ true
or_right true b e = refl
or_right false b e = e

case_left : (d e : Fact) (s₀ s : State) → Case d s₀ s → Case (d ∪ e) s₀ s
case_left d e s₀ s (took_case h t) = took_case (or_left d.took e.took h) t
case_left d e s₀ s (there_case h t) = there_case (or_left d.there e.there h) t
case_left d e s₀ s (gone_case h t) = gone_case (or_left d.gone e.gone h) t

case_right : (d e : Fact) (s₀ s : State) → Case e s₀ s → Case (d ∪ e) s₀ s
case_right d e s₀ s (took_case h t) = took_case (or_right d.took e.took h) t
case_right d e s₀ s (there_case h t) = there_case (or_right d.there e.there h) t
case_right d e s₀ s (gone_case h t) = gone_case (or_right d.gone e.gone h) t

pub in_left : (d e : Fact) (s₀ s : State) → Holds d s₀ s → Holds (d ∪ e) s₀ s
in_left d e s₀ s h = record { stands = h.stands; below = h.below; case = case_left d e s₀ s h.case }

pub in_right : (d e : Fact) (s₀ s : State) → Holds e s₀ s → Holds (d ∪ e) s₀ s
in_right d e s₀ s h = record { stands = h.stands; below = h.below; case = case_right d e s₀ s h.case }

pub implied : (a b : Bool) → implies a b ≡ true → a ≡ true → b ≡ true
implied true b e h = e
implied false b e h = absurd (false≢true h)

pub weaken : (d e : Fact) (s₀ s : State) → within d e ≡ true → Holds d s₀ s → Holds e s₀ s
weaken d e s₀ s w h = record { stands = h.stands; below = h.below; case = go h.case }
  where
    go : Case d s₀ s → Case e s₀ s
    go (took_case i t) = took_case (implied d.took e.took (and_left (implies d.took e.took) _ w) i) t
    go (there_case i t) = there_case (implied d.there e.there (and_left (implies d.there e.there) _ (and_right (implies d.took e.took) _ w)) i) t
    go (gone_case i t) = gone_case (implied d.gone e.gone (and_right (implies d.there e.there) _ (and_right (implies d.took e.took) _ w)) i) t

-- of any state one of the three holds
pub in_anything : (s₀ s : State) → Stands s → length s.rest ≤ length s₀.rest → Holds anything s₀ s
in_anything s₀ s h l = record { stands = h; below = l; case = go (ended (drop_trivia s.rest)) refl }
  where
    go : (b : Bool) → ended (drop_trivia s.rest) ≡ b → Case anything s₀ s
    go true e = gone_case refl e
    go false e = there_case refl e

pub anything_top : (d : Fact) → within d anything ≡ true
anything_top d = go d.took d.there d.gone
  where
    go : (a b c : Bool) → (implies a true && (implies b true && implies c true)) ≡ true
    go true true true = refl
    go true true false = refl
    go true false true = refl
    go true false false = refl
    go false true true = refl
    go false true false = refl
    go false false true = refl
    go false false false = refl

-- of a run without refusal 5
abbrev pub taking_means : Meaning taking_tokens
taking_means =
    record {
      Holds = Holds;
      Pre = BelowLimits;
      Post = λ p. Unit {0};
      pieces = within_pieces;
      post_done = tt;
      post_join = λ p q h g. tt;
      post_closed = λ k m m' a i h g. tt;
      left = in_left;
      right = in_right;
      weaken = weaken;
      forget = λ d s₀ s h. in_anything s₀ s h.stands h.below;
      unknown_within = anything_top;
    }

-- ---------------------------------------------------------------- the actions

in_tested : (n y : Fact) (b : Bool) (s₀ s : State) → (b ≡ false → Holds n s₀ s) → (b ≡ true → Holds y s₀ s) → Holds (get (tested n y) (truth b)) s₀ s
in_tested n y true s₀ s p q = q refl
in_tested n y false s₀ s p q = p refl

-- the cursor past some trivia at most, nothing taken
held : (d : Fact) (s₀ s u : State) → Stands u → length u.rest ≤ length s.rest → u.since ≡ s.since → drop_trivia u.rest ≡ drop_trivia s.rest → Holds d s₀ s → Holds d s₀ u
held d s₀ s u k l e f h = record { stands = k; below = le_trans l h.below; case = go h.case }
  where
    go : Case d s₀ s → Case d s₀ u
    go (took_case i t) = took_case i (subst (λ (x : List Token). length x < length s₀.rest) (sym e) t)
    go (there_case i t) = there_case i (ap ended f ∙ t)
    go (gone_case i t) = gone_case i (ap ended f ∙ t)

peek_holds : (d : Fact) (s₀ s : State) → Holds d s₀ s → Holds d s₀ (peeked s)
unfolding peeked
peek_holds d s₀ s h = held d s₀ s (peeked s) (stands_peeked s h.stands) (drop_trivia_length s.rest) refl (drop_twice s.rest) h

-- where a token is seen to be there, it is not gone
now_there : (d : Fact) (s₀ s : State) → There s → Holds d s₀ s → Holds (fact d.took d.there false) s₀ s
now_there d s₀ s x h = record { stands = h.stands; below = h.below; case = go h.case }
  where
    go : Case d s₀ s → Case (fact d.took d.there false) s₀ s
    go (took_case i t) = took_case i t
    go (there_case i t) = there_case i t
    go (gone_case i t) = absurd (true≢false (sym t ∙ x))

now_gone : (d : Fact) (s₀ s : State) → Gone s → Holds d s₀ s → Holds (fact d.took false d.gone) s₀ s
now_gone d s₀ s x h = record { stands = h.stands; below = h.below; case = go h.case }
  where
    go : Case d s₀ s → Case (fact d.took false d.gone) s₀ s
    go (took_case i t) = took_case i t
    go (there_case i t) = absurd (true≢false (sym x ∙ t))
    go (gone_case i t) = gone_case i t

pub first_there : (ks : List ℕ) (l : List Token) → first_in ks l ≡ true → ended l ≡ false
unfolding first_in
first_there ks [] e = absurd (false≢true e)
first_there ks (t ∷ ts) e = refl

-- tokens from the cursor on were taken, and us is left
now_taken : (d : Fact) (s₀ s : State) (us : List Token) → There s → length us < length s.rest → Holds d s₀ s → Holds (bumped d) s₀ (taken us)
now_taken d s₀ s us x l h = record { stands = stands_taken us; below = omega (arith, h.below); case = go h.case }
  where
    t : length us < length s₀.rest
    t = omega (arith, h.below)

    go : Case d s₀ s → Case (bumped d) s₀ (taken us)
    go (took_case i y) = took_case (or_left d.took d.there i) t
    go (there_case i y) = took_case (or_right d.took d.there i) t
    go (gone_case i y) = absurd (true≢false (sym y ∙ x))

-- no token was there to take
not_taken : (d : Fact) (s₀ s : State) → Gone s → Holds d s₀ s → Holds (bumped d) s₀ s
not_taken d s₀ s x h = record { stands = h.stands; below = h.below; case = go h.case }
  where
    go : Case d s₀ s → Case (bumped d) s₀ s
    go (took_case i t) = took_case (or_left d.took d.there i) t
    go (there_case i t) = absurd (true≢false (sym x ∙ t))
    go (gone_case i t) = gone_case i t

bump_holds : (d : Fact) (s₀ s : State) (l : List Token) → drop_trivia s.rest ≡ l → Holds d s₀ s → Holds (get (done_so (bumped d)) (do_bump (peeked s) l).ans) s₀ (do_bump (peeked s) l).state
unfolding do_bump replies makes
bump_holds d s₀ s [] e h = not_taken d s₀ (peeked s) (unfold peeked in (ap ended (drop_twice s.rest ∙ e))) (peek_holds d s₀ s h)
bump_holds d s₀ s (t ∷ ts) e h = now_taken d s₀ s ts (ap ended e) (omega (arith, ap length e, drop_trivia_length s.rest)) h

name_holds : (d : Fact) (ks : List ℕ) (s₀ s : State) (l : List Token) → drop_trivia s.rest ≡ l → Holds d s₀ s → Holds (get (done_so (bumped d)) (do_name ks (peeked s) l).ans) s₀ (do_name ks (peeked s) l).state
unfolding do_name replies makes
name_holds d ks s₀ s [] e h = not_taken d s₀ (peeked s) (unfold peeked in (ap ended (drop_twice s.rest ∙ e))) (peek_holds d s₀ s h)
name_holds d ks s₀ s (t ∷ ts) e h =
    let n : length ts ≡ length ((stretch_of ks ts).raw ++ (stretch_of ks ts).after) = ap length (run_of_split ks ts) in
    now_taken d s₀ s (stretch_of ks ts).after (ap ended e) (omega (arith, ap length e, drop_trivia_length s.rest, length-append (stretch_of ks ts).raw (stretch_of ks ts).after)) h

pub act_holds : (b : Label) (a : Act) (d : Fact) (s₀ s : State) → Holds d s₀ s → Holds (get (act_facts a d) (perform b a s).ans) s₀ (perform b a s).state
unfolding act_facts perform peeked replies makes do_expected do_emit
act_holds b (silent_at ks) d s₀ s h =
    in_tested d (fact d.took d.there false) (first_in ks (drop_trivia s.rest)) s₀ (peeked s) (λ _. peek_holds d s₀ s h)
    (λ e. now_there d s₀ (peeked s) (ap ended (drop_twice s.rest) ∙ first_there ks (drop_trivia s.rest) e) (peek_holds d s₀ s h))
act_holds b at_end d s₀ s h =
    in_tested (fact d.took d.there false) (fact d.took false d.gone) (ended (drop_trivia s.rest)) s₀ (peeked s)
    (λ e. now_there d s₀ (peeked s) (ap ended (drop_twice s.rest) ∙ e) (peek_holds d s₀ s h))
    (λ e. now_gone d s₀ (peeked s) (ap ended (drop_twice s.rest) ∙ e) (peek_holds d s₀ s h))
act_holds b (immediate k) d s₀ s h = in_tested d d (first_in (k ∷ []) s.rest) s₀ s (λ _. h) (λ _. h)
act_holds b (immediate_next k) d s₀ s h = in_tested d d (first_in (k ∷ []) (past s.rest)) s₀ s (λ _. h) (λ _. h)
act_holds b (add_expected k) d s₀ s h = held d s₀ s (perform b (add_expected k) s).state (record { passed = h.stands.passed }) (le_refl _) refl refl h
act_holds b bump d s₀ s h = bump_holds d s₀ s (drop_trivia s.rest) refl h
act_holds b (bump_name ks) d s₀ s h = name_holds d ks s₀ s (drop_trivia s.rest) refl h
act_holds b bump_argument d s₀ s h =
    let g : Stands (perform b bump_argument s).state × Onward s (perform b bump_argument s).made (perform b bump_argument s).state = act_ran Onward onward_kept b bump_argument s h.stands in
    in_same taking_tokens taking_means true anything (perform b bump_argument s).ans s₀ (perform b bump_argument s).state (in_anything s₀ (perform b bump_argument s).state g.0 (le_trans g.1.rest h.below))
act_holds b (emit m k) d s₀ s h = peek_holds d s₀ s h
act_holds b emit_unclosed d s₀ s h = peek_holds d s₀ s h
act_holds b (less m n) d s₀ s h = in_tested d d (ltb m n) s₀ s (λ _. h) (λ _. h)
