-- A name consists of Ident, Number, Comma and Minus, its first token too: the grammar takes a name only where it has
-- just seen a token of the name's set.
use Prim.Native.Nat.{ℕ, zero, suc}
use mathlib.Core.Path.{◌≡◌, refl, ap, sym, ◌∙◌, subst}
use mathlib.Core.Bool.{Bool, true, false, cond, false≢true}
use mathlib.Core.List.{List, [], ◌∷◌, ◌++◌}
use lib.Dec.{ltb, eqb}
use borrow.Author.Tests.{eqb-true}
use Rattle.definitions.specs.Layout.{MOST_OPEN_CALLS}
use Rattle.definitions.specs.TokenKind as K
use Rattle.definitions.specs.Prog.{Rule, Act, silent_at, at_end, immediate, immediate_next, add_expected, bump, bump_name, bump_argument, emit, emit_unclosed, less}
use Rattle.definitions.specs.Check.{NAME_SET}
use Rattle.definitions.specs.Token.{Token, seen, trivia, drop_trivia, one_of, first_in, past, ended}
use Rattle.definitions.specs.Grammar.{grammar, Entry, whole}
use Rattle.definitions.specs.Skeleton.{Label, no_label, Skeleton, done, token, name, node, ignored, report, over, ◌⧺◌}
use Rattle.definitions.specs.Run.{State, Out, peeked, truth, replies, makes, taken, do_bump, stretch_of, do_name, add, at_depth, do_argument, do_emit, do_expected, perform, closed, run}
use Rattle.definitions.specs.Call.{run_entry}
use Rattle.laws.specs.Lossless.{OfName}
use Rattle.basics.proofs.Tests.{cond-all, and_left, and_right}
use Rattle.laws.proofs.Trivia.{drop_twice}
use Rattle.laws.proofs.Kept.{AllIn, run_of_in}
use Rattle.laws.proofs.Onward.{run_goes}
use Rattle.laws.proofs.Analysis.{Look, get}
use Rattle.laws.proofs.Sound.{Meaning, Sound, Acts, in_same, exec_gives}
use Rattle.laws.proofs.NameLook.{Known, never, nothing, among, ◌∪◌, says_less, inside, may_name, tested, done_so, look_act, look_from, names, calls, grammar_looks, whole_looks}

-- ---------------------------------------------------------------- names in a skeleton

-- the raw tokens of a name: at least one, and each of the four kinds
abbrev pub IsName : List Token → Type 0
IsName [] = ⊥
IsName (t ∷ ts) = OfName (t ∷ ts)

-- every name in it is one
unfoldable pub Named : Skeleton → Type 0
Named done = Unit {0}
Named (token t m o) = Named o
Named (name raw m o) = IsName raw × Named o
Named (node k m m' a i o) = Named a × Named i × Named o
Named (ignored m m' a i o) = Named a × Named i × Named o
Named (report r o) = Named o
Named (over m o) = Named o

pub named_join : (p q : Skeleton) → Named p → Named q → Named (p ⧺ q)
unfolding Named ◌⧺◌
named_join done q h g = g
named_join (token t m p) q h g = named_join p q h g
named_join (name raw m p) q h g = (h.0, named_join p q h.1 g)
named_join (node k m m' a i p) q h g = (h.0, h.1, named_join p q h.2 g)
named_join (ignored m m' a i p) q h g = (h.0, h.1, named_join p q h.2 g)
named_join (report r p) q h g = named_join p q h g
named_join (over m p) q h g = named_join p q h g

named_done : Named done
unfolding Named
named_done = tt

named_closed : (k m m' : ℕ) (a i : Skeleton) → Named a → Named i → Named (closed k m m' a i)
unfolding Named closed
named_closed zero m m' a i h g = (h, g, tt)
named_closed (suc k) m m' a i h g = (h, g, tt)

-- ---------------------------------------------------------------- what the facts mean

abbrev pub Holds : Known → State → Type 0
Holds never s = ⊥
Holds nothing s = Unit {0}
Holds (among ks) s = first_in ks (drop_trivia s.rest) ≡ true

one_of_left : (ks js : List ℕ) (k : ℕ) → one_of ks k ≡ true → one_of (ks ++ js) k ≡ true
unfolding one_of
one_of_left [] js k h = absurd (false≢true h)
one_of_left (x ∷ ks) js k h = go (eqb x k) h (one_of_left ks js k)
  where
    go : (b : Bool) → cond b true (one_of ks k) ≡ true → (one_of ks k ≡ true → one_of (ks ++ js) k ≡ true) → cond b true (one_of (ks ++ js) k) ≡ true
    go true h ih = refl
    go false h ih = ih h

one_of_right : (ks js : List ℕ) (k : ℕ) → one_of js k ≡ true → one_of (ks ++ js) k ≡ true
unfolding one_of
one_of_right [] js k h = h
one_of_right (x ∷ ks) js k h = cond-all (λ (b : Bool). b ≡ true) (eqb x k) {x = true} {y = one_of (ks ++ js) k} refl (one_of_right ks js k h)

first_left : (ks js : List ℕ) (ts : List Token) → first_in ks ts ≡ true → first_in (ks ++ js) ts ≡ true
unfolding first_in
first_left ks js [] h = absurd (false≢true h)
first_left ks js (t ∷ ts) h = one_of_left ks js (seen t) h

first_right : (ks js : List ℕ) (ts : List Token) → first_in js ts ≡ true → first_in (ks ++ js) ts ≡ true
unfolding first_in
first_right ks js [] h = absurd (false≢true h)
first_right ks js (t ∷ ts) h = one_of_right ks js (seen t) h

in_left : (d e : Known) (s : State) → Holds d s → Holds (d ∪ e) s
in_left never e s h = absurd h
in_left nothing e s h = tt
in_left (among ks) never s h = h
in_left (among ks) nothing s h = tt
in_left (among ks) (among js) s h = first_left ks js (drop_trivia s.rest) h

in_right : (d e : Known) (s : State) → Holds e s → Holds (d ∪ e) s
in_right never e s h = h
in_right nothing e s h = tt
in_right (among ks) never s h = absurd h
in_right (among ks) nothing s h = tt
in_right (among ks) (among js) s h = first_right ks js (drop_trivia s.rest) h

weaken : (d e : Known) (s : State) → says_less d e ≡ true → Holds d s → Holds e s
weaken never e s w h = absurd h
weaken nothing never s w h = absurd (false≢true w)
weaken nothing nothing s w h = tt
weaken nothing (among js) s w h = absurd (false≢true w)
weaken (among ks) never s w h = absurd (false≢true w)
weaken (among ks) nothing s w h = tt
weaken (among ks) (among js) s w h = absurd (false≢true w)

nothing_top : (d : Known) → says_less d nothing ≡ true
nothing_top never = refl
nothing_top nothing = refl
nothing_top (among ks) = refl

-- nothing is assumed of a run, and its names are shown to be names
abbrev names_mean : Meaning names
names_mean =
    record {
      Holds = λ d s₀ s. Holds d s;
      Pre = λ p. Unit {0};
      Post = Named;
      pieces = record { join = λ p q h. (tt, tt); closing = λ k m m' a i h. (tt, tt) };
      post_done = named_done;
      post_join = named_join;
      post_closed = named_closed;
      left = λ d e s₀ s h. in_left d e s h;
      right = λ d e s₀ s h. in_right d e s h;
      weaken = λ d e s₀ s w h. weaken d e s w h;
      forget = λ d s₀ s h. tt;
      unknown_within = nothing_top;
    }

-- ---------------------------------------------------------------- the actions

in_tested : (n y : Known) (b : Bool) (s : State) → (b ≡ false → Holds n s) → (b ≡ true → Holds y s) → Holds (get (tested n y) (truth b)) s
in_tested n y true s p q = q refl
in_tested n y false s p q = p refl

peek_holds : (d : Known) (s : State) → Holds d s → Holds d (peeked s)
unfolding peeked
peek_holds never s h = h
peek_holds nothing s h = h
peek_holds (among ks) s h = ap (first_in ks) (drop_twice s.rest) ∙ h

-- where the cursor has not moved
still_holds : (d : Known) (s u : State) → u.rest ≡ s.rest → Holds d s → Holds d u
still_holds never s u e h = h
still_holds nothing s u e h = h
still_holds (among ks) s u e h = ap (λ (l : List Token). first_in ks (drop_trivia l)) e ∙ h

inside_of : (ks js : List ℕ) (k : ℕ) → inside ks js ≡ true → one_of ks k ≡ true → one_of js k ≡ true
unfolding one_of
inside_of [] js k h g = absurd (false≢true g)
inside_of (x ∷ ks) js k h g = go (eqb x k) refl g (inside_of ks js k (and_right (one_of js x) (inside ks js) h))
  where
    go : (b : Bool) → eqb x k ≡ b → cond b true (one_of ks k) ≡ true → (one_of ks k ≡ true → one_of js k ≡ true) → one_of js k ≡ true
    go true e f ih = subst (λ (y : ℕ). one_of js y ≡ true) (eqb-true x k e) (and_left (one_of js x) (inside ks js) h)
    go false e f ih = ih f

of_name : (ks : List ℕ) (ts : List Token) → inside ks NAME_SET ≡ true → AllIn ks ts → OfName ts
of_name ks [] h a = tt
of_name ks (t ∷ ts) h a = (inside_of ks NAME_SET (seen t) h a.0, of_name ks ts h a.1)

-- the first token is of the set
name_first : (d : Known) (ks : List ℕ) (s : State) (t : Token) (ts : List Token) → may_name d ks ≡ true → Holds d s → drop_trivia s.rest ≡ t ∷ ts
    → (one_of ks (seen t) ≡ true) × (inside ks NAME_SET ≡ true)
unfolding first_in
name_first never ks s t ts m h e = absurd h
name_first nothing ks s t ts m h e = absurd (false≢true m)
name_first (among js) ks s t ts m h e =
    (inside_of js ks (seen t) (and_left (inside js ks) _ m) (sym (ap (first_in js) e) ∙ h), and_right (inside js ks) _ m)

name_named : (d : Known) (ks : List ℕ) (s : State) (l : List Token) → drop_trivia s.rest ≡ l → may_name d ks ≡ true → Holds d s → Named (do_name ks (peeked s) l).made
unfolding do_name replies makes Named
name_named d ks s [] e m h = tt
name_named d ks s (t ∷ ts) e m h =
    let f : (one_of ks (seen t) ≡ true) × (inside ks NAME_SET ≡ true) = name_first d ks s t ts m h e in
    (of_name ks (t ∷ (stretch_of ks ts).raw) f.1 (f.0, run_of_in ks ts), tt)

-- a token or a name was taken, or none was there
bump_named : (s : State) (l : List Token) → Named (do_bump s l).made
unfolding do_bump replies makes Named
bump_named s [] = tt
bump_named s (t ∷ ts) = tt

bump_holds : (d : Known) (s : State) (l : List Token) → Holds (get (done_so true nothing) (do_bump s l).ans) (do_bump s l).state
unfolding do_bump replies makes
bump_holds d s [] = tt
bump_holds d s (t ∷ ts) = tt

name_holds : (b : Bool) (ks : List ℕ) (s : State) (l : List Token) → Holds (get (done_so b nothing) (do_name ks s l).ans) (do_name ks s l).state
unfolding do_name replies makes
name_holds b ks s [] = tt
name_holds b ks s (t ∷ ts) = tt

depth_named : (n : ℕ) (o : Out) (f : ℕ → Out) → Named o.made → ((m : ℕ) → Named (f m).made) → Named (at_depth n o f).made
unfolding at_depth
depth_named zero o f p q = p
depth_named (suc n) o f p q = q n

argument_named : (n : ℕ) (s : State) (ts : List Token) → Named (do_argument n s ts).made
unfolding do_argument replies makes add Named ◌⧺◌
argument_named n s [] = tt
argument_named n s (t ∷ ts) =
    let go : (m : ℕ) → Named (do_argument m (taken ts) ts).made = λ m. argument_named m (taken ts) ts in
    cond-all (λ (o : Out). Named o.made) (trivia t) (argument_named n s ts)
    (cond-all (λ (o : Out). Named o.made) (eqb t.kind K.LParen) (go (suc n))
    (cond-all (λ (o : Out). Named o.made) (eqb t.kind K.RParen) (depth_named n _ _ tt go)
    (cond-all (λ (o : Out). Named o.made) (eqb t.kind K.Comma) (depth_named n _ _ tt (λ m. go (suc m))) (go n))))

act_gives : (b : Label) (a : Act) → Sound names names_mean (look_act a) (perform b a)
unfolding look_act perform peeked replies makes do_expected do_emit Named
act_gives b (silent_at ks) d s₀ s m h w =
    (tt, in_tested d (among ks) (first_in ks (drop_trivia s.rest)) (peeked s) (λ _. peek_holds d s h) (λ e. ap (first_in ks) (drop_twice s.rest) ∙ e))
act_gives b at_end d s₀ s m h w = (tt, in_tested d d (ended (drop_trivia s.rest)) (peeked s) (λ _. peek_holds d s h) (λ _. peek_holds d s h))
act_gives b (immediate k) d s₀ s m h w = (tt, in_tested d d (first_in (k ∷ []) s.rest) s (λ _. h) (λ _. h))
act_gives b (immediate_next k) d s₀ s m h w = (tt, in_tested d d (first_in (k ∷ []) (past s.rest)) s (λ _. h) (λ _. h))
act_gives b (add_expected k) d s₀ s m h w = (tt, still_holds d s (perform b (add_expected k) s).state refl h)
act_gives b bump d s₀ s m h w = (bump_named (peeked s) (drop_trivia s.rest), bump_holds d (peeked s) (drop_trivia s.rest))
act_gives b (bump_name ks) d s₀ s m h w = (name_named d ks s (drop_trivia s.rest) refl m h, name_holds (may_name d ks) ks (peeked s) (drop_trivia s.rest))
act_gives b bump_argument d s₀ s m h w = (argument_named 0 s s.rest, in_same names names_mean true nothing (do_argument 0 s s.rest).ans s₀ (do_argument 0 s s.rest).state tt)
act_gives b (emit k j) d s₀ s m h w = (tt, peek_holds d s h)
act_gives b emit_unclosed d s₀ s m h w = (tt, peek_holds d s h)
act_gives b (less j k) d s₀ s m h w = (tt, in_tested d d (ltb j k) s (λ _. h) (λ _. h))

enter : (f : Known → Look Known) (G : State → Out) → Sound names names_mean f G → Sound names names_mean (λ d. look_from d f) G
unfolding look_from
enter f G S never s₀ s m h = absurd h
enter f G S nothing s₀ s m h = S nothing s₀ s m h
enter f G S (among ks) s₀ s m h = S (among ks) s₀ s m h

names_acts : Acts names names_mean
names_acts = record { act = act_gives; enter = λ f G S goes. enter f G S }

-- ---------------------------------------------------------------- every name

-- EVERY NAME IN A CALL is of its set
pub run_names : (n : ℕ) (r : Rule) (s : State) → Named (run n r s).made
unfolding run makes Named
run_names zero r s = tt
run_names (suc n) r s =
    (exec_gives names names_mean names_acts (run n) (run_goes n) calls (λ q d s₀ u m h w. (run_names n q u, in_same names names_mean true nothing (run n q u).ans s₀ (run n q u).state tt)) no_label
    (grammar r) nothing s s (grammar_looks r) tt tt).0

-- and in a whole file
pub entry_names : (e : Entry) (ts : List Token) → Named (run_entry e ts)
unfolding run_entry
entry_names e ts =
    (exec_gives names names_mean names_acts (run MOST_OPEN_CALLS) (run_goes MOST_OPEN_CALLS) calls (λ q d s₀ u m h w. (run_names MOST_OPEN_CALLS q u, in_same names names_mean true nothing (run MOST_OPEN_CALLS q u).ans s₀ (run MOST_OPEN_CALLS q u).state tt)) no_label
    (whole e) nothing (taken ts) (taken ts) (whole_looks e) tt tt).0
