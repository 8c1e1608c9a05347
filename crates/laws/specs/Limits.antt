-- LIMITS: in every accepted call at most 64 calls are open, at every moment of its run. It excludes a parser that goes
-- deeper than document 01 allows and still answers 0.
use Rattle.std.specs.Prelude.{ℕ, zero, suc, ◌≤◌, ◌≡◌, cond, List, [], ◌∷◌, ◌++◌, length}
use Rattle.definitions.specs.Layout.{MOST_OPEN_CALLS}
use Rattle.definitions.specs.Token.{Token, tokens_of}
use Rattle.definitions.specs.Prog.{choose, Rule, Prog, ret, act, ◌⨟◌, case, in_marker, loop, chain, brace, open_call}
use Rattle.definitions.specs.Grammar.{grammar, Entry, whole}
use Rattle.definitions.specs.Skeleton.{Label, no_label}
use Rattle.definitions.specs.Run.{State, Out, taken, is_again, goes_on, by_shape, here, exec, run}
use Rattle.definitions.specs.Call.{Buffers, for, entry_of}
use Rattle.definitions.specs.Call as Call

-- a moment of a run: how many calls are open then, and the parser's state
pub record Moment : Type 0 where
  pub open_calls : ℕ
  pub state : State

abbrev pub moment : State → List Moment
moment s = record { open_calls = 0; state = s } ∷ []

-- inside one call more
unfoldable pub deeper : List Moment → List Moment
deeper [] = []
deeper (x ∷ l) = record { open_calls = suc x.open_calls; state = x.state } ∷ deeper l

-- The moments of a program's run, in order, clause by clause as `Run.exec`, `Run.iter`, `Run.links` and `Run.run`.
-- f: what a turn does. g: its moments.
unfoldable pub iter_moments : ℕ → (State → Out) → (State → List Moment) → State → List Moment
unfolding goes_on
iter_moments zero f g s = []
iter_moments (suc n) f g s = g s ++ (let more = iter_moments n f g (f s).state in cond (goes_on s (f s)) more [])

unfoldable pub links_moments : ℕ → (State → Out) → (State → List Moment) → State → List Moment
unfolding goes_on by_shape
links_moments zero f g s = []
links_moments (suc n) f g s =
    g s ++ (let more = links_moments n f g (f s).state in by_shape (f s).shape [] (cond (goes_on s (f s)) more []))

-- ask: what a call does. in-call: its moments.
unfoldable pub moments : (Rule → State → Out) → (Rule → State → List Moment) → Label → Prog → State → List Moment
unfolding exec is_again choose iter_moments links_moments
moments ask in-call b (ret k a) s = moment s
moments ask in-call b (act a) s = moment s ++ moment (exec ask b (act a) s).state
moments ask in-call b (p ⨟ q) s = moments ask in-call b p s ++ moments ask in-call b q (exec ask b p s).state
moments ask in-call b (case c n y a) s =
    let o = exec ask b c s in
    moments ask in-call b c s
    ++ choose o.ans (moments ask in-call b n) (moments ask in-call b y) (moments ask in-call b a)
    o.state
moments ask in-call b (in_marker p) s = moments ask in-call b p s
moments ask in-call b (loop p) s = iter_moments (suc (length s.rest)) (exec ask b p) (moments ask in-call b p) s
moments ask in-call b (chain p q) s =
    let o = exec ask b p s in
    moments ask in-call b p s ++ (let more = links_moments (suc (length o.state.rest)) (exec ask b q)
    (moments ask in-call b q) o.state in cond (is_again o.ans) more [])
moments ask in-call b (brace p) s = moments ask in-call (here s.rest) p s
moments ask in-call b (open_call r) s = in-call r s

-- a call is open from where it begins; the one that is too many does nothing more
unfoldable pub run_moments : ℕ → Rule → State → List Moment
unfolding deeper run moments
run_moments zero r s = deeper (moment s)
run_moments (suc n) r s = deeper (moment s ++ moments (run n) (run_moments n) no_label (grammar r) s)

-- the moments of an entry's run
unfoldable pub entry_moments : Entry → List Token → List Moment
unfolding moments run run_moments
entry_moments e ts = moments (run MOST_OPEN_CALLS) (run_moments MOST_OPEN_CALLS) no_label (whole e) (taken ts)

-- at each of them at most n calls are open
abbrev pub Limited : ℕ → List Moment → Type 0
Limited n [] = Unit {0}
Limited n (x ∷ l) = (x.open_calls ≤ n) × Limited n l

-- for every accepted call
abbrev pub Limits : Type 0
Limits =
    (n setting : ℕ) (bytes tokens : List ℕ) (b : Buffers) → (Call.call n setting bytes tokens b).answer.number ≡ 0
    → (e : Entry) × (entry_of n ≡ for e) × Limited MOST_OPEN_CALLS (entry_moments e (tokens_of tokens))
