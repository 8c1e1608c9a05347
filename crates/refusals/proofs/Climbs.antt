-- Open calls grow one by one, so that the first too many is the 65th: no call is opened after a 65th, by one more
-- induction over programs.
use Prim.Native.Nat.{ℕ, zero, suc, ◌+◌, ◌≤◌}
use native.Mathlib.Omega.{arith}
use mathlib.Core.Path.{◌≡◌, refl, subst}
use mathlib.Core.Bool.{cond}
use mathlib.Core.List.{List, [], ◌∷◌, ◌++◌}
use lib.ListN.{length}
use Rattle.definitions.specs.Token.{tokens_of}
use Rattle.definitions.specs.Prog.{choose, Ans, no, yes, also, again, Rule, Act, silent_at, at_end, immediate, immediate_next, add_expected, bump, bump_name, bump_argument, emit, emit_unclosed, less, Prog, ret, act, ◌⨟◌, case, in_marker, loop, chain, brace, open_call}
use Rattle.definitions.specs.Grammar.{grammar, Entry, whole}
use Rattle.definitions.specs.Skeleton.{Label, no_label, Skeleton, done, token, name, node, ignored, report, over}
use Rattle.definitions.specs.Run.{State, Out, taken, perform, is_again, goes_on, by_shape, here, exec, run}
use Rattle.definitions.specs.Call.{Buffers}
use Rattle.basics.proofs.Tests.{cond-all}
use Rattle.refusals.specs.First.{First}
use Rattle.refusals.specs.Trace.{Happening, call_opened, event_pushed, report_written, event_at, made_by, act_trace, iter_trace, links_trace, exec_trace, run_trace, trace}
use Rattle.refusals.specs.Refusals.{MAX_OPEN, Unrefused, happens}

-- no call after a 65th
abbrev Climbs : List Happening → Type 0
Climbs [] = Unit {0}
Climbs (call_opened c m ∷ l) = (c ≤ suc MAX_OPEN) × Climbs l
Climbs (event_pushed m ∷ l) = Climbs l
Climbs (report_written c m ∷ l) = Climbs l

climbs_append : (l m : List Happening) → Climbs l → Climbs m → Climbs (l ++ m)
climbs_append [] m h g = g
climbs_append (call_opened c x ∷ l) m h g = (h.0, climbs_append l m h.1 g)
climbs_append (event_pushed x ∷ l) m h g = climbs_append l m h g
climbs_append (report_written c x ∷ l) m h g = climbs_append l m h g

climbs_after : (l m : List Happening) → Climbs (l ++ m) → Climbs m
climbs_after [] m h = h
climbs_after (call_opened c x ∷ l) m h = climbs_after l m h.1
climbs_after (event_pushed x ∷ l) m h = climbs_after l m h
climbs_after (report_written c x ∷ l) m h = climbs_after l m h

-- whatever state it begins at
abbrev Climbing : (State → List Happening) → Type 0
Climbing g = (s : State) → Climbs (g s)

-- ---------------------------------------------------------------- actions, loops and chains

-- what an action makes opens no call
made_climbs : (p : Skeleton) → Climbs (made_by p)
unfolding made_by
made_climbs done = tt
made_climbs (token t m o) = made_climbs o
made_climbs (name ts m o) = made_climbs o
made_climbs (node k m m' a i o) = tt
made_climbs (ignored m m' a i o) = tt
made_climbs (report r o) = made_climbs o
made_climbs (over m o) = tt

act_climbs : (b : Label) (a : Act) → Climbing (act_trace b a)
unfolding act_trace
act_climbs b (silent_at ks) s = tt
act_climbs b at_end s = tt
act_climbs b (immediate k) s = tt
act_climbs b (immediate_next k) s = tt
act_climbs b (add_expected k) s = tt
act_climbs b bump s = made_climbs (perform b bump s).made
act_climbs b (bump_name ks) s = made_climbs (perform b (bump_name ks) s).made
act_climbs b bump_argument s = made_climbs (perform b bump_argument s).made
act_climbs b (emit m h) s = made_climbs (perform b (emit m h) s).made
act_climbs b emit_unclosed s = made_climbs (perform b emit_unclosed s).made
act_climbs b (less m n) s = tt

iter_climbs : (n : ℕ) (f : State → Out) (g : State → List Happening) → Climbing g → Climbing (iter_trace n f g)
unfolding iter_trace
iter_climbs zero f g K s = tt
iter_climbs (suc n) f g K s =
    climbs_append (g s) _ (K s) (cond-all Climbs (goes_on s (f s)) {x = iter_trace n f g (f s).state} {y = []} (iter_climbs n f g K (f s).state) tt)

by_shape_climbs : (k : ℕ) (l : List Happening) → Climbs l → Climbs (by_shape k [] l)
unfolding by_shape
by_shape_climbs zero l h = tt
by_shape_climbs (suc k) l h = h

links_climbs : (n : ℕ) (f : State → Out) (g : State → List Happening) → Climbing g → Climbing (links_trace n f g)
unfolding links_trace
links_climbs zero f g K s = tt
links_climbs (suc n) f g K s =
    let u : State = (f s).state in
    climbs_append (g s) _ (K s)
    (by_shape_climbs (f s).shape (event_at u ++ cond (goes_on s (f s)) (links_trace n f g u) (event_at u))
    (cond-all Climbs (goes_on s (f s)) {x = links_trace n f g u} {y = event_at u} (links_climbs n f g K u) tt))

-- ---------------------------------------------------------------- every program, every call

choose_climbs : (x : Ans) (f g k : State → List Happening) → Climbing f → Climbing g → Climbing k → Climbing (choose x f g k)
unfolding choose
choose_climbs no f g k p q r s = p s
choose_climbs yes f g k p q r s = q s
choose_climbs also f g k p q r s = r s
choose_climbs again f g k p q r s = q s

exec_climbs : (ask : Rule → State → Out) (inside : Rule → State → List Happening) → ((r : Rule) → Climbing (inside r)) → (b : Label) (p : Prog) → Climbing (exec_trace ask inside b p)
unfolding exec_trace
exec_climbs ask inside K b (ret k a) s = tt
exec_climbs ask inside K b (act a) s = act_climbs b a s
exec_climbs ask inside K b (p ⨟ q) s = climbs_append (exec_trace ask inside b p s) _ (exec_climbs ask inside K b p s) (exec_climbs ask inside K b q (exec ask b p s).state)
exec_climbs ask inside K b (case c n y a) s =
    climbs_append (exec_trace ask inside b c s) _ (exec_climbs ask inside K b c s)
    (choose_climbs (exec ask b c s).ans (exec_trace ask inside b n) (exec_trace ask inside b y) (exec_trace ask inside b a) (exec_climbs ask inside K b n) (exec_climbs ask inside K b y) (exec_climbs ask inside K b a)
    (exec ask b c s).state)
exec_climbs ask inside K b (in_marker p) s = climbs_append (exec_trace ask inside b p s) _ (exec_climbs ask inside K b p s) tt
exec_climbs ask inside K b (loop p) s = iter_climbs (suc (length s.rest)) (exec ask b p) (exec_trace ask inside b p) (exec_climbs ask inside K b p) s
exec_climbs ask inside K b (chain p q) s =
    let u : State = (exec ask b p s).state in
    climbs_append (exec_trace ask inside b p s) _ (exec_climbs ask inside K b p s)
    (cond-all Climbs (is_again (exec ask b p s).ans) {x = links_trace (suc (length u.rest)) (exec ask b q) (exec_trace ask inside b q) u} {y = event_at u}
    (links_climbs (suc (length u.rest)) (exec ask b q) (exec_trace ask inside b q) (exec_climbs ask inside K b q) u) tt)
exec_climbs ask inside K b (brace p) s = exec_climbs ask inside K (here s.rest) p s
exec_climbs ask inside K b (open_call r) s = K r s

-- the calls that are allowed and those that are open make up the limit
run_climbs : (n d : ℕ) → n + d ≡ MAX_OPEN → (r : Rule) → Climbing (run_trace n d r)
unfolding run_trace
run_climbs zero d e r s = (omega (arith, e), tt)
run_climbs (suc n) d e r s = (omega (arith, e), exec_climbs (run n) (run_trace n (suc d)) (run_climbs n (suc d) (omega (arith, e))) no_label (grammar r) s)

entry_climbs : (e : Entry) (tokens : List ℕ) → Climbs (happens e tokens)
unfolding trace
entry_climbs e tokens = exec_climbs (run MAX_OPEN) (run_trace MAX_OPEN 0) (run_climbs MAX_OPEN 0 refl) no_label (whole e) (taken (tokens_of tokens))

-- THE FIRST TOO MANY
pub the_65th : (b : Buffers) (e : Entry) (tokens : List ℕ) (before : List Happening) (c m : ℕ) → First (Unrefused b) (happens e tokens) before (call_opened c m) → c ≡ suc MAX_OPEN
the_65th b e tokens before c m f =
    let k : Climbs (call_opened c m ∷ f.after) = climbs_after before (call_opened c m ∷ f.after) (subst Climbs f.stands (entry_climbs e tokens)) in
    omega (arith, k.0, f.fails)
