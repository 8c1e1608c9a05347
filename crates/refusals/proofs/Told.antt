-- What a run makes and what happens in it have the same steps: one induction over programs, loops, chains and open
-- calls.
use Prim.Native.Nat.{ℕ, zero, suc, ◌+◌}
use native.Mathlib.Omega.{arith}
use mathlib.Core.Path.{◌≡◌, refl, sym, ap, ap₂, ◌∙◌}
use mathlib.Core.Bool.{Bool, true, false, cond}
use mathlib.Core.List.{List, [], ◌∷◌, ◌++◌, append-nil, append_assoc}
use lib.ListN.{length}
use borrow.Author.Tests.{le-leb, lt-leb}
use Rattle.definitions.specs.Token.{Token}
use Rattle.definitions.specs.Prog.{choose, Ans, no, yes, also, again, Rule, Prog, ret, act, ◌⨟◌, case, in_marker, loop, chain, brace, open_call}
use Rattle.definitions.specs.Grammar.{grammar, Entry, whole}
use Rattle.definitions.specs.Skeleton.{Label, no_label, Skeleton, done, ◌⧺◌}
use Rattle.definitions.specs.Run.{State, Out, mark_of, replies, makes, taken, add, closed, marked, is_again, goes_on, iter, unlinked, by_shape, links, chained, here, exec, run}
use Rattle.definitions.specs.Report.{pushes}
use Rattle.definitions.specs.Call.{run_entry}
use Rattle.laws.proofs.Pieces.{linked}
use Rattle.refusals.specs.Trace.{Happening, event_at, iter_trace, links_trace, exec_trace, run_trace, trace}
use Rattle.refusals.specs.Refusals.{MAX_OPEN}
use Rattle.refusals.proofs.Steps.{Step, an_event, told, flat, told_append, steps, steps_join, steps_closed, act_told}

-- what f makes and what happens in g say the same
abbrev Tells : (State → Out) → (State → List Happening) → Type 0
Tells f g = (s : State) → steps (f s).made ≡ told (g s)

join_tells : (p q : Skeleton) (l m : List Happening) → steps p ≡ told l → steps q ≡ told m → steps (p ⧺ q) ≡ told (l ++ m)
join_tells p q l m h g = steps_join p q ∙ ap₂ ◌++◌ h g ∙ sym (told_append l m)

turn_tells : (b : Bool) (o x : Out) (l m : List Happening) → steps o.made ≡ told l → steps x.made ≡ told m
    → steps (cond b (add (makes o.ans o.made o.state) x) (makes o.ans o.made o.state)).made ≡ told (l ++ cond b m [])
unfolding add makes
turn_tells true o x l m h g = join_tells o.made x.made l m h g
turn_tells false o x l m h g = h ∙ ap told (sym (append-nil l))

iter_tells : (n : ℕ) (f : State → Out) (g : State → List Happening) → Tells f g → Tells (iter n f) (iter_trace n f g)
unfolding iter iter_trace replies pushes flat told
iter_tells zero f g h s = refl
iter_tells (suc n) f g h s = turn_tells (goes_on s (f s)) (f s) (iter n f (f s).state) (g s) (iter_trace n f g (f s).state) (h s) (iter_tells n f g h (f s).state)

-- a chain under way: the open marker, what was made since, and what happens from here on
abbrev Open : ℕ → Skeleton → Skeleton → List Step → List Step
Open m a i l = steps a ++ (an_event m ∷ (steps i ++ l))

-- the marker is ignored at a state
last_tells : (m : ℕ) (a i : Skeleton) (x : Ans) (s : State) → steps (unlinked m a i x s).made ≡ Open m a i (told (event_at s))
unfolding unlinked makes told
last_tells m a i x s = steps_closed 0 m (mark_of s) a i

-- something more is made in it
more_tells : (m : ℕ) (a i p : Skeleton) (l : List Happening) (x : List Step) → steps p ≡ told l → Open m a (i ⧺ p) x ≡ Open m a i (told l ++ x)
more_tells m a i p l x h =
    ap (λ (z : List Step). steps a ++ (an_event m ∷ z)) (ap (◌++ x) (steps_join i p ∙ ap (steps i ++◌) h) ∙ append_assoc (steps i) (told l) x)

-- a link completes the marker at mark n and pushes the next
link_tells : (k m n : ℕ) (a i : Skeleton) (x : List Step) → Open n (closed k m n a i) done x ≡ Open m a i (an_event n ∷ an_event n ∷ x)
unfolding pushes flat
link_tells k m n a i x =
    ap (◌++ (an_event n ∷ x)) (steps_closed k m n a i) ∙ append_assoc (steps a) (an_event m ∷ (steps i ++ (an_event n ∷ []))) (an_event n ∷ x)
    ∙ ap (λ (z : List Step). steps a ++ (an_event m ∷ z)) (append_assoc (steps i) (an_event n ∷ []) (an_event n ∷ x))

-- one link, whether it shapes the marker or not, and whether the chain goes on or not; x and q: the rest of a chain
-- that goes on
one_link_tells : (k m : ℕ) (b : Bool) (a i : Skeleton) (o x : Out) (l q : List Happening) → steps o.made ≡ told l
    → steps x.made ≡ Open (mark_of o.state) (linked m a i o) done (told q)
    → steps (by_shape k (unlinked m a (i ⧺ o.made) o.ans o.state) (cond b x (unlinked (mark_of o.state) (linked m a i o) done o.ans o.state))).made
    ≡ Open m a i (told (l ++ (event_at o.state ++ by_shape k [] (event_at o.state ++ cond b q (event_at o.state)))))
unfolding by_shape told
one_link_tells zero m b a i o x l q h g =
    last_tells m a (i ⧺ o.made) o.ans o.state ∙ more_tells m a i o.made l (told (event_at o.state)) h
    ∙ ap (Open m a i) (sym (told_append l (event_at o.state)))
one_link_tells (suc k) m b a i o x l q h g = by b
  where
    on : (z : List Happening) → Open (mark_of o.state) (linked m a i o) done (told z) ≡ Open m a i (told (l ++ (event_at o.state ++ (event_at o.state ++ z))))
    on z =
        link_tells o.shape m (mark_of o.state) a (i ⧺ o.made) (told z)
        ∙ more_tells m a i o.made l (an_event (mark_of o.state) ∷ an_event (mark_of o.state) ∷ told z) h
        ∙ ap (Open m a i) (sym (told_append l (event_at o.state ++ (event_at o.state ++ z))))

    by : (b : Bool) → steps (cond b x (unlinked (mark_of o.state) (linked m a i o) done o.ans o.state)).made
        ≡ Open m a i (told (l ++ (event_at o.state ++ (event_at o.state ++ cond b q (event_at o.state)))))
    by true = g ∙ on q
    by false = last_tells (mark_of o.state) (linked m a i o) done o.ans o.state ∙ on (event_at o.state)

links_tells : (n : ℕ) (f : State → Out) (g : State → List Happening) → Tells f g → (m : ℕ) (a i : Skeleton) (s : State)
    → steps (links n f m a i s).made ≡ Open m a i (told (links_trace n f g s))
unfolding links links_trace
links_tells zero f g h m a i s = last_tells m a i again s
links_tells (suc n) f g h m a i s =
    one_link_tells (f s).shape m (goes_on s (f s)) a i (f s) (links n f (mark_of (f s).state) (linked m a i (f s)) done (f s).state) (g s) (links_trace n f g (f s).state) (h s)
    (links_tells n f g h (mark_of (f s).state) (linked m a i (f s)) done (f s).state)

chained_tells : (f : State → Out) (g : State → List Happening) → Tells f g → (s : State) (o : Out) (l : List Happening) → steps o.made ≡ told l
    → steps (chained f s o).made
    ≡ told (event_at s ++ (l ++ cond (is_again o.ans) (links_trace (suc (length o.state.rest)) f g o.state) (event_at o.state)))
unfolding chained told pushes flat
chained_tells f g h s o l p = by (is_again o.ans)
  where
    from : (z : List Happening) → Open (mark_of s) done o.made (told z) ≡ told (event_at s ++ (l ++ z))
    from z = ap (an_event (mark_of s) ∷◌) (ap (◌++ told z) p ∙ sym (told_append l z))

    by : (b : Bool)
        → steps (cond b (links (suc (length o.state.rest)) f (mark_of s) done o.made o.state) (unlinked (mark_of s) done o.made o.ans o.state)).made
        ≡ told (event_at s ++ (l ++ cond b (links_trace (suc (length o.state.rest)) f g o.state) (event_at o.state)))
    by true = links_tells (suc (length o.state.rest)) f g h (mark_of s) done o.made o.state ∙ from (links_trace (suc (length o.state.rest)) f g o.state)
    by false = last_tells (mark_of s) done o.made o.ans o.state ∙ from (event_at o.state)

-- ---------------------------------------------------------------- every program, every call

choose_tells : (x : Ans) (n y a : State → Out) (p q r : State → List Happening) → Tells n p → Tells y q → Tells a r → Tells (choose x n y a) (choose x p q r)
unfolding choose
choose_tells no n y a p q r f g h s = f s
choose_tells yes n y a p q r f g h s = g s
choose_tells also n y a p q r f g h s = h s
choose_tells again n y a p q r f g h s = g s

mark_tells : (s : State) (o : Out) (l : List Happening) → steps o.made ≡ told l → steps (marked s o).made ≡ told (event_at s ++ (l ++ event_at o.state))
unfolding marked makes told pushes flat
mark_tells s o l h =
    steps_closed o.shape (mark_of s) (mark_of o.state) done o.made
    ∙ ap (an_event (mark_of s) ∷◌) (ap (◌++ (an_event (mark_of o.state) ∷ [])) h ∙ sym (told_append l (event_at o.state)))

exec_tells : (ask : Rule → State → Out) (inside : Rule → State → List Happening) → ((r : Rule) → Tells (ask r) (inside r)) → (b : Label) (p : Prog) → Tells (exec ask b p) (exec_trace ask inside b p)
unfolding exec exec_trace add pushes flat told
exec_tells ask inside h b (ret k a) s = refl
exec_tells ask inside h b (act a) s = act_told b a s
exec_tells ask inside h b (p ⨟ q) s =
    join_tells (exec ask b p s).made (exec ask b q (exec ask b p s).state).made (exec_trace ask inside b p s) (exec_trace ask inside b q (exec ask b p s).state)
    (exec_tells ask inside h b p s) (exec_tells ask inside h b q (exec ask b p s).state)
exec_tells ask inside h b (case c n y a) s =
    let o : Out = exec ask b c s in
    join_tells o.made (choose o.ans (exec ask b n) (exec ask b y) (exec ask b a) o.state).made (exec_trace ask inside b c s)
    (choose o.ans (exec_trace ask inside b n) (exec_trace ask inside b y) (exec_trace ask inside b a) o.state) (exec_tells ask inside h b c s)
    (choose_tells o.ans (exec ask b n) (exec ask b y) (exec ask b a) (exec_trace ask inside b n) (exec_trace ask inside b y) (exec_trace ask inside b a)
    (exec_tells ask inside h b n) (exec_tells ask inside h b y) (exec_tells ask inside h b a) o.state)
exec_tells ask inside h b (in_marker p) s = mark_tells s (exec ask b p s) (exec_trace ask inside b p s) (exec_tells ask inside h b p s)
exec_tells ask inside h b (loop p) s = iter_tells (suc (length s.rest)) (exec ask b p) (exec_trace ask inside b p) (exec_tells ask inside h b p) s
exec_tells ask inside h b (chain p q) s =
    chained_tells (exec ask b q) (exec_trace ask inside b q) (exec_tells ask inside h b q) s (exec ask b p s) (exec_trace ask inside b p s) (exec_tells ask inside h b p s)
exec_tells ask inside h b (brace p) s = exec_tells ask inside h (here s.rest) p s
exec_tells ask inside h b (open_call r) s = h r s

-- the calls that are allowed and those that are open make up the limit
run_tells : (n d : ℕ) → n + d ≡ MAX_OPEN → (r : Rule) → Tells (run n r) (run_trace n d r)
unfolding run run_trace makes pushes flat told
run_tells zero d e r s = rw (lt-leb (suc d) MAX_OPEN (omega (arith, e)))
run_tells (suc n) d e r s =
    rw (le-leb (suc d) MAX_OPEN (omega (arith, e))) (exec_tells (run n) (run_trace n (suc d)) (run_tells n (suc d) (omega (arith, e))) no_label (grammar r) s)

-- A FILE'S RUN: its steps are those of what happens in it
pub entry_tells : (e : Entry) (ts : List Token) → steps (run_entry e ts) ≡ told (trace MAX_OPEN e ts)
unfolding run_entry trace
entry_tells e ts = exec_tells (run MAX_OPEN) (run_trace MAX_OPEN 0) (run_tells MAX_OPEN 0 refl) no_label (whole e) (taken ts)
