-- At most 64 open calls: the statement of specs/Limits.antt, proved for every run without refusal 5, and so for every
-- accepted call.
use Prim.Native.Nat.{ℕ, zero, suc, zero-le, suc-le-suc}
use mathlib.Core.Bool.{Bool, true, false, cond}
use mathlib.Core.List.{List, [], ◌∷◌, ◌++◌}
use lib.ListN.{length}
use Rattle.definitions.specs.Layout.{MOST_OPEN_CALLS}
use Rattle.definitions.specs.Token.{Token, tokens_of}
use Rattle.definitions.specs.Prog.{choose, Ans, no, yes, also, again, Rule, Prog, ret, act, ◌⨟◌, case, in_marker, loop, chain, brace, open_call}
use Rattle.definitions.specs.Grammar.{grammar, Entry, whole}
use Rattle.definitions.specs.Skeleton.{Label, no_label, Skeleton, done, ◌⧺◌}
use Rattle.definitions.specs.Run.{State, Out, mark_of, replies, makes, taken, add, marked, is_again, goes_on, iter, unlinked, by_shape, links, chained, here, exec, run}
use Rattle.definitions.specs.Report.{pushes}
use Rattle.definitions.specs.Call.{Buffers, run_entry}
use Rattle.laws.specs.Pushes.{NoneExceeded}
use Rattle.laws.specs.Limits.{Moment, moment, deeper, iter_moments, links_moments, moments, run_moments, entry_moments, Limited, Limits}
use Rattle.laws.proofs.Fuel.{turn_of}
use Rattle.laws.proofs.Pieces.{linked, closed_pieces, links_pieces}
use Rattle.laws.proofs.Clear.{BelowLimits, join_within, closed_within, within_pieces}
use Rattle.laws.proofs.Scan.{fits_clear}
use Rattle.laws.proofs.Accepted.{Accepted, accepted_call}

limited_append : (n : ℕ) (l m : List Moment) → Limited n l → Limited n m → Limited n (l ++ m)
limited_append n [] m h g = g
limited_append n (x ∷ l) m h g = (h.0, limited_append n l m h.1 g)

limited_deeper : (n : ℕ) (l : List Moment) → Limited n l → Limited (suc n) (deeper l)
unfolding deeper
limited_deeper n [] h = tt
limited_deeper n (x ∷ l) h = (suc-le-suc h.0, limited_deeper n l h.1)

-- ---------------------------------------------------------------- loops and chains

-- f comes to the moments g, all within the limits
abbrev Keeps : ℕ → (State → Out) → (State → List Moment) → Type 0
Keeps n f g = (s : State) → BelowLimits (f s).made → Limited n (g s)

-- a turn, and more where the loop goes on
turn_keeps : (n : ℕ) (b : Bool) (o x : Out) (l m : List Moment) → (BelowLimits o.made → Limited n l) → (BelowLimits x.made → Limited n m)
    → BelowLimits (cond b (add (turn_of o) x) (turn_of o)).made → Limited n (l ++ cond b m [])
unfolding add makes
turn_keeps n true o x l m f g w =
    let c : BelowLimits o.made × BelowLimits x.made = join_within o.made x.made w in
    limited_append n l m (f c.0) (g c.1)
turn_keeps n false o x l m f g w = limited_append n l [] (f w) tt

iter_keeps : (n k : ℕ) (f : State → Out) (g : State → List Moment) → Keeps n f g → Keeps n (iter k f) (iter_moments k f g)
unfolding iter iter_moments replies
iter_keeps n zero f g K s w = tt
iter_keeps n (suc k) f g K s w = turn_keeps n (goes_on s (f s)) (f s) (iter k f (f s).state) (g s) (iter_moments k f g (f s).state) (K s) (iter_keeps n k f g K (f s).state) w

-- a link, and more where the chain goes on
link_keeps : (n k m : ℕ) (b : Bool) (a i : Skeleton) (o x : Out) (l q : List Moment) → (BelowLimits x.made → BelowLimits (linked m a i o))
    → (BelowLimits o.made → Limited n l) → (BelowLimits x.made → Limited n q)
    → BelowLimits (by_shape k (unlinked m a (i ⧺ o.made) o.ans o.state) (cond b x (unlinked (mark_of o.state) (linked m a i o) done o.ans o.state))).made
    → Limited n (l ++ by_shape k [] (cond b q []))
unfolding by_shape unlinked makes
link_keeps n zero m b a i o x l q t f g w = limited_append n l [] (f (closed_pieces BelowLimits within_pieces 0 m (mark_of o.state) a i o.made w).2) tt
link_keeps n (suc k) m true a i o x l q t f g w = limited_append n l q (f (closed_pieces BelowLimits within_pieces o.shape m (mark_of o.state) a i o.made (t w)).2) (g w)
link_keeps n (suc k) m false a i o x l q t f g w =
    limited_append n l []
    (f (closed_pieces BelowLimits within_pieces o.shape m (mark_of o.state) a i o.made (closed_within 0 (mark_of o.state) (mark_of o.state) (linked m a i o) done w).0).2) tt

links_keeps : (n k : ℕ) (f : State → Out) (g : State → List Moment) → Keeps n f g → (m : ℕ) (a i : Skeleton) → Keeps n (links k f m a i) (links_moments k f g)
unfolding links links_moments unlinked makes
links_keeps n zero f g K m a i s w = tt
links_keeps n (suc k) f g K m a i s w =
    let o : Out = f s in
    link_keeps n o.shape m (goes_on s o) a i o (links k f (mark_of o.state) (linked m a i o) done o.state) (g s) (links_moments k f g o.state)
    (λ v. (links_pieces BelowLimits within_pieces k f (mark_of o.state) (linked m a i o) done o.state v).0) (K s) (links_keeps n k f g K (mark_of o.state) (linked m a i o) done o.state) w

chained_keeps : (n : ℕ) (f : State → Out) (g : State → List Moment) → Keeps n f g → (s : State) (o : Out) (l : List Moment) → (BelowLimits o.made → Limited n l)
    → BelowLimits (chained f s o).made → Limited n (l ++ cond (is_again o.ans) (links_moments (suc (length o.state.rest)) f g o.state) [])
unfolding chained unlinked makes
chained_keeps n f g K s o l p = go (is_again o.ans)
  where
    go : (b : Bool) → BelowLimits (cond b (links (suc (length o.state.rest)) f (mark_of s) done o.made o.state) (unlinked (mark_of s) done o.made o.ans o.state)).made
        → Limited n (l ++ cond b (links_moments (suc (length o.state.rest)) f g o.state) [])
    go true w =
        limited_append n l (links_moments (suc (length o.state.rest)) f g o.state)
        (p (links_pieces BelowLimits within_pieces (suc (length o.state.rest)) f (mark_of s) done o.made o.state w).1)
        (links_keeps n (suc (length o.state.rest)) f g K (mark_of s) done o.made o.state w)
    go false w = limited_append n l [] (p (closed_within 0 (mark_of s) (mark_of o.state) done o.made w).1) tt

choose_keeps : (n : ℕ) (x : Ans) (N Y A : State → Out) (p q r : State → List Moment) → Keeps n N p → Keeps n Y q → Keeps n A r → Keeps n (choose x N Y A) (choose x p q r)
unfolding choose
choose_keeps n no N Y A p q r f g h s = f s
choose_keeps n yes N Y A p q r f g h s = g s
choose_keeps n also N Y A p q r f g h s = h s
choose_keeps n again N Y A p q r f g h s = g s

-- ---------------------------------------------------------------- every program, every call

add_keeps : (n : ℕ) (o x : Out) (l m : List Moment) → (BelowLimits o.made → Limited n l) → (BelowLimits x.made → Limited n m) → BelowLimits (add o x).made → Limited n (l ++ m)
unfolding add
add_keeps n o x l m f g w =
    let c : BelowLimits o.made × BelowLimits x.made = join_within o.made x.made w in
    limited_append n l m (f c.0) (g c.1)

exec_keeps : (n : ℕ) (ask : Rule → State → Out) (inside : Rule → State → List Moment) → ((r : Rule) → Keeps n (ask r) (inside r)) → (b : Label) (p : Prog) → Keeps n (exec ask b p) (moments ask inside b p)
unfolding exec moments marked makes
exec_keeps n ask inside K b (ret k a) s w = (zero-le, tt)
exec_keeps n ask inside K b (act a) s w = (zero-le, (zero-le, tt))
exec_keeps n ask inside K b (p ⨟ q) s w =
    add_keeps n (exec ask b p s) (exec ask b q (exec ask b p s).state) (moments ask inside b p s) (moments ask inside b q (exec ask b p s).state) (exec_keeps n ask inside K b p s)
    (exec_keeps n ask inside K b q (exec ask b p s).state) w
exec_keeps n ask inside K b (case t x y a) s w =
    add_keeps n (exec ask b t s) (choose (exec ask b t s).ans (exec ask b x) (exec ask b y) (exec ask b a) (exec ask b t s).state) (moments ask inside b t s)
    (choose (exec ask b t s).ans (moments ask inside b x) (moments ask inside b y) (moments ask inside b a) (exec ask b t s).state) (exec_keeps n ask inside K b t s)
    (choose_keeps n (exec ask b t s).ans (exec ask b x) (exec ask b y) (exec ask b a) (moments ask inside b x) (moments ask inside b y) (moments ask inside b a) (exec_keeps n ask inside K b x)
    (exec_keeps n ask inside K b y) (exec_keeps n ask inside K b a) (exec ask b t s).state)
    w
exec_keeps n ask inside K b (in_marker p) s w = exec_keeps n ask inside K b p s (closed_within (exec ask b p s).shape (mark_of s) (mark_of (exec ask b p s).state) done (exec ask b p s).made w).1
exec_keeps n ask inside K b (loop p) s w = iter_keeps n (suc (length s.rest)) (exec ask b p) (moments ask inside b p) (exec_keeps n ask inside K b p) s w
exec_keeps n ask inside K b (chain p q) s w =
    chained_keeps n (exec ask b q) (moments ask inside b q) (exec_keeps n ask inside K b q) s (exec ask b p s) (moments ask inside b p s) (exec_keeps n ask inside K b p s) w
exec_keeps n ask inside K b (brace p) s w = exec_keeps n ask inside K (here s.rest) p s w
exec_keeps n ask inside K b (open_call r) s w = K r s w

run_keeps : (n : ℕ) (r : Rule) → Keeps n (run n r) (run_moments n r)
unfolding run run_moments makes pushes deeper
run_keeps zero r s w = absurd w.clear
run_keeps (suc n) r s w =
    limited_deeper n (moment s ++ moments (run n) (run_moments n) no_label (grammar r) s) (zero-le, exec_keeps n (run n) (run_moments n) (run_keeps n) no_label (grammar r) s w)

-- A FILE'S RUN without refusal 5 stays within the limits
pub clear_limited : (e : Entry) (ts : List Token) → NoneExceeded (pushes (run_entry e ts)) → Limited MOST_OPEN_CALLS (entry_moments e ts)
unfolding run_entry entry_moments
clear_limited e ts w = exec_keeps MOST_OPEN_CALLS (run MOST_OPEN_CALLS) (run_moments MOST_OPEN_CALLS) (run_keeps MOST_OPEN_CALLS) no_label (whole e) (taken ts) (record { clear = w })

-- an accepted call's run meets no refusal 5
pub accepted_clear : (n setting : ℕ) (bytes tokens : List ℕ) (b : Buffers) (a : Accepted n setting bytes tokens b) → NoneExceeded (pushes (run_entry a.entry (tokens_of tokens)))
accepted_clear n setting bytes tokens b a = fits_clear (pushes (run_entry a.entry (tokens_of tokens))) _ a.left a.fitted

-- LIMITS
pub limits : Limits
limits n setting bytes tokens b h =
    let a : Accepted n setting bytes tokens b = accepted_call n setting bytes tokens b h in
    (a.entry, a.asked_for, clear_limited a.entry (tokens_of tokens) (accepted_clear n setting bytes tokens b a))
