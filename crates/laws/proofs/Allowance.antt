-- More open calls allowed change nothing: a call that meets no refusal 5 does the same with any larger allowance.
use Prim.Native.Nat.{ℕ, zero, suc, ◌≤◌}
use native.Mathlib.Nat.{not-suc-le-zero, le_of_suc-le-suc}
use mathlib.Core.Path.{◌≡◌, refl, ap, ◌∙◌}
use mathlib.Core.List.{List}
use mathlib.Core.Bool.{Bool, true, false, cond}
use lib.ListN.{length}
use Rattle.definitions.specs.Layout.{MOST_OPEN_CALLS}
use Rattle.definitions.specs.Prog.{choose, Ans, no, yes, also, again, Rule, Prog, ret, act, ◌⨟◌, case, in_marker, loop, chain, brace, open_call}
use Rattle.definitions.specs.Token.{Token}
use Rattle.definitions.specs.Grammar.{grammar, Entry, whole}
use Rattle.definitions.specs.Skeleton.{Label, no_label, Skeleton, done, ◌⧺◌}
use Rattle.definitions.specs.Run.{State, Out, mark_of, makes, add, marked, is_again, goes_on, iter, unlinked, by_shape, links, chained, here, taken, exec, run}
use Rattle.definitions.specs.Report.{pushes}
use Rattle.definitions.specs.Call.{run_entry}
use Rattle.laws.proofs.Fuel.{turn_of}
use Rattle.laws.proofs.Pieces.{turn_pieces, linked, link, link_pieces, links_pieces, chained_pieces}
use Rattle.laws.proofs.Clear.{BelowLimits, join_within, closed_within, within_pieces}

-- g does what f does wherever f meets no refusal 5
abbrev pub Agrees : (State → Out) → (State → Out) → Type 0
Agrees f g = (s : State) → BelowLimits (f s).made → g s ≡ f s

turn_agrees : (b : Bool) (o x y : Out) → BelowLimits (cond b (add (turn_of o) x) (turn_of o)).made → (BelowLimits x.made → y ≡ x)
    → cond b (add (turn_of o) y) (turn_of o) ≡ cond b (add (turn_of o) x) (turn_of o)
unfolding add makes
turn_agrees true o x y h e = ap (add (turn_of o)) (e (join_within o.made x.made h).1)
turn_agrees false o x y h e = refl

iter_agrees : (n : ℕ) (f g : State → Out) → Agrees f g → Agrees (iter n f) (iter n g)
unfolding iter makes
iter_agrees zero f g a s h = refl
iter_agrees (suc n) f g a s h =
    ap (λ (o : Out). cond (goes_on s o) (add (turn_of o) (iter n g o.state)) (turn_of o)) (a s (turn_pieces BelowLimits within_pieces (goes_on s (f s)) (f s) (iter n f (f s).state) h))
    ∙ turn_agrees (goes_on s (f s)) (f s) (iter n f (f s).state) (iter n g (f s).state) h (λ w. iter_agrees n f g a (f s).state w)

link_agrees : (m : ℕ) (a i : Skeleton) (s : State) (o x y : Out) → BelowLimits (link m a i s o x).made → (BelowLimits x.made → y ≡ x) → link m a i s o y ≡ link m a i s o x
unfolding by_shape
link_agrees m a i s o x y h e = go o.shape (goes_on s o) h
  where
    go : (k : ℕ) (b : Bool) → BelowLimits (by_shape k (unlinked m a (i ⧺ o.made) o.ans o.state) (cond b x (unlinked (mark_of o.state) (linked m a i o) done o.ans o.state))).made
        → by_shape k (unlinked m a (i ⧺ o.made) o.ans o.state) (cond b y (unlinked (mark_of o.state) (linked m a i o) done o.ans o.state))
        ≡ by_shape k (unlinked m a (i ⧺ o.made) o.ans o.state) (cond b x (unlinked (mark_of o.state) (linked m a i o) done o.ans o.state))
    go zero b w = refl
    go (suc k) true w = e w
    go (suc k) false w = refl

links_agrees : (n : ℕ) (f g : State → Out) → Agrees f g → (m : ℕ) (a i : Skeleton) → Agrees (links n f m a i) (links n g m a i)
unfolding links
links_agrees zero f g h m a i s w = refl
links_agrees (suc n) f g h m a i s w =
    let c : BelowLimits a × BelowLimits i × BelowLimits (f s).made =
    link_pieces BelowLimits within_pieces m a i s (f s) (links n f (mark_of (f s).state) (linked m a i (f s)) done (f s).state) (λ v. (links_pieces BelowLimits within_pieces n f (mark_of (f s).state) (linked m a i (f s)) done (f s).state v).0) w in
    ap (λ (o : Out). link m a i s o (links n g (mark_of o.state) (linked m a i o) done o.state)) (h s c.2)
    ∙ link_agrees m a i s (f s) (links n f (mark_of (f s).state) (linked m a i (f s)) done (f s).state) (links n g (mark_of (f s).state) (linked m a i (f s)) done (f s).state) w
    (λ v. links_agrees n f g h (mark_of (f s).state) (linked m a i (f s)) done (f s).state v)

chained_agrees : (f g : State → Out) → Agrees f g → (s : State) (o : Out) → BelowLimits (chained f s o).made → chained g s o ≡ chained f s o
unfolding chained
chained_agrees f g h s o = go (is_again o.ans)
  where
    off : Out
    off = unlinked (mark_of s) done o.made o.ans o.state

    go : (b : Bool) → BelowLimits (cond b (links (suc (length o.state.rest)) f (mark_of s) done o.made o.state) off).made
        → cond b (links (suc (length o.state.rest)) g (mark_of s) done o.made o.state) off ≡ cond b (links (suc (length o.state.rest)) f (mark_of s) done o.made o.state) off
    go true w = links_agrees (suc (length o.state.rest)) f g h (mark_of s) done o.made o.state w
    go false w = refl

choose_agrees : (x : Ans) (n y a n' y' a' : State → Out) → Agrees n n' → Agrees y y' → Agrees a a' → Agrees (choose x n y a) (choose x n' y' a')
unfolding choose
choose_agrees no n y a n' y' a' p q r s h = p s h
choose_agrees yes n y a n' y' a' p q r s h = q s h
choose_agrees also n y a n' y' a' p q r s h = r s h
choose_agrees again n y a n' y' a' p q r s h = q s h

-- calls that agree make programs that agree
pub exec_agrees : (ask more : Rule → State → Out) → ((r : Rule) → Agrees (ask r) (more r)) → (b : Label) (p : Prog) → Agrees (exec ask b p) (exec more b p)
unfolding exec
exec_agrees ask more h b (ret k a) s w = refl
exec_agrees ask more h b (act a) s w = refl
exec_agrees ask more h b (p ⨟ q) s w =
    let o : Out = exec ask b p s in
    let c : BelowLimits o.made × BelowLimits (exec ask b q o.state).made = join_within o.made (exec ask b q o.state).made (unfold add in w) in
    ap (λ (x : Out). add x (exec more b q x.state)) (exec_agrees ask more h b p s c.0) ∙ ap (add o) (exec_agrees ask more h b q o.state c.1)
exec_agrees ask more h b (case t n y a) s w =
    let o : Out = exec ask b t s in
    let x : Out = choose o.ans (exec ask b n) (exec ask b y) (exec ask b a) o.state in
    let c : BelowLimits o.made × BelowLimits x.made = join_within o.made x.made (unfold add in w) in
    ap (λ (v : Out). add v (choose v.ans (exec more b n) (exec more b y) (exec more b a) v.state)) (exec_agrees ask more h b t s c.0)
    ∙ ap (add o) (choose_agrees o.ans (exec ask b n) (exec ask b y) (exec ask b a) (exec more b n) (exec more b y) (exec more b a) (exec_agrees ask more h b n) (exec_agrees ask more h b y) (exec_agrees ask more h b a) o.state c.1)
exec_agrees ask more h b (in_marker p) s w =
    let o : Out = exec ask b p s in
    ap (marked s) (exec_agrees ask more h b p s (closed_within o.shape (mark_of s) (mark_of o.state) done o.made (unfold marked makes in w)).1)
exec_agrees ask more h b (loop p) s w = iter_agrees (suc (length s.rest)) (exec ask b p) (exec more b p) (exec_agrees ask more h b p) s w
exec_agrees ask more h b (chain p q) s w =
    let o : Out = exec ask b p s in
    ap (chained (exec more b q) s) (exec_agrees ask more h b p s (chained_pieces BelowLimits within_pieces (exec ask b q) s o w))
    ∙ chained_agrees (exec ask b q) (exec more b q) (exec_agrees ask more h b q) s o w
exec_agrees ask more h b (brace p) s w = exec_agrees ask more h (here s.rest) p s w
exec_agrees ask more h b (open_call r) s w = h r s w

-- MORE OPEN CALLS ALLOWED: a call that meets no refusal 5 does the same with any larger allowance
pub run_agrees : (n m : ℕ) → n ≤ m → (r : Rule) → Agrees (run n r) (run m r)
unfolding run makes pushes
run_agrees zero m l r s w = absurd w.clear
run_agrees (suc n) zero l r s w = absurd (not-suc-le-zero l)
run_agrees (suc n) (suc m) l r s w = exec_agrees (run n) (run m) (run_agrees n m (le_of_suc-le-suc l)) no_label (grammar r) s w

-- and so does a whole file's run that meets none with 64
pub entry_agrees : (e : Entry) (ts : List Token) (m : ℕ) → MOST_OPEN_CALLS ≤ m → BelowLimits (run_entry e ts) → exec (run m) no_label (whole e) (taken ts) ≡ exec (run MOST_OPEN_CALLS) no_label (whole e) (taken ts)
unfolding run_entry
entry_agrees e ts m l w = exec_agrees (run MOST_OPEN_CALLS) (run m) (run_agrees MOST_OPEN_CALLS m l) no_label (whole e) (taken ts) w
