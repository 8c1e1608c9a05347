-- Each expectation once: the statement of specs/Once.antt. The grammar names no other codes than expectations', by a test
-- that the checker computes; a push keeps a list without repeats; so it holds of every list that a run comes to.
use Prim.Native.Nat.{ℕ, zero, suc}
use mathlib.Core.Path.{◌≡◌, refl, sym, subst}
use mathlib.Core.Bool.{Bool, true, false, cond}
use mathlib.Core.List.{List, [], ◌∷◌, ◌++◌, append-nil}
use lib.Dec.{eqb}
use lib.ListN.{length}
use Rattle.definitions.specs.Layout.{MOST_OPEN_CALLS}
use Rattle.definitions.specs.TokenKind as K
use Rattle.definitions.specs.Errors as E
use Rattle.definitions.specs.Token.{Token, trivia, drop_trivia}
use Rattle.definitions.specs.Prog.{choose, Ans, no, yes, also, again, Rule, item, propvalues, eat_cell, expr_binding_power, Act, silent_at, at_end, immediate, immediate_next, add_expected, bump, bump_name, bump_argument, emit, emit_unclosed, less, Prog, ret, act, ◌⨟◌, case, in_marker, loop, chain, brace, open_call}
use Rattle.definitions.specs.Grammar.{grammar, Entry, SourceFile, ReferenceNoamp, PropValues, Cells, whole}
use Rattle.definitions.specs.Skeleton.{Label, no_label, Report, Skeleton, done, token, ◌⧺◌}
use Rattle.definitions.specs.Run.{State, Out, mark_of, peeked, replies, makes, taken, do_bump, do_name, add, at_depth, do_argument, pool_of, do_emit, do_expected, perform, closed, marked, is_again, goes_on, iter, unlinked, by_shape, links, chained, here, exec, run}
use Rattle.definitions.specs.Report.{event, pushes, reports}
use Rattle.definitions.specs.Call.{run_entry}
use Rattle.laws.specs.Limits.{Moment, moment, deeper, iter_moments, links_moments, moments, run_moments, entry_moments}
use Rattle.laws.specs.Once.{is_expectation, Listed, ListedAtEach, ListedInEach, Once}
use Rattle.laws.proofs.Engine.{Composes, only, exec_only}
use Rattle.laws.proofs.Fuel.{turn_of}
use Rattle.laws.proofs.Skeleton.{pushes_join, pushes_closed, reports_append}
use Rattle.laws.proofs.Listed.{Held, held_none, held_push, held_listed}
use Rattle.basics.proofs.Tests.{cond-all, and_left, and_right}

-- ---------------------------------------------------------------- the codes of the grammar

unfoldable pub expects_codes : Act → Bool
unfolding is_expectation
expects_codes (silent_at ks) = true
expects_codes at_end = true
expects_codes (immediate k) = true
expects_codes (immediate_next k) = true
expects_codes (add_expected k) = is_expectation k
expects_codes bump = true
expects_codes (bump_name ks) = true
expects_codes bump_argument = true
expects_codes (emit m h) = true
expects_codes emit_unclosed = true
expects_codes (less m n) = true

abbrev pub any_kind : ℕ → Bool
any_kind k = true

-- every expectation that the program pushes is one
unfoldable pub expects : Prog → Bool
unfolding only expects_codes
expects p = only any_kind expects_codes p

pub grammar_expects : (r : Rule) → expects (grammar r) ≡ true
unfolding expects grammar
grammar_expects item = refl
grammar_expects (propvalues true) = refl
grammar_expects (propvalues false) = refl
grammar_expects (eat_cell b) = refl
grammar_expects (expr_binding_power m) = refl

pub whole_expects : (e : Entry) → expects (whole e) ≡ true
unfolding expects whole
whole_expects SourceFile = refl
whole_expects ReferenceNoamp = refl
whole_expects PropValues = refl
whole_expects Cells = refl

-- ---------------------------------------------------------------- an action

abbrev H : State → Type 0
H s = Held s.pending

-- what is pending after a run
abbrev Keeps : State → Out → Type 0
Keeps s o = H s → H o.state

bump_keeps : (s : State) (l : List Token) → Keeps s (do_bump s l)
unfolding do_bump replies makes
bump_keeps s [] h = h
bump_keeps s (t ∷ ts) h = held_none

name_keeps : (ks : List ℕ) (s : State) (l : List Token) → Keeps s (do_name ks s l)
unfolding do_name replies makes
name_keeps ks s [] h = h
name_keeps ks s (t ∷ ts) h = held_none

depth_keeps : (s : State) (n : ℕ) (o : Out) (f : ℕ → Out) → Keeps s o → ((m : ℕ) → Keeps s (f m)) → Keeps s (at_depth n o f)
unfolding at_depth
depth_keeps s zero o f p q = p
depth_keeps s (suc n) o f p q = q n

argument_keeps : (n : ℕ) (s : State) (ts : List Token) → Keeps s (do_argument n s ts)
unfolding do_argument replies makes add
argument_keeps n s [] = λ h. h
argument_keeps n s (t ∷ ts) =
    let go : (m : ℕ) → Keeps s (add (makes yes (token t (length ts) done) (taken ts)) (do_argument m (taken ts) ts)) = λ m _. argument_keeps m (taken ts) ts held_none in
    cond-all (Keeps s) (trivia t) (argument_keeps n s ts)
    (cond-all (Keeps s) (eqb t.kind K.LParen) (go (suc n))
    (cond-all (Keeps s) (eqb t.kind K.RParen) (depth_keeps s n _ _ (λ h. h) go)
    (cond-all (Keeps s) (eqb t.kind K.Comma) (depth_keeps s n _ _ (λ h. h) (λ m. go (suc m))) (go n))))

pub act_keeps : (b : Label) (a : Act) → expects_codes a ≡ true → (s : State) → Keeps s (perform b a s)
unfolding perform expects_codes peeked replies makes do_expected do_emit
act_keeps b (silent_at ks) e s h = h
act_keeps b at_end e s h = h
act_keeps b (immediate k) e s h = h
act_keeps b (immediate_next k) e s h = h
act_keeps b (add_expected k) e s h = held_push s.pending k h e
act_keeps b bump e s h = bump_keeps (peeked s) (drop_trivia s.rest) h
act_keeps b (bump_name ks) e s h = name_keeps ks (peeked s) (drop_trivia s.rest) h
act_keeps b bump_argument e s h = argument_keeps 0 s s.rest h
act_keeps b (emit m k) e s h = h
act_keeps b emit_unclosed e s h = h
act_keeps b (less m n) e s h = h

-- ---------------------------------------------------------------- every moment

at_each_append : (l m : List Moment) → ListedAtEach l → ListedAtEach m → ListedAtEach (l ++ m)
at_each_append [] m h g = g
at_each_append (x ∷ l) m h g = (h.0, at_each_append l m h.1 g)

at_each_deeper : (l : List Moment) → ListedAtEach l → ListedAtEach (deeper l)
unfolding deeper
at_each_deeper [] h = tt
at_each_deeper (x ∷ l) h = (h.0, at_each_deeper l h.1)

-- f comes to the moments g
abbrev Comes : (State → Out) → (State → List Moment) → Type 0
Comes f g = (s : State) → H s → H (f s).state × ListedAtEach (g s)

-- a run, and more after it
then : (o x : Out) (l m : List Moment) → H o.state × ListedAtEach l → (H o.state → H x.state × ListedAtEach m) → H x.state × ListedAtEach (l ++ m)
then o x l m p f = let q = f p.0 in (q.0, at_each_append l m p.1 q.1)

-- a run, and no more
only_this : (o : Out) (l : List Moment) → H o.state × ListedAtEach l → H o.state × ListedAtEach (l ++ [])
only_this o l p = (p.0, at_each_append l [] p.1 tt)

turn_comes : (b : Bool) (o x : Out) (l m : List Moment) → H o.state × ListedAtEach l → (H o.state → H x.state × ListedAtEach m)
    → H (cond b (add (turn_of o) x) (turn_of o)).state × ListedAtEach (l ++ cond b m [])
unfolding add makes
turn_comes true o x l m p f = then o x l m p f
turn_comes false o x l m p f = only_this o l p

iter_comes : (k : ℕ) (f : State → Out) (g : State → List Moment) → Comes f g → Comes (iter k f) (iter_moments k f g)
unfolding iter iter_moments replies
iter_comes zero f g c s h = (h, tt)
iter_comes (suc k) f g c s h = turn_comes (goes_on s (f s)) (f s) (iter k f (f s).state) (g s) (iter_moments k f g (f s).state) (c s h) (iter_comes k f g c (f s).state)

link_comes : (k : ℕ) (b : Bool) (o x y z : Out) (l q : List Moment) → y.state ≡ o.state → z.state ≡ o.state
    → H o.state × ListedAtEach l → (H o.state → H x.state × ListedAtEach q)
    → H (by_shape k y (cond b x z)).state × ListedAtEach (l ++ by_shape k [] (cond b q []))
unfolding by_shape
link_comes zero b o x y z l q e e' p f = (subst H (sym e) p.0, at_each_append l [] p.1 tt)
link_comes (suc k) true o x y z l q e e' p f = then o x l q p f
link_comes (suc k) false o x y z l q e e' p f = (subst H (sym e') p.0, at_each_append l [] p.1 tt)

links_comes : (k : ℕ) (f : State → Out) (g : State → List Moment) → Comes f g → (m : ℕ) (a i : Skeleton) → Comes (links k f m a i) (links_moments k f g)
unfolding links links_moments unlinked makes
links_comes zero f g c m a i s h = (h, tt)
links_comes (suc k) f g c m a i s h =
    let o : Out = f s in
    let u = mark_of o.state in
    let linked = closed o.shape m u a (i ⧺ o.made) in
    link_comes o.shape (goes_on s o) o (links k f u linked done o.state) (unlinked m a (i ⧺ o.made) o.ans o.state) (unlinked u linked done o.ans o.state) (g s) (links_moments k f g o.state) refl refl (c s h)
    (links_comes k f g c u linked done o.state)

chained_comes : (f : State → Out) (g : State → List Moment) → Comes f g → (s : State) (o : Out) (l : List Moment) → H o.state × ListedAtEach l
    → H (chained f s o).state × ListedAtEach (l ++ cond (is_again o.ans) (links_moments (suc (length o.state.rest)) f g o.state) [])
unfolding chained unlinked makes
chained_comes f g c s o l p = go (is_again o.ans)
  where
    go : (b : Bool) → H (cond b (links (suc (length o.state.rest)) f (mark_of s) done o.made o.state) (unlinked (mark_of s) done o.made o.ans o.state)).state
        × ListedAtEach (l ++ cond b (links_moments (suc (length o.state.rest)) f g o.state) [])
    go true = then o (links (suc (length o.state.rest)) f (mark_of s) done o.made o.state) l (links_moments (suc (length o.state.rest)) f g o.state) p (links_comes (suc (length o.state.rest)) f g c (mark_of s) done o.made o.state)
    go false = only_this o l p

choose_comes : (x : Ans) (N Y A : State → Out) (p q r : State → List Moment) → Comes N p → Comes Y q → Comes A r → Comes (choose x N Y A) (choose x p q r)
unfolding choose
choose_comes no N Y A p q r f g h s = f s
choose_comes yes N Y A p q r f g h s = g s
choose_comes also N Y A p q r f g h s = h s
choose_comes again N Y A p q r f g h s = g s

exec_comes : (ask : Rule → State → Out) (inside : Rule → State → List Moment) → ((r : Rule) → Comes (ask r) (inside r)) → (b : Label) (p : Prog) → only any_kind expects_codes p ≡ true → Comes (exec ask b p) (moments ask inside b p)
unfolding exec moments marked makes add only
exec_comes ask inside c b (ret k a) e s h = (h, (held_listed s.pending h, tt))
exec_comes ask inside c b (act a) e s h =
    let g : H (perform b a s).state = act_keeps b a e s h in
    (g, (held_listed s.pending h, (held_listed (perform b a s).state.pending g, tt)))
exec_comes ask inside c b (p ⨟ q) e s h =
    then (exec ask b p s) (exec ask b q (exec ask b p s).state) (moments ask inside b p s) (moments ask inside b q (exec ask b p s).state) (exec_comes ask inside c b p (and_left _ _ e) s h)
    (exec_comes ask inside c b q (and_right (only any_kind expects_codes p) _ e) (exec ask b p s).state)
exec_comes ask inside c b (case t x y a) e s h =
    let e₁ = and_right (only any_kind expects_codes t) _ e in
    let e₂ = and_right (only any_kind expects_codes x) _ e₁ in
    then (exec ask b t s) (choose (exec ask b t s).ans (exec ask b x) (exec ask b y) (exec ask b a) (exec ask b t s).state) (moments ask inside b t s)
    (choose (exec ask b t s).ans (moments ask inside b x) (moments ask inside b y) (moments ask inside b a) (exec ask b t s).state) (exec_comes ask inside c b t (and_left _ _ e) s h)
    (choose_comes (exec ask b t s).ans (exec ask b x) (exec ask b y) (exec ask b a) (moments ask inside b x) (moments ask inside b y) (moments ask inside b a)
    (exec_comes ask inside c b x (and_left _ _ e₁)) (exec_comes ask inside c b y (and_left _ _ e₂)) (exec_comes ask inside c b a (and_right (only any_kind expects_codes y) _ e₂)) (exec ask b t s).state)
exec_comes ask inside c b (in_marker p) e s h = exec_comes ask inside c b p e s h
exec_comes ask inside c b (loop p) e s h = iter_comes (suc (length s.rest)) (exec ask b p) (moments ask inside b p) (exec_comes ask inside c b p e) s h
exec_comes ask inside c b (chain p q) e s h =
    chained_comes (exec ask b q) (moments ask inside b q) (exec_comes ask inside c b q (and_right (only any_kind expects_codes p) _ e)) s (exec ask b p s) (moments ask inside b p s)
    (exec_comes ask inside c b p (and_left _ _ e) s h)
exec_comes ask inside c b (brace p) e s h = exec_comes ask inside c (here s.rest) p e s h
exec_comes ask inside c b (open_call r) e s h = c r s h

run_comes : (n : ℕ) (r : Rule) → Comes (run n r) (run_moments n r)
unfolding run run_moments makes deeper expects
run_comes zero r s h = (h, (held_listed s.pending h, tt))
run_comes (suc n) r s h =
    let g = exec_comes (run n) (run_moments n) (run_comes n) no_label (grammar r) (grammar_expects r) s h in
    (g.0, at_each_deeper (moment s ++ moments (run n) (run_moments n) no_label (grammar r) s) (held_listed s.pending h, g.1))

pub entry_comes : (e : Entry) (ts : List Token) → ListedAtEach (entry_moments e ts)
unfolding entry_moments expects
entry_comes e ts = (exec_comes (run MOST_OPEN_CALLS) (run_moments MOST_OPEN_CALLS) (run_comes MOST_OPEN_CALLS) no_label (whole e) (whole_expects e) (taken ts) held_none).1

-- ---------------------------------------------------------------- every report

-- the lists of what is made
pub record Lists (p : Skeleton) : Type 0 where
  pub listed : ListedInEach (reports (pushes p))

in_each_append : (l m : List Report) → ListedInEach l → ListedInEach m → ListedInEach (l ++ m)
in_each_append [] m h g = g
in_each_append (r ∷ l) m h g = (h.0, in_each_append l m h.1 g)

lists_join : (p q : Skeleton) → Lists p → Lists q → Lists (p ⧺ q)
lists_join p q h g =
    record { listed = rw (pushes_join p q, reports_append (pushes p) (pushes q)) (in_each_append (reports (pushes p)) (reports (pushes q)) h.listed g.listed) }

lists_closed : (k m m' : ℕ) (a i : Skeleton) → Lists a → Lists i → Lists (closed k m m' a i)
unfolding reports
lists_closed k m m' a i h g =
    record {
      listed =
          rw (pushes_closed k m m' a i, reports_append (pushes a) (event m ∷ (pushes i ++ (event m' ∷ []))), reports_append (pushes i) (event m' ∷ []), append-nil (reports (pushes i)))
          (in_each_append (reports (pushes a)) (reports (pushes i)) h.listed g.listed);
    }

lists_none : Lists done
unfolding pushes reports
lists_none = record { listed = tt }

abbrev Makes : State → Out → Type 0
Makes s o = H s → Lists o.made × H o.state

token_lists : (t : Token) (ts : List Token) → Lists (token t (length ts) done)
unfolding pushes reports
token_lists t ts = record { listed = tt }

bump_makes : (s : State) (l : List Token) → Lists (do_bump s l).made
unfolding do_bump replies makes
bump_makes s [] = lists_none
bump_makes s (t ∷ ts) = token_lists t ts

name_makes : (ks : List ℕ) (s : State) (l : List Token) → Lists (do_name ks s l).made
unfolding do_name replies makes pushes reports
name_makes ks s [] = lists_none
name_makes ks s (t ∷ ts) = record { listed = tt }

depth_makes : (n : ℕ) (o : Out) (f : ℕ → Out) → Lists o.made → ((m : ℕ) → Lists (f m).made) → Lists (at_depth n o f).made
unfolding at_depth
depth_makes zero o f p q = p
depth_makes (suc n) o f p q = q n

argument_makes : (n : ℕ) (s : State) (ts : List Token) → Lists (do_argument n s ts).made
unfolding do_argument replies makes add
argument_makes n s [] = lists_none
argument_makes n s (t ∷ ts) =
    let go : (m : ℕ) → Lists (token t (length ts) done ⧺ (do_argument m (taken ts) ts).made) = λ m. lists_join (token t (length ts) done) (do_argument m (taken ts) ts).made (token_lists t ts) (argument_makes m (taken ts) ts) in
    cond-all (λ (o : Out). Lists o.made) (trivia t) (argument_makes n s ts)
    (cond-all (λ (o : Out). Lists o.made) (eqb t.kind K.LParen) (go (suc n))
    (cond-all (λ (o : Out). Lists o.made) (eqb t.kind K.RParen) (depth_makes n _ _ lists_none go)
    (cond-all (λ (o : Out). Lists o.made) (eqb t.kind K.Comma) (depth_makes n _ _ lists_none (λ m. go (suc m))) (go n))))

emit_makes : (m h : ℕ) (l : Label) (s : State) → H s → Lists (do_emit m h l s).made
unfolding do_emit makes pushes reports pool_of
emit_makes m h l s k = record { listed = (cond-all Listed (eqb m E.msg_expected) {x = s.pending} {y = []} (held_listed s.pending k) (held_listed [] held_none), tt) }

act_makes : (b : Label) (a : Act) → expects_codes a ≡ true → (s : State) → Makes s (perform b a s)
unfolding perform peeked replies do_expected
act_makes b (silent_at ks) e s = λ h. (lists_none, h)
act_makes b at_end e s = λ h. (lists_none, h)
act_makes b (immediate k) e s = λ h. (lists_none, h)
act_makes b (immediate_next k) e s = λ h. (lists_none, h)
act_makes b (add_expected k) e s = λ h. (lists_none, act_keeps b (add_expected k) e s h)
act_makes b bump e s = λ h. (bump_makes (peeked s) (drop_trivia s.rest), bump_keeps (peeked s) (drop_trivia s.rest) h)
act_makes b (bump_name ks) e s = λ h. (name_makes ks (peeked s) (drop_trivia s.rest), name_keeps ks (peeked s) (drop_trivia s.rest) h)
act_makes b bump_argument e s = λ h. (argument_makes 0 s s.rest, argument_keeps 0 s s.rest h)
act_makes b (emit m k) e s = λ h. (emit_makes m k no_label (peeked s) h, unfold do_emit makes in h)
act_makes b emit_unclosed e s = λ h. (emit_makes E.unclosed_node E.no_hint b (peeked s) h, unfold do_emit makes in h)
act_makes b (less m n) e s = λ h. (lists_none, h)

-- a chain under way
record ChainLists (a i : Skeleton) (u : State) : Type 0 where
  before : Lists a
  since : Lists i
  pending : H u

add_makes : (s : State) (o o' : Out) → Makes s o → Makes o.state o' → Makes s (add o o')
unfolding add
add_makes s o o' p q h = let a = p h in let b = q a.1 in (lists_join o.made o'.made a.0 b.0, b.1)

composed : Composes Makes (λ s m a i u. H s → ChainLists a i u)
unfolding marked makes unlinked closed
composed =
    record {
      idle = λ a s h. (lists_none, h);
      add = add_makes;
      mark = λ s o p h. (lists_closed o.shape _ _ done o.made lists_none (p h).0, (p h).1);
      turn = λ s o p h. p h;
      first = λ s o p h. record { before = lists_none; since = (p h).0; pending = (p h).1 };
      more = λ s u m a i o c p h.
          let x : ChainLists a i u = c h in
          let y = p x.pending in
          record { before = x.before; since = lists_join i o.made x.since y.0; pending = y.1 };
      link = λ s u m k a i o b q e c h.
          let x : ChainLists a (i ⧺ o.made) o.state = c h in
          record { before = lists_closed (suc k) m (mark_of o.state) a (i ⧺ o.made) x.before x.since; since = lists_none; pending = x.pending };
      last = λ s u m a i x c h. (lists_closed 0 m (mark_of u) a i (c h).before (c h).since, (c h).pending);
    }

exec_makes : (ask : Rule → State → Out) → ((r : Rule) (s : State) → Makes s (ask r s)) → (p : Prog) → expects p ≡ true → (b : Label) (s : State) → Makes s (exec ask b p s)
unfolding expects
exec_makes ask A p e b s = exec_only Makes _ composed any_kind expects_codes (λ k a u _ h. (lists_none, h)) act_makes ask A b p s e

run_makes : (n : ℕ) (r : Rule) (s : State) → Makes s (run n r s)
unfolding run makes pushes reports
run_makes zero r s h = (record { listed = tt }, h)
run_makes (suc n) r s h = exec_makes (run n) (run_makes n) (grammar r) (grammar_expects r) no_label s h

-- EACH EXPECTATION ONCE
pub once : Once
unfolding run_entry
once e ts =
    record {
      pending = entry_comes e ts;
      reported = (exec_makes (run MOST_OPEN_CALLS) (run_makes MOST_OPEN_CALLS) (whole e) (whole_expects e) no_label (taken ts) held_none).0.listed;
    }
