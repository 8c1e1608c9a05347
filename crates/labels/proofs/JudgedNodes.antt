-- The nodes whose Names the strict setting judges, DtLabel and DtPhandle: no run makes one inside another. The grammar
-- completes a marker as one of the two only where nothing inside it is one and no call is made; that is computed.
use Rattle.std.proofs.Common.{ℕ, zero, suc, ◌≡◌, refl, ap, sym, ◌∙◌, Bool, true, false, not, ◌&&◌, ◌||◌, List, [], ◌∷◌, eqb, length}
use mathlib.Core.Bool.{false≢true}
use Rattle.definitions.specs.Layout.{MOST_OPEN_CALLS}
use Rattle.definitions.specs.TokenKind as K
use Rattle.definitions.specs.Token.{Token, trivia, drop_trivia}
use Rattle.definitions.specs.Prog.{choose, Ans, no, yes, also, again, Rule, item, propvalues, eat_cell, expr_binding_power, Act, silent_at, at_end, immediate, immediate_next, add_expected, bump, bump_name, bump_argument, emit, emit_unclosed, less, Prog, ret, act, ◌⨟◌, case, in_marker, loop, chain, brace, open_call}
use Rattle.definitions.specs.Grammar.{grammar, Entry, SourceFile, ReferenceNoamp, PropValues, Cells, whole, root_kind}
use Rattle.definitions.specs.Skeleton.{Label, no_label, Skeleton, done, token, name, node, ignored, report, over, ◌⧺◌}
use Rattle.definitions.specs.Run.{State, Out, mark_of, peeked, replies, makes, taken, do_bump, do_name, add, at_depth, do_argument, do_emit, do_expected, perform, closed, marked, unlinked, here, exec, run}
use Rattle.definitions.specs.Call.{run_entry}
use Rattle.basics.proofs.Tests.{cond-all, and_left, and_right}
use Rattle.laws.proofs.Engine.{Composes, iter_all, chained_all}
use Rattle.laws.proofs.Leaves.{or_cases}
use Rattle.labels.specs.Model.{judged_kind}

-- no such node in it
unfoldable pub Plain : Skeleton → Type 0
Plain done = Unit {0}
Plain (token t m o) = Plain o
Plain (name raw m o) = Plain o
Plain (node k m m' a i o) = (judged_kind k ≡ false) × (Plain a × (Plain i × Plain o))
Plain (ignored m m' a i o) = Plain a × (Plain i × Plain o)
Plain (report r o) = Plain o
Plain (over m o) = Plain o

-- none inside another
unfoldable pub Flat : Skeleton → Type 0
unfolding Plain
Flat done = Unit {0}
Flat (token t m o) = Flat o
Flat (name raw m o) = Flat o
Flat (node k m m' a i o) = (judged_kind k ≡ true → Plain i) × (Flat a × (Flat i × Flat o))
Flat (ignored m m' a i o) = Flat a × (Flat i × Flat o)
Flat (report r o) = Flat o
Flat (over m o) = Flat o

-- ---------------------------------------------------------------- skeletons

plain_flat : (p : Skeleton) → Plain p → Flat p
unfolding Plain Flat
plain_flat done h = tt
plain_flat (token t m p) h = plain_flat p h
plain_flat (name raw m p) h = plain_flat p h
plain_flat (node k m m' a i p) h = ((λ e. h.1.1.0), (plain_flat a h.1.0, (plain_flat i h.1.1.0, plain_flat p h.1.1.1)))
plain_flat (ignored m m' a i p) h = (plain_flat a h.0, (plain_flat i h.1.0, plain_flat p h.1.1))
plain_flat (report r p) h = plain_flat p h
plain_flat (over m p) h = plain_flat p h

plain_join : (p q : Skeleton) → Plain p → Plain q → Plain (p ⧺ q)
unfolding Plain ◌⧺◌
plain_join done q h g = g
plain_join (token t m p) q h g = plain_join p q h g
plain_join (name raw m p) q h g = plain_join p q h g
plain_join (node k m m' a i p) q h g = (h.0, (h.1.0, (h.1.1.0, plain_join p q h.1.1.1 g)))
plain_join (ignored m m' a i p) q h g = (h.0, (h.1.0, plain_join p q h.1.1 g))
plain_join (report r p) q h g = plain_join p q h g
plain_join (over m p) q h g = plain_join p q h g

flat_join : (p q : Skeleton) → Flat p → Flat q → Flat (p ⧺ q)
unfolding Flat ◌⧺◌
flat_join done q h g = g
flat_join (token t m p) q h g = flat_join p q h g
flat_join (name raw m p) q h g = flat_join p q h g
flat_join (node k m m' a i p) q h g = (h.0, (h.1.0, (h.1.1.0, flat_join p q h.1.1.1 g)))
flat_join (ignored m m' a i p) q h g = (h.0, (h.1.0, flat_join p q h.1.1 g))
flat_join (report r p) q h g = flat_join p q h g
flat_join (over m p) q h g = flat_join p q h g

-- a marker with nothing judged inside, whatever it becomes
flat_closed : (k m m' : ℕ) (i : Skeleton) → Plain i → Flat (closed k m m' done i)
unfolding Flat closed
flat_closed zero m m' i h = (tt, (plain_flat i h, tt))
flat_closed (suc k) m m' i h = ((λ e. h), (tt, (plain_flat i h, tt)))

-- by whether judged nodes may be made at all
abbrev Fine : Bool → Skeleton → Type 0
Fine true p = Flat p
Fine false p = Plain p

fine_plain : (c : Bool) (p : Skeleton) → Plain p → Fine c p
fine_plain true p h = plain_flat p h
fine_plain false p h = h

fine_join : (c : Bool) (p q : Skeleton) → Fine c p → Fine c q → Fine c (p ⧺ q)
fine_join true p q h g = flat_join p q h g
fine_join false p q h g = plain_join p q h g

fine_closed : (c : Bool) (k m m' : ℕ) (a i : Skeleton) → judged_kind k ≡ false → Fine c a → Fine c i → Fine c (closed k m m' a i)
unfolding Flat Plain closed
fine_closed true zero m m' a i e h g = (h, (g, tt))
fine_closed true (suc k) m m' a i e h g = ((λ f. absurd (false≢true (sym e ∙ f))), (h, (g, tt)))
fine_closed false zero m m' a i e h g = (h, (g, tt))
fine_closed false (suc k) m m' a i e h g = (e, (h, (g, tt)))

-- ---------------------------------------------------------------- what a run makes

-- and the marker around it becomes no judged node
record Made (c : Bool) (s : State) (o : Out) : Type 0 where
  fine : Fine c o.made
  shape : judged_kind o.shape ≡ false

bare : (c : Bool) (s : State) (a : Ans) (p : Skeleton) (u : State) → Plain p → Made c s (makes a p u)
unfolding makes
bare c s a p u h = record { fine = fine_plain c p h; shape = refl }

idle : (c : Bool) (s : State) (a : Ans) (u : State) → Made c s (replies a u)
unfolding replies Plain
idle c s a u = record { fine = fine_plain c done tt; shape = refl }

add_made : (c : Bool) (s : State) (o o' : Out) → Made c s o → Made c o.state o' → Made c s (add o o')
unfolding add
add_made c s o o' p q = record { fine = fine_join c o.made o'.made p.fine q.fine; shape = q.shape }

bump_made : (c : Bool) (s u : State) (l : List Token) → Made c s (do_bump u l)
unfolding do_bump Plain
bump_made c s u [] = idle c s yes u
bump_made c s u (t ∷ ts) = bare c s yes _ _ tt

name_made : (c : Bool) (ks : List ℕ) (s u : State) (l : List Token) → Made c s (do_name ks u l)
unfolding do_name Plain
name_made c ks s u [] = idle c s yes u
name_made c ks s u (t ∷ ts) = bare c s yes _ _ tt

depth_made : (c : Bool) (s : State) (n : ℕ) (o : Out) (f : ℕ → Out) → Made c s o → ((m : ℕ) → Made c s (f m)) → Made c s (at_depth n o f)
unfolding at_depth
depth_made c s zero o f p q = p
depth_made c s (suc n) o f p q = q n

argument_made : (c : Bool) (n : ℕ) (s : State) (ts : List Token) → Made c s (do_argument n s ts)
unfolding do_argument
argument_made c n s [] = idle c s no _
argument_made c n s (t ∷ ts) =
    let go : (m : ℕ) → Made c s (add (makes yes (token t (length ts) done) (taken ts)) (do_argument m (taken ts) ts)) =
    λ m. add_made c s (makes yes (token t (length ts) done) (taken ts)) _ (bare c s yes _ _ (unfold Plain in tt)) (unfold makes in argument_made c m (taken ts) ts) in
    let stay : (a : Ans) → Made c s (replies a (record { rest = t ∷ ts; since = s.since; pending = s.pending })) = λ a. idle c s a _ in
    cond-all (Made c s) (trivia t) (argument_made c n s ts)
    (cond-all (Made c s) (eqb t.kind K.LParen) (go (suc n))
    (cond-all (Made c s) (eqb t.kind K.RParen) (depth_made c s n _ _ (stay no) go)
    (cond-all (Made c s) (eqb t.kind K.Comma) (depth_made c s n _ _ (stay yes) (λ m. go (suc m))) (go n))))

act_made : (c : Bool) (b : Label) (a : Act) (s : State) → Made c s (perform b a s)
unfolding perform peeked do_expected do_emit Plain
act_made c b (silent_at ks) s = idle c s _ _
act_made c b at_end s = idle c s _ _
act_made c b (immediate k) s = idle c s _ _
act_made c b (immediate_next k) s = idle c s _ _
act_made c b (add_expected k) s = idle c s _ _
act_made c b bump s = bump_made c s (peeked s) (drop_trivia s.rest)
act_made c b (bump_name ks) s = name_made c ks s (peeked s) (drop_trivia s.rest)
act_made c b bump_argument s = argument_made c 0 s s.rest
act_made c b (emit m h) s = bare c s yes _ _ tt
act_made c b emit_unclosed s = bare c s yes _ _ tt
act_made c b (less m n) s = idle c s _ _

-- a chain under way
record Chain (c : Bool) (s : State) (m : ℕ) (a i : Skeleton) (u : State) : Type 0 where
  before : Fine c a
  since : Fine c i

composed : (c : Bool) → Composes (Made c) (Chain c)
unfolding marked makes unlinked replies Plain closed
composed c =
    let none : Fine c done = fine_plain c done tt in
    record {
      idle = λ a s. idle c s a s;
      add = add_made c;
      mark = λ s o p. record { fine = fine_closed c o.shape _ _ done o.made p.shape none p.fine; shape = refl };
      turn = λ s o p. record { fine = p.fine; shape = refl };
      first = λ s o p. record { before = none; since = p.fine };
      more = λ s u m a i o d p. record { before = d.before; since = fine_join c i o.made d.since p.fine };
      link = λ s u m k a i o b q e d.
          record { before = fine_closed c (suc k) m (mark_of o.state) a (i ⧺ o.made) (sym (ap judged_kind e) ∙ q.shape) d.before d.since; since = none };
      last = λ s u m a i x d. record { fine = fine_closed c 0 m (mark_of u) a i refl d.before d.since; shape = refl };
    }

-- ---------------------------------------------------------------- programs

-- c: calls may be made, and a marker whose program is plain may become judged. t: the marker around may become judged.
unfoldable fits : Bool → Bool → Prog → Bool
fits c t (ret k a) = t || not (judged_kind k)
fits c t (act a) = true
fits c t (p ⨟ q) = fits c false p && fits c t q
fits c t (case x n y a) = fits c false x && (fits c t n && (fits c t y && fits c t a))
fits c t (in_marker p) = fits c false p || (c && fits false true p)
fits c t (loop p) = fits c false p
fits c t (chain p q) = fits c false p && fits c false q
fits c t (brace p) = fits c t p
fits c t (open_call r) = c

-- what such a program makes
record Makes (c t : Bool) (o : Out) : Type 0 where
  fine : Fine c o.made
  shape : t ≡ false → judged_kind o.shape ≡ false

to_made : (c : Bool) (s : State) (o : Out) → Makes c false o → Made c s o
to_made c s o h = record { fine = h.fine; shape = h.shape refl }

of_made : (c t : Bool) (s : State) (o : Out) → Made c s o → Makes c t o
of_made c t s o h = record { fine = h.fine; shape = λ e. h.shape }

ret_shape : (t b : Bool) → (t || not b) ≡ true → t ≡ false → b ≡ false
ret_shape true b e f = absurd (false≢true (sym f))
ret_shape false true e f = absurd (false≢true e)
ret_shape false false e f = refl

add_makes : (c t : Bool) (o o' : Out) → Makes c false o → Makes c t o' → Makes c t (add o o')
unfolding add
add_makes c t o o' p q = record { fine = fine_join c o.made o'.made p.fine q.fine; shape = q.shape }

choose_makes : (c t : Bool) (x : Ans) (n y a : State → Out) (s : State) → Makes c t (n s) → Makes c t (y s) → Makes c t (a s) → Makes c t (choose x n y a s)
unfolding choose
choose_makes c t no n y a s p q r = p
choose_makes c t yes n y a s p q r = q
choose_makes c t also n y a s p q r = r
choose_makes c t again n y a s p q r = q

-- a marker that may become judged
mark_made : (c : Bool) (s : State) (o : Out) → c ≡ true → Makes false true o → Made c s (marked s o)
unfolding marked makes
mark_made true s o e h = record { fine = flat_closed o.shape _ _ o.made h.fine; shape = refl }
mark_made false s o e h = absurd (false≢true e)

exec_fits : (c t : Bool) (ask : Rule → State → Out) → (c ≡ true → (r : Rule) (s : State) → Made c s (ask r s)) → (b : Label) (p : Prog) (s : State) → fits c t p ≡ true
    → Makes c t (exec ask b p s)
unfolding exec fits Plain
exec_fits c t ask h b (ret k a) s e = record { fine = fine_plain c done tt; shape = ret_shape t (judged_kind k) e }
exec_fits c t ask h b (act a) s e = of_made c t s _ (act_made c b a s)
exec_fits c t ask h b (p ⨟ q) s e =
    add_makes c t _ _ (exec_fits c false ask h b p s (and_left _ _ e)) (exec_fits c t ask h b q (exec ask b p s).state (and_right (fits c false p) _ e))
exec_fits c t ask h b (case x n y a) s e =
    let u : State = (exec ask b x s).state in
    let e₁ = and_right (fits c false x) _ e in
    let e₂ = and_right (fits c t n) _ e₁ in
    add_makes c t _ _ (exec_fits c false ask h b x s (and_left _ _ e))
    (choose_makes c t (exec ask b x s).ans (exec ask b n) (exec ask b y) (exec ask b a) u (exec_fits c t ask h b n u (and_left _ _ e₁))
    (exec_fits c t ask h b y u (and_left _ _ e₂)) (exec_fits c t ask h b a u (and_right (fits c t y) _ e₂)))
exec_fits c t ask h b (in_marker p) s e =
    of_made c t s _
    (or_cases (fits c false p) (c && fits false true p) e
    (λ f. (composed c).mark s _ (to_made c s _ (exec_fits c false ask h b p s f)))
    (λ f. mark_made c s _ (and_left c _ f) (exec_fits false true ask (λ g. absurd (false≢true g)) b p s (and_right c _ f))))
exec_fits c t ask h b (loop p) s e =
    of_made c t s _ (iter_all (Made c) (Chain c) (composed c) (suc (length s.rest)) (exec ask b p) (λ u. to_made c u _ (exec_fits c false ask h b p u e)) s)
exec_fits c t ask h b (chain p q) s e =
    of_made c t s _
    (chained_all (Made c) (Chain c) (composed c) (exec ask b q) (λ u. to_made c u _ (exec_fits c false ask h b q u (and_right (fits c false p) _ e))) s (exec ask b p s)
    (to_made c s _ (exec_fits c false ask h b p s (and_left _ _ e))))
exec_fits c t ask h b (brace p) s e = exec_fits c t ask h (here s.rest) p s e
exec_fits c t ask h b (open_call r) s e = of_made c t s _ (h e r s)

-- ---------------------------------------------------------------- the grammar

grammar_fits : (r : Rule) → fits true false (grammar r) ≡ true
unfolding fits grammar
grammar_fits item = refl
grammar_fits (propvalues true) = refl
grammar_fits (propvalues false) = refl
grammar_fits (eat_cell b) = refl
grammar_fits (expr_binding_power m) = refl

whole_fits : (e : Entry) → fits true false (whole e) ≡ true
unfolding fits whole
whole_fits SourceFile = refl
whole_fits ReferenceNoamp = refl
whole_fits PropValues = refl
whole_fits Cells = refl

run_made : (n : ℕ) (r : Rule) (s : State) → Made true s (run n r s)
unfolding run Plain
run_made zero r s = bare true s no _ _ tt
run_made (suc n) r s = to_made true s _ (exec_fits true false (run n) (λ e. run_made n) no_label (grammar r) s (grammar_fits r))

-- IN A WHOLE FILE no judged node lies inside another
pub entry_flat : (e : Entry) (ts : List Token) → Flat (run_entry e ts)
unfolding run_entry
entry_flat e ts = (exec_fits true false (run MOST_OPEN_CALLS) (λ f. run_made MOST_OPEN_CALLS) no_label (whole e) (taken ts) (whole_fits e)).fine

-- and where the root is one, none lies inside it
pub entry_plain : (e : Entry) (ts : List Token) → judged_kind (root_kind e) ≡ true → Plain (run_entry e ts)
unfolding run_entry root_kind fits whole
entry_plain SourceFile ts h = absurd (false≢true h)
entry_plain ReferenceNoamp ts h = (exec_fits false false (run MOST_OPEN_CALLS) (λ f. absurd (false≢true f)) no_label (whole ReferenceNoamp) (taken ts) refl).fine
entry_plain PropValues ts h = absurd (false≢true h)
entry_plain Cells ts h = absurd (false≢true h)
