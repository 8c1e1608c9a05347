-- The chain of infix operators does what the reader's loop does, and so `expr_binding_power` does what the reader does.
use Prim.Native.Nat.{ℕ, zero, suc, ◌<◌}
use native.Mathlib.Omega.{arith}
use mathlib.Core.Path.{◌≡◌, refl, sym, ◌∙◌, ap, subst}
use mathlib.Core.Bool.{Bool, true, false, cond}
use mathlib.Core.List.{List, [], ◌∷◌, ◌++◌, append_assoc}
use borrow.Author.Tests.{lt-ltb}
use lib.ListN.{length}
use Rattle.definitions.specs.NodeKind as N
use Rattle.definitions.specs.Prog.{Ans, no, yes, again, Rule, expr_binding_power, open_call}
use Rattle.definitions.specs.Check.{tell, when◌then◌else◌}
use Rattle.definitions.specs.Grammar.{lhs, infix_turn, expr_binding_power_body, grammar}
use Rattle.definitions.specs.Skeleton.{Label, no_label, Skeleton, done, node, ◌⧺◌}
use Rattle.definitions.specs.Run.{State, Out, mark_of, replies, makes, add, closed, is_again, goes_on, unlinked, by_shape, links, chained, exec, run}
use Rattle.definitions.specs.Report.{Push, event, pushes}
use Rattle.definitions.specs.C.{Symbol, symbols, Expr}
use Rattle.laws.specs.Pushes.{NoneExceeded}
use Rattle.laws.proofs.Skeleton.{join_done, join_assoc, pushes_join, pushes_closed}
use Rattle.laws.proofs.Kept.{Stands}
use Rattle.precedence.specs.Nodes.{expr_nodes}
use Rattle.precedence.proofs.Pratt.{Res, refused, spent, Reader, bind, step, loop, reader}
use Rattle.precedence.proofs.Pratt as P
use Rattle.laws.proofs.Clear.{clear_append}
use Rattle.precedence.proofs.Pushed.{Quiet, quiet_done, quiet_join, quiet_closed, Reported, there, reported_left, reported_right}
use Rattle.precedence.proofs.Same.{Same, same_join, same_node, same_ignored}
use Rattle.precedence.proofs.Symbols.{Tail, tail_trans}
use Rattle.precedence.proofs.Rules.{pick, Ends, ends_any, branch, ends_ret}
use Rattle.precedence.proofs.Follow.{Done, Noted, Follows, noted_first, noted_from}
use Rattle.precedence.proofs.Operands.{lhs_follows}
use Rattle.precedence.proofs.Turns.{Turned, stops, goes, turn_of, then_more, step_turn, Linked, Turns, turns}

-- ---------------------------------------------------------------- what links push

-- a chain pushes what it was handed, in order, and then more
record Pushes (m : ℕ) (a i : Skeleton) (l : List Push) : Type 0 where
  rest : List Push
  is : l ≡ pushes a ++ (event m ∷ (pushes i ++ rest))

unlinked_pushes : (m : ℕ) (a i : Skeleton) (x : Ans) (s : State) → Pushes m a i (pushes (unlinked m a i x s).made)
unfolding unlinked makes
unlinked_pushes m a i x s = record { rest = event (mark_of s) ∷ []; is = pushes_closed 0 m (mark_of s) a i }

-- made since the marker: i, and then j
pushes_since : (m : ℕ) (a i j : Skeleton) (l : List Push) → Pushes m a (i ⧺ j) l → (r : List Push) × (l ≡ pushes a ++ (event m ∷ (pushes i ++ (pushes j ++ r))))
pushes_since m a i j l p =
    (p.rest, p.is ∙ ap (λ (z : List Push). pushes a ++ (event m ∷ z)) (ap (◌++ p.rest) (pushes_join i j) ∙ append_assoc (pushes i) (pushes j) p.rest))

-- the marker was closed, and another pushed
pushes_linked : (k m m' : ℕ) (a i b j : Skeleton) (l : List Push) → b ≡ closed k m m' a i → Pushes m' b j l → Pushes m a i l
pushes_linked k m m' a i b j l e p =
    let r = event m' ∷ (pushes j ++ p.rest) in
    record {
      rest = event m' ∷ r;
      is =
          p.is
          ∙ ap (λ (z : Skeleton). pushes z ++ r) e
          ∙ ap (◌++ r) (pushes_closed k m m' a i)
          ∙ append_assoc (pushes a) (event m ∷ (pushes i ++ (event m' ∷ []))) r
          ∙ ap (λ (z : List Push). pushes a ++ (event m ∷ z)) (append_assoc (pushes i) (event m' ∷ []) r);
    }

-- what a link that came to o makes of the chain, and what follows it
module _ (n : ℕ) (f : State → Out) (m : ℕ) (a i : Skeleton) (s : State) (o : Out) where
  abbrev linked : Skeleton
  linked = closed o.shape m (mark_of o.state) a (i ⧺ o.made)

  abbrev going_on : Bool → Out
  going_on x = cond x (links n f (mark_of o.state) linked done o.state) (unlinked (mark_of o.state) linked done o.ans o.state)

  abbrev linking : Out
  linking = by_shape o.shape (unlinked m a (i ⧺ o.made) o.ans o.state) (going_on (goes_on s o))

  link_pushes : ((m' : ℕ) (b j : Skeleton) (u : State) → Pushes m' b j (pushes (links n f m' b j u).made)) → Pushes m a (i ⧺ o.made) (pushes linking.made)
  unfolding by_shape
  link_pushes later = by o.shape (goes_on s o)
    where
      on : (x : Bool) → Pushes m a (i ⧺ o.made) (pushes (going_on x).made)
      on true = pushes_linked o.shape m (mark_of o.state) a (i ⧺ o.made) linked done _ refl (later (mark_of o.state) linked done o.state)
      on false = pushes_linked o.shape m (mark_of o.state) a (i ⧺ o.made) linked done _ refl (unlinked_pushes (mark_of o.state) linked done o.ans o.state)

      by : (k : ℕ) (x : Bool) → Pushes m a (i ⧺ o.made) (pushes (by_shape k (unlinked m a (i ⧺ o.made) o.ans o.state) (going_on x)).made)
      by zero x = unlinked_pushes m a (i ⧺ o.made) o.ans o.state
      by (suc k) x = on x

links_pushes : (n : ℕ) (f : State → Out) (m : ℕ) (a i : Skeleton) (s : State) → Pushes m a i (pushes (links n f m a i s).made)
unfolding links
links_pushes zero f m a i s = unlinked_pushes m a i again s
links_pushes (suc n) f m a i s =
    let o = f s in
    let p = pushes_since m a i o.made (pushes (linking n f m a i s o).made) (link_pushes n f m a i s o (λ m' b j u. links_pushes n f m' b j u)) in
    record { rest = pushes o.made ++ p.0; is = p.1 }

-- so what the link made is pushed
module _ (n : ℕ) (f : State → Out) (m : ℕ) (a i : Skeleton) (s : State) (o : Out) where
  link_made : (r : List Push) × (pushes (linking n f m a i s o).made ≡ pushes a ++ (event m ∷ (pushes i ++ (pushes o.made ++ r))))
  link_made = pushes_since m a i o.made (pushes (linking n f m a i s o).made) (link_pushes n f m a i s o (links_pushes n f))

  link_clear : NoneExceeded (pushes (linking n f m a i s o).made) → NoneExceeded (pushes o.made)
  link_clear c =
      let r = link_made in
      let d : NoneExceeded (pushes a ++ (event m ∷ (pushes i ++ (pushes o.made ++ r.0)))) = subst NoneExceeded r.1 c in
      (clear_append (pushes o.made) r.0 (clear_append (pushes i) (pushes o.made ++ r.0) (clear_append (pushes a) (event m ∷ (pushes i ++ (pushes o.made ++ r.0))) d).1).1).0

  link_noted : (z : State) (vs : List Symbol) → Noted z vs o.made → Noted z vs (linking n f m a i s o).made
  link_noted z vs p =
      let r = link_made in
      record {
        rep = p.rep;
        among = subst (Reported p.rep) (sym r.1) (reported_right (pushes a) (there (reported_right (pushes i) (reported_left r.0 p.among))));
        raw = p.raw;
        mark_is = p.mark_is;
        left = p.left;
        tail = p.tail;
      }

-- ---------------------------------------------------------------- the chain under way

-- from z the chain has made the expression e: a and i, up to trivia and marks; us is left
record Holds (z : State) (e : Expr) (us : List Symbol) (a i : Skeleton) (s : State) : Type 0 where
  same : Same (a ⧺ i) (expr_nodes e)
  quiet_a : Quiet (pushes a)
  quiet_i : Quiet (pushes i)
  stands : Stands s
  left : symbols false s.since ≡ us
  tail : Tail s.since z.since

-- it ends
ends_chain : (z : State) (e : Expr) (us : List Symbol) (m : ℕ) (a i : Skeleton) (s : State) → Holds z e us a i s
    → Follows z expr_nodes (P.done e us) (unlinked m a i yes s)
unfolding unlinked makes closed
ends_chain z e us m a i s h = (
  refl,
  record {
    same = same_ignored m (mark_of s) a i (expr_nodes e) h.same;
    quiet = quiet_closed 0 m (mark_of s) a i h.quiet_a h.quiet_i;
    stands = h.stands;
    left = h.left;
    tail = h.tail;
  },
)

-- nothing was done but pass over trivia
still_holds : (z : State) (e : Expr) (us : List Symbol) (a i : Skeleton) (s to : State) → Stands to → to.since ≡ s.since → Holds z e us a i s → Holds z e us a (i ⧺ done) to
still_holds z e us a i s to st si h =
    record {
      same = rw (join_done i) h.same;
      quiet_a = h.quiet_a;
      quiet_i = rw (join_done i) h.quiet_i;
      stands = st;
      left = ap (symbols false) si ∙ h.left;
      tail = subst (λ (r : List _). Tail r z.since) (sym si) h.tail;
    }

-- a link: e becomes f
link_holds : (z : State) (e f : Expr) (us vs : List Symbol) (m : ℕ) (a i : Skeleton) (s : State) (o : Out) → Holds z e us a i s → Linked s e f vs o
    → Holds z f vs (node N.InfixExpr m (mark_of o.state) a (i ⧺ o.made) done) done o.state
unfolding closed ◌⧺◌
link_holds z e f us vs m a i s o h l =
    let d = l.made in
    let j : Same (a ⧺ (i ⧺ o.made)) (expr_nodes e ⧺ l.p) = rw (← (join_assoc a i o.made)) (same_join (a ⧺ i) o.made (expr_nodes e) l.p h.same d.same) in
    record {
      same = rw l.becomes (same_node N.InfixExpr m (mark_of o.state) a (i ⧺ o.made) (expr_nodes e ⧺ l.p) j);
      quiet_a = quiet_closed N.InfixExpr m (mark_of o.state) a (i ⧺ o.made) h.quiet_a (quiet_join i o.made h.quiet_i d.quiet);
      quiet_i = quiet_done;
      stands = d.stands;
      left = d.left;
      tail = tail_trans o.state.since s.since z.since d.tail h.tail;
    }

link_goes : (s : State) (e f : Expr) (vs : List Symbol) (o : Out) → Linked s e f vs o → goes_on s o ≡ true
unfolding goes_on is_again
link_goes s e f vs o l = rw (l.answers, lt-ltb (length o.state.rest) (length s.rest) l.moved)

-- the chain after a link
link_is : (n : ℕ) (f : State → Out) (m : ℕ) (a i : Skeleton) (s : State) (e g : Expr) (vs : List Symbol) (o : Out) → Linked s e g vs o
    → linking n f m a i s o ≡ links n f (mark_of o.state) (node N.InfixExpr m (mark_of o.state) a (i ⧺ o.made) done) done o.state
unfolding by_shape closed
link_is n f m a i s e g vs o l =
    let u = o.state in
    let to : ℕ → Bool → Out =
    λ k x.
    by_shape k (unlinked m a (i ⧺ o.made) o.ans u)
    (cond x (links n f (mark_of u) (closed k m (mark_of u) a (i ⧺ o.made)) done u) (unlinked (mark_of u) (closed k m (mark_of u) a (i ⧺ o.made)) done o.ans u)) in
    ap (λ (k : ℕ). to k (goes_on s o)) l.shape_is ∙ ap (to N.InfixExpr) (link_goes s e g vs o l)

-- ---------------------------------------------------------------- the loop

module _ (ask : Rule → State → Out) (b : Label) (rec : Reader)
    (below : (m : ℕ) (s : State) → Stands s → Ends ask b (open_call (expr_binding_power m)) s (Follows s expr_nodes (rec m (symbols false s.since))))
    (min : ℕ) (z : State) where
  abbrev turn : State → Out
  turn s = exec ask b (infix_turn min) s

  -- what is to be shown of a chain under way
  abbrev Goes : (Expr → List Symbol → Res) → Type 0
  Goes more = (n m : ℕ) (a i : Skeleton) (s : State) (e : Expr) (us : List Symbol) → Holds z e us a i s → length s.rest < n
      → NoneExceeded (pushes (links n turn m a i s).made) → Follows z expr_nodes (more e us) (links n turn m a i s)

  link_by : (more : Expr → List Symbol → Res) → Goes more → (n m : ℕ) (a i : Skeleton) (s : State) (e : Expr) (us : List Symbol) → Holds z e us a i s
      → length s.rest < suc n → (x : Turned) (o : Out) → Turns s e x o → NoneExceeded (pushes (linking n turn m a i s o).made)
      → Follows z expr_nodes (then_more x more e us) (linking n turn m a i s o)
  unfolding by_shape replies closed
  link_by more later n m a i s e us h l stops o t c =
      let g : Follows z expr_nodes (P.done e us) (linking n turn m a i s (replies yes t.to)) =
      ends_chain z e us m a (i ⧺ done) t.to (still_holds z e us a i s t.to t.stands t.since_is h) in
      subst (λ (o' : Out). Follows z expr_nodes (P.done e us) (linking n turn m a i s o')) (sym t.is) g
  link_by more later n m a i s e us h l (goes (P.done f vs)) o t c =
      let q = link_is n turn m a i s e f vs o t in
      subst (Follows z expr_nodes (more f vs)) (sym q)
      (later n (mark_of o.state) (node N.InfixExpr m (mark_of o.state) a (i ⧺ o.made) done) done o.state f vs (link_holds z e f us vs m a i s o h t)
      (omega (arith, t.moved)) (subst (λ (o' : Out). NoneExceeded (pushes o'.made)) q c))
  link_by more later n m a i s e us h l (goes (P.report vs)) o t c =
      noted_from z s vs (linking n turn m a i s o).made h.tail (link_noted n turn m a i s o s vs t)
  link_by more later n m a i s e us h l (goes refused) o t c = absurd t
  link_by more later n m a i s e us h l (goes spent) o t c = tt

  steps : (more : Expr → List Symbol → Res) → Goes more → Goes (step more rec min)
  unfolding links
  steps more later zero m a i s e us h l c = absurd (omega arith)
  steps more later (suc n) m a i s e us h l c =
      let t : Turns s e (turn_of rec min e us) (turn s) =
      subst (λ (vs : List Symbol). Turns s e (turn_of rec min e vs) (turn s)) h.left ((turns ask b rec below min e s h.stands).holds (link_clear n turn m a i s (turn s) c)) in
      subst (λ (x : Res). Follows z expr_nodes x (linking n turn m a i s (turn s))) (sym (step_turn more rec min e us))
      (link_by more later n m a i s e us h l (turn_of rec min e us) (turn s) t c)

  loops : (k : ℕ) → Goes (loop rec k min)
  loops zero = steps (λ f vs. spent) (λ n m a i s e us h l c. tt)
  loops (suc k) = steps (loop rec k min) (loops k)

-- ---------------------------------------------------------------- the whole chain

-- the first operand was read, and the loop is to begin
abbrev Begins : State → Res → Out → Type 0
Begins s (P.done e vs) o = (o.ans ≡ again) × Done s (expr_nodes e) vs o.made o.state
Begins s (P.report vs) o = Noted s vs o.made
Begins s refused o = ⊥
Begins s spent o = Unit {0}

module _ (ask : Rule → State → Out) (b : Label) (rec : Reader)
    (below : (m : ℕ) (s : State) → Stands s → Ends ask b (open_call (expr_binding_power m)) s (Follows s expr_nodes (rec m (symbols false s.since))))
    (min : ℕ) where
  begin_by : (s : State) (x : Res) (o : Out) → Follows s expr_nodes x o → Ends ask b (pick o.ans (tell no) (tell again) (tell again)) o.state (λ o'. Begins s x (add o o'))
  unfolding add
  begin_by s (P.done e vs) o d = rw d.0 (ends_ret ask b (refl, rw (join_done o.made) d.1))
  begin_by s (P.report vs) o n = ends_any ask b (λ o'. noted_first s vs o.made o'.made n)
  begin_by s refused o d = absurd d
  begin_by s spent o d = ends_any ask b (λ o'. tt)

  begins : (s : State) → Stands s → Ends ask b (when lhs then tell again else tell no) s (Begins s (P.lhs rec (symbols false s.since)))
  begins s h = branch ask b (lhs_follows ask b rec below s h) (begin_by s (P.lhs rec (symbols false s.since)))

  -- the chain that begins with o
  abbrev chain_of : State → Out → Bool → Out
  chain_of s o x =
      cond x (links (suc (length o.state.rest)) (exec ask b (infix_turn min)) (mark_of s) done o.made o.state)
      (unlinked (mark_of s) done o.made o.ans o.state)

  chain_pushes : (s : State) (o : Out) (x : Bool) → Pushes (mark_of s) done o.made (pushes (chain_of s o x).made)
  chain_pushes s o true = links_pushes (suc (length o.state.rest)) (exec ask b (infix_turn min)) (mark_of s) done o.made o.state
  chain_pushes s o false = unlinked_pushes (mark_of s) done o.made o.ans o.state

  chain_clear : (s : State) (o : Out) (x : Bool) → NoneExceeded (pushes (chain_of s o x).made) → NoneExceeded (pushes o.made)
  unfolding pushes
  chain_clear s o x c = let p = chain_pushes s o x in (clear_append (pushes o.made) p.rest (subst NoneExceeded p.is c)).0

  chain_noted : (s : State) (o : Out) (x : Bool) (vs : List Symbol) → Noted s vs o.made → Noted s vs (chain_of s o x).made
  unfolding pushes
  chain_noted s o x vs n =
      let p = chain_pushes s o x in
      record {
        rep = n.rep;
        among = subst (Reported n.rep) (sym p.is) (there (reported_left p.rest n.among));
        raw = n.raw;
        mark_is = n.mark_is;
        left = n.left;
        tail = n.tail;
      }

  chain_by : (s : State) (x : Res) (o : Out) → Begins s x o → NoneExceeded (pushes (chain_of s o (is_again o.ans)).made)
      → Follows s expr_nodes (bind x (λ e vs. loop rec (length vs) min e vs)) (chain_of s o (is_again o.ans))
  unfolding is_again pushes ◌⧺◌
  chain_by s (P.done e vs) o d c =
      let q : is_again o.ans ≡ true = ap is_again d.0 in
      let h : Holds s e vs done o.made o.state =
      record { same = d.1.same; quiet_a = tt; quiet_i = d.1.quiet; stands = d.1.stands; left = d.1.left; tail = d.1.tail } in
      subst (λ (x : Bool). Follows s expr_nodes (loop rec (length vs) min e vs) (chain_of s o x)) (sym q)
      (loops ask b rec below min s (length vs) (suc (length o.state.rest)) (mark_of s) done o.made o.state e vs h (omega arith)
      (subst (λ (x : Bool). NoneExceeded (pushes (chain_of s o x).made)) q c))
  chain_by s (P.report vs) o n c = chain_noted s o (is_again o.ans) vs n
  chain_by s refused o d c = absurd d
  chain_by s spent o d c = tt

  body_follows : (s : State) → Stands s
      → Ends ask b (expr_binding_power_body min) s (Follows s expr_nodes (bind (P.lhs rec (symbols false s.since)) (λ e vs. loop rec (length vs) min e vs)))
  unfolding expr_binding_power_body exec chained
  body_follows s h =
      let o = exec ask b (when lhs then tell again else tell no) s in
      record {
        holds = λ c.
            chain_by s (P.lhs rec (symbols false s.since)) o ((begins s h).holds (chain_clear s o (is_again o.ans) c)) c;
      }

-- `expr_binding_power`, with so many more open calls allowed, does what the reader does
pub calls : (n : ℕ) (b : Label) (m : ℕ) (s : State) → Stands s
    → Ends (run n) b (open_call (expr_binding_power m)) s (Follows s expr_nodes (reader n m (symbols false s.since)))
unfolding exec run grammar makes pushes
calls zero b m s h = record { holds = λ c. absurd c }
calls (suc n) b m s h = record { holds = (body_follows (run n) no_label (reader n) (calls n no_label) m s h).holds }
