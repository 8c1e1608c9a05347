-- One induction over programs, loops, chains and open calls: what holds of each action and is kept by joining and by
-- closing a marker holds of every run. `Composes` is what is asked of joining and closing; `exec_only` gives the
-- property of programs that complete markers only as certain kinds, `Steady` of all programs. `Kept` is the form for a
-- property of what a run makes between two states: its eight cases are all that a user shows.
use Prim.Native.Nat.{ℕ, zero, suc}
use mathlib.Core.Path.{◌≡◌, refl, sym, subst}
use mathlib.Core.Bool.{Bool, true, ◌&&◌}
use lib.ListN.{length}
use Rattle.definitions.specs.Prog.{choose, Ans, no, yes, also, again, Rule, Act, Prog, ret, act, ◌⨟◌, case, in_marker, loop, chain, brace, open_call}
use Rattle.definitions.specs.Grammar.{grammar}
use Rattle.definitions.specs.Skeleton.{Label, no_label, Skeleton, done, node, over, ◌⧺◌}
use Rattle.definitions.specs.Run.{State, Out, mark_of, replies, makes, add, perform, closed, marked, is_again, goes_on, iter, unlinked, by_shape, links, chained, here, exec, run}
use Rattle.basics.proofs.Tests.{cond-all, and_left, and_right, and_both}

-- ---------------------------------------------------------------- the general form

-- Q s o: a property of the result o of a run from the state s.
-- C s m a i u: a property of a chain under way that began at s and has come to u: its open marker was pushed at mark m,
-- a is the chain's node so far, i what was made since that marker. Kept by putting programs together:
pub record Composes (Q : State → Out → Type 0) (C : State → ℕ → Skeleton → Skeleton → State → Type 0) : Type 0 where
  pub idle : (a : Ans) (s : State) → Q s (record { ans = a; shape = 0; made = done; state = s })
  pub add : (s : State) (o o' : Out) → Q s o → Q o.state o' → Q s (add o o')
  pub mark : (s : State) (o : Out) → Q s o → Q s (marked s o)
  -- a loop's turn shapes no marker
  pub turn : (s : State) (o : Out) → Q s o → Q s (makes o.ans o.made o.state)
  -- a chain begins; something more is made in it; a link completes its marker and precedes it by a new one; it ends
  pub first : (s : State) (o : Out) → Q s o → C s (mark_of s) done o.made o.state
  pub more : (s u : State) (m : ℕ) (a i : Skeleton) (o : Out) → C s m a i u → Q u o → C s m a (i ⧺ o.made) o.state
  -- (the link began at u and gave o; the chain is known before it and after it)
  pub link : (s u : State) (m k : ℕ) (a i : Skeleton) (o : Out) → C s m a i u → Q u o → o.shape ≡ suc k → C s m a (i ⧺ o.made) o.state
      → C s (mark_of o.state) (node (suc k) m (mark_of o.state) a (i ⧺ o.made) done) done o.state
  pub last : (s u : State) (m : ℕ) (a i : Skeleton) (x : Ans) → C s m a i u → Q s (unlinked m a i x u)

-- and true of each action, and of the call that is one too many
pub record Steady (Q : State → Out → Type 0) (C : State → ℕ → Skeleton → Skeleton → State → Type 0) : Type 0 where
  pub composes : Composes Q C
  pub ret : (k : ℕ) (a : Ans) (s : State) → Q s (record { ans = a; shape = k; made = done; state = s })
  pub act : (b : Label) (a : Act) (s : State) → Q s (perform b a s)
  pub deep : (s : State) → Q s (makes no (over (mark_of s) done) s)

module _ (Q : State → Out → Type 0) (C : State → ℕ → Skeleton → Skeleton → State → Type 0) (S : Composes Q C) where
  -- whichever way a branch goes
  pub choose_all : (x : Ans) (n y a : State → Out) → ((s : State) → Q s (n s)) → ((s : State) → Q s (y s)) → ((s : State) → Q s (a s)) → (s : State) → Q s (choose x n y a s)
  unfolding choose
  choose_all no n y a p q r s = p s
  choose_all yes n y a p q r s = q s
  choose_all also n y a p q r s = r s
  choose_all again n y a p q r s = q s

  -- every loop
  pub iter_all : (n : ℕ) (f : State → Out) → ((s : State) → Q s (f s)) → (s : State) → Q s (iter n f s)
  unfolding iter replies
  iter_all zero f h s = S.idle again s
  iter_all (suc n) f h s =
      let turn : Q s (makes (f s).ans (f s).made (f s).state) = S.turn s (f s) (h s) in
      cond-all (Q s) (goes_on s (f s)) (S.add s _ _ (unfold makes in turn) (iter_all n f h (f s).state)) turn

  by_shape_all : (s : State) (k : ℕ) (x y : Out) → Q s x → ((j : ℕ) → k ≡ suc j → Q s y) → Q s (by_shape k x y)
  unfolding by_shape
  by_shape_all s zero x y p q = p
  by_shape_all s (suc k) x y p q = q k refl

  -- every chain, from a marker on
  pub links_all : (n : ℕ) (f : State → Out) → ((s : State) → Q s (f s)) → (s u : State) (m : ℕ) (a i : Skeleton) → C s m a i u → Q s (links n f m a i u)
  unfolding links closed
  links_all zero f h s u m a i c = S.last s u m a i again c
  links_all (suc n) f h s u m a i c =
      let o : Out = f u in
      let d : C s m a (i ⧺ o.made) o.state = S.more s u m a i o c (h u) in
      by_shape_all s o.shape _ _ (S.last s o.state m a (i ⧺ o.made) o.ans d)
      (λ j e.
      let l : C s (mark_of o.state) (closed o.shape m (mark_of o.state) a (i ⧺ o.made)) done o.state =
      subst (λ (k : ℕ). C s (mark_of o.state) (closed k m (mark_of o.state) a (i ⧺ o.made)) done o.state) (sym e) (S.link s u m j a i o c (h u) e d) in
      cond-all (Q s) (goes_on u o) (links_all n f h s o.state (mark_of o.state) _ done l) (S.last s o.state (mark_of o.state) _ done o.ans l))

  -- every chain
  pub chained_all : (f : State → Out) → ((s : State) → Q s (f s)) → (s : State) (o : Out) → Q s o → Q s (chained f s o)
  unfolding chained
  chained_all f h s o q =
      let c : C s (mark_of s) done o.made o.state = S.first s o q in
      cond-all (Q s) (is_again o.ans)
      (links_all (suc (length o.state.rest)) f h s o.state (mark_of s) done o.made c)
      (S.last s o.state (mark_of s) done o.made o.ans c)

-- every marker of the program is ignored or completed as a kind of which f holds, and g holds of every action
unfoldable pub only : (ℕ → Bool) → (Act → Bool) → Prog → Bool
only f g (ret k a) = f k
only f g (act a) = g a
only f g (p ⨟ q) = only f g p && only f g q
only f g (case c n y a) = only f g c && (only f g n && (only f g y && only f g a))
only f g (in_marker p) = only f g p
only f g (loop p) = only f g p
only f g (chain p q) = only f g p && only f g q
only f g (brace p) = only f g p
only f g (open_call r) = true

abbrev pub any_act : Act → Bool
any_act a = true

module _ (Q : State → Out → Type 0) (C : State → ℕ → Skeleton → Skeleton → State → Type 0) (S : Composes Q C) (f : ℕ → Bool) (g : Act → Bool)
    (rets : (k : ℕ) (a : Ans) (s : State) → f k ≡ true → Q s (record { ans = a; shape = k; made = done; state = s }))
    (acts : (b : Label) (a : Act) → g a ≡ true → (s : State) → Q s (perform b a s)) where
  -- every such program, if it holds of what the calls do
  pub exec_only : (ask : Rule → State → Out) → ((r : Rule) (s : State) → Q s (ask r s)) → (b : Label) (p : Prog) (s : State) → only f g p ≡ true → Q s (exec ask b p s)
  unfolding exec only
  exec_only ask h b (ret k a) s e = rets k a s e
  exec_only ask h b (act a) s e = acts b a e s
  exec_only ask h b (p ⨟ q) s e =
      S.add s _ _ (exec_only ask h b p s (and_left _ _ e)) (exec_only ask h b q (exec ask b p s).state (and_right (only f g p) _ e))
  exec_only ask h b (case c n y a) s e =
      let e₁ = and_right (only f g c) _ e in
      let e₂ = and_right (only f g n) _ e₁ in
      S.add s _ _ (exec_only ask h b c s (and_left _ _ e))
      (choose_all Q C S (exec ask b c s).ans (exec ask b n) (exec ask b y) (exec ask b a) (λ u. exec_only ask h b n u (and_left _ _ e₁))
      (λ u. exec_only ask h b y u (and_left _ _ e₂)) (λ u. exec_only ask h b a u (and_right (only f g y) _ e₂)) (exec ask b c s).state)
  exec_only ask h b (in_marker p) s e = S.mark s _ (exec_only ask h b p s e)
  exec_only ask h b (loop p) s e = iter_all Q C S (suc (length s.rest)) (exec ask b p) (λ u. exec_only ask h b p u e) s
  exec_only ask h b (chain p q) s e =
      chained_all Q C S (exec ask b q) (λ u. exec_only ask h b q u (and_right (only f g p) _ e)) s (exec ask b p s) (exec_only ask h b p s (and_left _ _ e))
  exec_only ask h b (brace p) s e = exec_only ask h (here s.rest) p s e
  exec_only ask h b (open_call r) s e = h r s

any_kind : ℕ → Bool
any_kind k = true

only_any : (p : Prog) → only any_kind any_act p ≡ true
unfolding only any_kind
only_any (ret k a) = refl
only_any (act a) = refl
only_any (p ⨟ q) = and_both (only_any p) (only_any q)
only_any (case c n y a) = and_both (only_any c) (and_both (only_any n) (and_both (only_any y) (only_any a)))
only_any (in_marker p) = only_any p
only_any (loop p) = only_any p
only_any (chain p q) = and_both (only_any p) (only_any q)
only_any (brace p) = only_any p
only_any (open_call r) = refl

module _ (Q : State → Out → Type 0) (C : State → ℕ → Skeleton → Skeleton → State → Type 0) (S : Steady Q C) where
  -- every program, if it holds of what the calls do
  pub exec_all : (ask : Rule → State → Out) → ((r : Rule) (s : State) → Q s (ask r s)) → (b : Label) (p : Prog) (s : State) → Q s (exec ask b p s)
  exec_all ask h b p s = exec_only Q C S.composes any_kind any_act (λ k a u e. S.ret k a u) (λ c a e u. S.act c a u) ask h b p s (only_any p)

  -- every call, with any number of open calls allowed
  pub run_all : (n : ℕ) (r : Rule) (s : State) → Q s (run n r s)
  unfolding run
  run_all zero r s = S.deep s
  run_all (suc n) r s = exec_all (run n) (run_all n) no_label (grammar r) s
