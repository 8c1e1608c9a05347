-- Loops and chains of two runs, side by side.
use Prim.Native.Nat.{ℕ, zero, suc}
use mathlib.Core.Path.{◌≡◌, refl, sym, subst}
use mathlib.Core.Bool.{Bool, true, false, cond}
use mathlib.Core.List.{List, [], ◌∷◌, ◌++◌}
use lib.ListN.{length}
use Rattle.definitions.specs.Prog.{Ans, again}
use Rattle.definitions.specs.Skeleton.{Skeleton, done, ◌⧺◌}
use Rattle.definitions.specs.Run.{State, Out, mark_of, replies, makes, add, closed, is_again, goes_on, iter, unlinked, by_shape, links, chained}
use Rattle.run_steps.specs.Steps.{Step, turned, linked, spent, iter_steps, links_steps, EveryStep}
use Rattle.facts.proofs.Good.{Good, Free}
use Rattle.pending.proofs.Alike.{Terms, Alike, no_more, alike_join, alike_closed}
use Rattle.pending.proofs.Steps.{each_first, each_second, free_both}
use Rattle.pending.proofs.Together.{shrunk, Settled, as_of, Piece, Together, Follows, by_steps, later, then, idle}

-- the steps of a chain whose first program gave n by the steps ss. G, T: what a link does, and its steps.
abbrev pub chain_steps : (State → Out) → (State → List Step) → List Step → Out → List Step
chain_steps G T ss n = ss ++ cond (is_again n.ans) (links_steps (suc (length n.state.rest)) G T n.state) []

-- ---------------------------------------------------------------- loops

module _ (c : Terms) (F G : State → Out) (T : State → List Step) (S : Follows c F G T) where
  -- a turn from s that gave n, and what comes after it: what it gives, and by which steps
  abbrev turn_out : ℕ → (State → Out) → State → Out → Out
  turn_out k H s n = cond (goes_on s n) (add (makes n.ans n.made n.state) (iter k H n.state)) (makes n.ans n.made n.state)

  abbrev turn_steps : ℕ → State → Out → List Step
  turn_steps k s n = T s ++ (turned s n ∷ cond (goes_on s n) (iter_steps k G T n.state) [])

  -- b: whether it goes on
  turned_so : (k : ℕ) (f : Bool) (s : State) (o : Out) (p : Skeleton) → Piece c f f (T (shrunk s)) o p → Follows c (iter k F) (iter k G) (iter_steps k G T) → (b : Bool)
      → (f ≡ false → EveryStep Good (T (shrunk s) ++ (turned (shrunk s) (as_of o p) ∷ cond b (iter_steps k G T (shrunk o.state)) [])))
      → Together c f f (T (shrunk s) ++ (turned (shrunk s) (as_of o p) ∷ cond b (iter_steps k G T (shrunk o.state)) []))
      (cond b (add (makes o.ans o.made o.state) (iter k F o.state)) (makes o.ans o.made o.state))
      (cond b (add (makes o.ans p (shrunk o.state)) (iter k G (shrunk o.state))) (makes o.ans p (shrunk o.state)))
  unfolding makes
  turned_so k f s o p w R true e =
      then c f f (T (shrunk s)) (turned (shrunk s) (as_of o p) ∷ iter_steps k G T (shrunk o.state)) (makes o.ans o.made o.state) (iter k F o.state) (iter k G (shrunk o.state)) p
      (record { after = w.after; made = w.made; settled = w.settled; free = w.free }) e
      (λ i. by_steps c w.after w.after (iter_steps k G T (shrunk o.state)) _ _ _ (λ h. h) (R w.after o.state w.settled (λ j. (i j).1)))
  turned_so k f s o p w R false e =
      record {
        what = p;
        same = refl;
        piece = record { after = w.after; made = w.made; settled = w.settled; free = λ i. ((w.free i).0, free_both (T (shrunk s)) (turned (shrunk s) (as_of o p) ∷ []) (w.free i).1 tt) };
      }

  pub iter_follows : (k : ℕ) → Follows c (iter k F) (iter k G) (iter_steps k G T)
  unfolding iter iter_steps replies goes_on
  iter_follows zero f s d e = idle c f (spent ∷ []) s again 0 tt d
  iter_follows (suc k) f s d e =
      let w = S f s d (λ i. each_first Good (T (shrunk s)) _ (e i)) in
      subst (λ (n : Out). (f ≡ false → EveryStep Good (turn_steps k (shrunk s) n)) → Together c f f (turn_steps k (shrunk s) n) (turn_out k F s (F s)) (turn_out k G (shrunk s) n)) (sym w.same)
      (turned_so k f s (F s) w.what w.piece (iter_follows k) (goes_on s (F s))) e

  -- ---------------------------------------------------------------- chains

  -- a link from s that gave n, in a chain whose node so far is a and that has made i since
  abbrev link_out : ℕ → (State → Out) → ℕ → Skeleton → Skeleton → State → Out → Out
  link_out k H m a i s n =
      by_shape n.shape (unlinked m a (i ⧺ n.made) n.ans n.state)
      (cond (goes_on s n) (links k H (mark_of n.state) (closed n.shape m (mark_of n.state) a (i ⧺ n.made)) done n.state)
      (unlinked (mark_of n.state) (closed n.shape m (mark_of n.state) a (i ⧺ n.made)) done n.ans n.state))

  abbrev link_steps : ℕ → State → Out → List Step
  link_steps k s n = T s ++ (linked s n ∷ by_shape n.shape [] (cond (goes_on s n) (links_steps k G T n.state) []))

  -- a chain of at most k links: a and i are alike, f, g and h telling whether refusal 5 has come before them, between
  -- them and after them
  abbrev Chain : ℕ → Type 0
  Chain k =
      (f g h : Bool) (m : ℕ) (a b i j : Skeleton) → Alike c f g a b → Alike c g h i j → (s : State) → Settled h s.pending → (h ≡ false → EveryStep Good (links_steps k G T (shrunk s)))
      → Together c f h (links_steps k G T (shrunk s)) (links k F m b j s) (links k G m a i (shrunk s))

  -- it ends
  ended : (f g h x : Bool) (m : ℕ) (a b i j : Skeleton) (ss : List Step) (y : Ans) (s : State) → Alike c f g a b → Alike c g x i j → Settled x s.pending → (x ≡ false → (h ≡ false) × Free ss)
      → Together c f h ss (unlinked m b j y s) (unlinked m a i y (shrunk s))
  unfolding unlinked makes
  ended f g h x m a b i j ss y s p q d e =
      record { what = closed 0 m (mark_of s) a i; same = refl; piece = record { after = x; made = alike_closed 0 m (mark_of s) p q; settled = d; free = e } }

  -- t: its shape. b: whether it goes on.
  linked_so : (k : ℕ) → Chain k → (f g h : Bool) (m : ℕ) (a b i j : Skeleton) → Alike c f g a b → Alike c g h i j → (s : State) (o : Out) (p : Skeleton) → Piece c h h (T (shrunk s)) o p → (t : ℕ) (y : Bool)
      → (h ≡ false → EveryStep Good (T (shrunk s) ++ (linked (shrunk s) (as_of o p) ∷ by_shape t [] (cond y (links_steps k G T (shrunk o.state)) []))))
      → Together c f h (T (shrunk s) ++ (linked (shrunk s) (as_of o p) ∷ by_shape t [] (cond y (links_steps k G T (shrunk o.state)) [])))
      (by_shape t (unlinked m b (j ⧺ o.made) o.ans o.state)
      (cond y (links k F (mark_of o.state) (closed o.shape m (mark_of o.state) b (j ⧺ o.made)) done o.state)
      (unlinked (mark_of o.state) (closed o.shape m (mark_of o.state) b (j ⧺ o.made)) done o.ans o.state)))
      (by_shape t (unlinked m a (i ⧺ p) o.ans (shrunk o.state))
      (cond y (links k G (mark_of o.state) (closed o.shape m (mark_of o.state) a (i ⧺ p)) done (shrunk o.state))
      (unlinked (mark_of o.state) (closed o.shape m (mark_of o.state) a (i ⧺ p)) done o.ans (shrunk o.state))))
  unfolding by_shape
  linked_so k R f g h m a b i j α β s o p w zero y e =
      ended f g h w.after m a b (i ⧺ p) (j ⧺ o.made) _ o.ans o.state α (alike_join β w.made) w.settled
      (λ q. ((w.free q).0, free_both (T (shrunk s)) (linked (shrunk s) (as_of o p) ∷ []) (w.free q).1 tt))
  linked_so k R f g h m a b i j α β s o p w (suc t) true e =
      later c f h (T (shrunk s)) (linked (shrunk s) (as_of o p) ∷ links_steps k G T (shrunk o.state)) o p w _ _
      (by_steps c f w.after (links_steps k G T (shrunk o.state)) _ _ _ (λ q. q)
      (R f w.after w.after (mark_of o.state) _ _ done done (alike_closed o.shape m (mark_of o.state) α (alike_join β w.made)) no_more o.state w.settled
      (λ q. (each_second Good (T (shrunk s)) _ (e (w.free q).0) (w.free q).1).1)))
  linked_so k R f g h m a b i j α β s o p w (suc t) false e =
      ended f w.after h w.after (mark_of o.state) _ _ done done _ o.ans o.state (alike_closed o.shape m (mark_of o.state) α (alike_join β w.made)) no_more w.settled
      (λ q. ((w.free q).0, free_both (T (shrunk s)) (linked (shrunk s) (as_of o p) ∷ []) (w.free q).1 tt))

  links_follows : (k : ℕ) → Chain k
  unfolding links links_steps goes_on
  links_follows zero f g h m a b i j α β s d e = ended f g h h m a b i j (spent ∷ []) again s α β d (λ q. (q, tt))
  links_follows (suc k) f g h m a b i j α β s d e =
      let w = S h s d (λ q. each_first Good (T (shrunk s)) _ (e q)) in
      subst (λ (n : Out). (h ≡ false → EveryStep Good (link_steps k (shrunk s) n)) → Together c f h (link_steps k (shrunk s) n) (link_out k F m b j s (F s)) (link_out k G m a i (shrunk s) n)) (sym w.same)
      (linked_so k (links_follows k) f g h m a b i j α β s (F s) w.what w.piece (F s).shape (goes_on s (F s))) e

  -- a chain whose first program, from s, gave o
  pub chained_so : (f : Bool) (s : State) (ss : List Step) (o : Out) (p : Skeleton) → Piece c f f ss o p → (f ≡ false → EveryStep Good (chain_steps G T ss (as_of o p)))
      → Together c f f (chain_steps G T ss (as_of o p)) (chained F s o) (chained G (shrunk s) (as_of o p))
  unfolding chained
  chained_so f s ss o p w = go (is_again o.ans)
    where
      go : (b : Bool) → (f ≡ false → EveryStep Good (ss ++ cond b (links_steps (suc (length o.state.rest)) G T (shrunk o.state)) []))
          → Together c f f (ss ++ cond b (links_steps (suc (length o.state.rest)) G T (shrunk o.state)) [])
          (cond b (links (suc (length o.state.rest)) F (mark_of s) done o.made o.state) (unlinked (mark_of s) done o.made o.ans o.state))
          (cond b (links (suc (length o.state.rest)) G (mark_of s) done p (shrunk o.state)) (unlinked (mark_of s) done p o.ans (shrunk o.state)))
      go true e =
          later c f f ss _ o p w _ _
          (links_follows (suc (length o.state.rest)) f f w.after (mark_of s) done done p o.made no_more w.made o.state w.settled (λ q. each_second Good ss _ (e (w.free q).0) (w.free q).1))
      go false e = ended f f f w.after (mark_of s) done done p o.made _ o.ans o.state no_more w.made w.settled (λ q. ((w.free q).0, free_both ss [] (w.free q).1 tt))
