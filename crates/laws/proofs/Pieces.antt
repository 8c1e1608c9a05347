-- A property of skeletons that a whole hands on to its pieces: from what a loop, a chain or a branch made to what its
-- turns made.
use Prim.Native.Nat.{ℕ, zero, suc}
use mathlib.Core.Path.{◌≡◌, refl}
use mathlib.Core.Bool.{Bool, true, false, cond}
use lib.ListN.{length}
use Rattle.definitions.specs.Skeleton.{Skeleton, done, ◌⧺◌}
use Rattle.definitions.specs.Run.{State, Out, mark_of, makes, add, closed, is_again, goes_on, unlinked, by_shape, links, chained}
use Rattle.laws.proofs.Fuel.{turn_of}

-- what has to be shown of it
pub record Pieces (P : Skeleton → Type 0) : Type 0 where
  pub join : (p q : Skeleton) → P (p ⧺ q) → P p × P q
  pub closing : (k m m' : ℕ) (a i : Skeleton) → P (closed k m m' a i) → P a × P i

-- a link of a chain: the last marker left alone, or completed and then the chain's end or more of it
abbrev pub linked : ℕ → Skeleton → Skeleton → Out → Skeleton
linked m a i o = closed o.shape m (mark_of o.state) a (i ⧺ o.made)

abbrev pub link : ℕ → Skeleton → Skeleton → State → Out → Out → Out
link m a i s o more =
    by_shape o.shape (unlinked m a (i ⧺ o.made) o.ans o.state) (cond (goes_on s o) more (unlinked (mark_of o.state) (linked m a i o) done o.ans o.state))

module _ (P : Skeleton → Type 0) (K : Pieces P) where
  -- a loop's turn, whether or not the loop goes on
  pub turn_pieces : (b : Bool) (o x : Out) → P (cond b (add (turn_of o) x) (turn_of o)).made → P o.made
  unfolding add makes
  turn_pieces true o x h = (K.join o.made x.made h).0
  turn_pieces false o x h = h

  pub closed_pieces : (k m m' : ℕ) (a i p : Skeleton) → P (closed k m m' a (i ⧺ p)) → P a × P i × P p
  closed_pieces k m m' a i p h =
      let c : P a × P (i ⧺ p) = K.closing k m m' a (i ⧺ p) h in
      let d : P i × P p = K.join i p c.1 in
      (c.0, d.0, d.1)

  pub link_pieces : (m : ℕ) (a i : Skeleton) (s : State) (o x : Out) → (P x.made → P (linked m a i o)) → P (link m a i s o x).made
      → P a × P i × P o.made
  unfolding unlinked makes by_shape
  link_pieces m a i s o x h = go o.shape refl (goes_on s o)
    where
      go : (k : ℕ) → o.shape ≡ k → (b : Bool)
          → P (by_shape k (unlinked m a (i ⧺ o.made) o.ans o.state) (cond b x (unlinked (mark_of o.state) (linked m a i o) done o.ans o.state))).made
          → P a × P i × P o.made
      go zero e b w = closed_pieces 0 m (mark_of o.state) a i o.made w
      go (suc k) e true w = closed_pieces o.shape m (mark_of o.state) a i o.made (h w)
      go (suc k) e false w = closed_pieces o.shape m (mark_of o.state) a i o.made (K.closing 0 (mark_of o.state) (mark_of o.state) (linked m a i o) done w).0

  pub links_pieces : (n : ℕ) (f : State → Out) (m : ℕ) (a i : Skeleton) (s : State) → P (links n f m a i s).made → P a × P i
  unfolding links unlinked makes
  links_pieces zero f m a i s h = K.closing 0 m (mark_of s) a i h
  links_pieces (suc n) f m a i s h =
      let c : P a × P i × P (f s).made =
      link_pieces m a i s (f s) (links n f (mark_of (f s).state) (linked m a i (f s)) done (f s).state) (λ w. (links_pieces n f (mark_of (f s).state) (linked m a i (f s)) done (f s).state w).0) h in
      (c.0, c.1)

  pub chained_pieces : (f : State → Out) (s : State) (o : Out) → P (chained f s o).made → P o.made
  unfolding chained unlinked makes
  chained_pieces f s o = go (is_again o.ans)
    where
      on : Out
      on = links (suc (length o.state.rest)) f (mark_of s) done o.made o.state

      off : Out
      off = unlinked (mark_of s) done o.made o.ans o.state

      go : (b : Bool) → P (cond b on off).made → P o.made
      go true w = (links_pieces (suc (length o.state.rest)) f (mark_of s) done o.made o.state w).1
      go false w = (K.closing 0 (mark_of s) (mark_of o.state) done o.made w).1
