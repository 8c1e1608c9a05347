-- A loop and a chain leave the shape of the marker around them alone.
use Prim.Native.Nat.{ℕ, zero, suc}
use mathlib.Core.Path.{◌≡◌, refl}
use lib.ListN.{length}
use Rattle.definitions.specs.Skeleton.{Skeleton, done}
use Rattle.definitions.specs.Run.{State, Out, mark_of, replies, makes, add, is_again, goes_on, iter, unlinked, by_shape, links, chained}
use Rattle.basics.proofs.Tests.{cond-all}
use Rattle.laws.proofs.Fuel.{turn_of}
use Rattle.laws.proofs.Pieces.{linked}

pub iter_shape : (n : ℕ) (f : State → Out) (s : State) → (iter n f s).shape ≡ 0
unfolding iter replies makes add
iter_shape zero f s = refl
iter_shape (suc n) f s = cond-all (λ (o : Out). o.shape ≡ 0) (goes_on s (f s)) {x = add (turn_of (f s)) (iter n f (f s).state)} {y = turn_of (f s)} (iter_shape n f (f s).state) refl

shape_by : (k : ℕ) (x y : Out) → x.shape ≡ 0 → y.shape ≡ 0 → (by_shape k x y).shape ≡ 0
unfolding by_shape
shape_by zero x y p q = p
shape_by (suc k) x y p q = q

pub links_shape : (n : ℕ) (f : State → Out) (m : ℕ) (a i : Skeleton) (s : State) → (links n f m a i s).shape ≡ 0
unfolding links unlinked makes
links_shape zero f m a i s = refl
links_shape (suc n) f m a i s =
    shape_by (f s).shape _ _ refl
    (cond-all (λ (o : Out). o.shape ≡ 0) (goes_on s (f s)) {x = links n f (mark_of (f s).state) (linked m a i (f s)) done (f s).state}
    {y = unlinked (mark_of (f s).state) (linked m a i (f s)) done (f s).ans (f s).state} (links_shape n f (mark_of (f s).state) (linked m a i (f s)) done (f s).state) refl)

pub chained_shape : (f : State → Out) (s : State) (o : Out) → (chained f s o).shape ≡ 0
unfolding chained unlinked makes
chained_shape f s o =
    cond-all (λ (o : Out). o.shape ≡ 0) (is_again o.ans) {x = links (suc (length o.state.rest)) f (mark_of s) done o.made o.state}
    {y = unlinked (mark_of s) done o.made o.ans o.state} (links_shape (suc (length o.state.rest)) f (mark_of s) done o.made o.state) refl
