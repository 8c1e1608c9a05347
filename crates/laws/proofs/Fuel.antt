-- More fuel changes nothing: a loop or a chain does the same with any number of turns allowed above the tokens left.
-- And a loop turn by turn.
use Prim.Native.Nat.{ℕ, zero, suc, ◌<◌}
use native.Mathlib.Nat.{not-suc-le-zero}
use native.Mathlib.Omega.{arith}
use mathlib.Core.Path.{◌≡◌, refl, ap, ◌∙◌}
use mathlib.Core.Bool.{Bool, true, false, cond}
use lib.ListN.{length}
use borrow.Author.Tests.{ltb-true}
use Rattle.definitions.specs.Skeleton.{Skeleton, done}
use Rattle.definitions.specs.Run.{State, Out, makes, add, is_again, goes_on, iter, by_shape, links}
use Rattle.basics.proofs.Tests.{and_right}
use Rattle.laws.proofs.Skeleton.{join_assoc}

-- ---------------------------------------------------------------- loops and chains

-- a loop that goes on has moved its cursor
pub goes_on_shorter : (s : State) (o : Out) → goes_on s o ≡ true → length o.state.rest < length s.rest
unfolding goes_on
goes_on_shorter s o e = ltb-true _ _ (and_right (is_again o.ans) _ e)

cond_same : {A : Type 0} (b : Bool) (x z y : A) → (b ≡ true → x ≡ z) → cond b x y ≡ cond b z y
cond_same true x z y h = h refl
cond_same false x z y h = refl

-- what a loop's turn leaves for the loop
abbrev pub turn_of : Out → Out
turn_of o = makes o.ans o.made o.state

-- any fuel above the tokens left will do
pub iter_same : (n m : ℕ) (f : State → Out) (s : State) → length s.rest < n → length s.rest < m → iter n f s ≡ iter m f s
unfolding iter makes
iter_same zero m f s h g = absurd (not-suc-le-zero h)
iter_same (suc n) zero f s h g = absurd (not-suc-le-zero g)
iter_same (suc n) (suc m) f s h g =
    cond_same (goes_on s (f s)) _ _ _
    (λ e. let l : length (f s).state.rest < length s.rest = goes_on_shorter s (f s) e in ap (add (turn_of (f s))) (iter_same n m f (f s).state (omega arith) (omega arith)))

by_shape_same : {A : Type 0} (k : ℕ) (x y z : A) → y ≡ z → by_shape k x y ≡ by_shape k x z
by_shape_same k x y z e = ap (by_shape k x) e

pub links_same : (n m : ℕ) (f : State → Out) (l : ℕ) (a i : Skeleton) (s : State) → length s.rest < n → length s.rest < m → links n f l a i s ≡ links m f l a i s
unfolding links
links_same zero m f l a i s h g = absurd (not-suc-le-zero h)
links_same (suc n) zero f l a i s h g = absurd (not-suc-le-zero g)
links_same (suc n) (suc m) f l a i s h g =
    by_shape_same (f s).shape _ _ _
    (cond_same (goes_on s (f s)) _ _ _
    (λ e. let d : length (f s).state.rest < length s.rest = goes_on_shorter s (f s) e in links_same n m f _ _ done (f s).state (omega arith) (omega arith)))

-- ---------------------------------------------------------------- a loop, turn by turn

pub add_assoc : (o p q : Out) → add (add o p) q ≡ add o (add p q)
unfolding add
add_assoc o p q = rw join_assoc refl

-- a turn that goes on: the loop stands where the turn came to
pub iter_again : (f : State → Out) (s : State) → goes_on s (f s) ≡ true → iter (suc (length s.rest)) f s ≡ add (turn_of (f s)) (iter (suc (length (f s).state.rest)) f (f s).state)
unfolding iter makes
iter_again f s e =
    let l : length (f s).state.rest < length s.rest = goes_on_shorter s (f s) e in
    ap (λ (b : Bool). cond b (add (turn_of (f s)) (iter (length s.rest) f (f s).state)) (turn_of (f s))) e
    ∙ ap (add (turn_of (f s))) (iter_same (length s.rest) (suc (length (f s).state.rest)) f (f s).state l (omega arith))

-- the last turn
pub iter_last : (f : State → Out) (s : State) → goes_on s (f s) ≡ false → iter (suc (length s.rest)) f s ≡ turn_of (f s)
unfolding iter makes
iter_last f s e = ap (λ (b : Bool). cond b (add (turn_of (f s)) (iter (length s.rest) f (f s).state)) (turn_of (f s))) e
