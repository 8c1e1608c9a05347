-- A program that completes no marker around it leaves the marker's shape alone.
use Prim.Native.Nat.{zero, suc}
use mathlib.Core.Path.{◌≡◌, refl}
use mathlib.Core.Bool.{true, false≢true}
use lib.ListN.{length}
use Rattle.definitions.specs.Prog.{choose, Ans, no, yes, also, again, Rule, Prog, ret, act, ◌⨟◌, case, in_marker, loop, chain, brace, open_call}
use Rattle.definitions.specs.Skeleton.{Label}
use Rattle.definitions.specs.Run.{State, Out, makes, add, marked, here, exec}
use Rattle.basics.proofs.Tests.{and_left, and_right}
use Rattle.laws.proofs.Shape.{iter_shape, chained_shape}
use Rattle.brackets.proofs.Look.{shapeless}
use Rattle.brackets.proofs.Actions.{act_shape}

module _ (ask : Rule → State → Out) (plain : (r : Rule) (s : State) → (ask r s).shape ≡ 0) where
  -- a program that completes no marker around
  pub exec_shape : (b : Label) (p : Prog) (s : State) → shapeless p ≡ true → (exec ask b p s).shape ≡ 0
  unfolding exec shapeless add marked makes choose
  exec_shape b (ret zero a) s e = refl
  exec_shape b (ret (suc k) a) s e = absurd (false≢true e)
  exec_shape b (act a) s e = act_shape b a s
  exec_shape b (p ⨟ q) s e = exec_shape b q (exec ask b p s).state e
  exec_shape b (case c n y a) s e =
      let u = (exec ask b c s).state in
      let e₁ = and_right (shapeless n) _ e in
      go (exec ask b c s).ans (exec_shape b n u (and_left (shapeless n) _ e)) (exec_shape b y u (and_left (shapeless y) _ e₁)) (exec_shape b a u (and_right (shapeless y) _ e₁))
    where
      go : (x : Ans) → (exec ask b n (exec ask b c s).state).shape ≡ 0 → (exec ask b y (exec ask b c s).state).shape ≡ 0 → (exec ask b a (exec ask b c s).state).shape ≡ 0
          → (choose x (exec ask b n) (exec ask b y) (exec ask b a) (exec ask b c s).state).shape ≡ 0
      go no p q r = p
      go yes p q r = q
      go also p q r = r
      go again p q r = q
  exec_shape b (in_marker p) s e = refl
  exec_shape b (loop p) s e = iter_shape (suc (length s.rest)) (exec ask b p) s
  exec_shape b (chain p q) s e = chained_shape (exec ask b q) s (exec ask b p s)
  exec_shape b (brace p) s e = exec_shape (here s.rest) p s e
  exec_shape b (open_call r) s e = plain r s
