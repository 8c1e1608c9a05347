-- What is shown of each step of a run, and how it is put together.
use Prim.Native.Nat.{◌<◌}
use mathlib.Core.Path.{◌≡◌}
use mathlib.Core.Bool.{true, false}
use mathlib.Core.List.{List, [], ◌∷◌, ◌++◌}
use lib.ListN.{length}
use Rattle.definitions.specs.Prog.{Prog}
use Rattle.definitions.specs.Run.{State, Out, add, is_again}
use Rattle.run_steps.specs.Steps.{Step, begun, branched, turned, linked, spent, exceeded, EveryStep}
use Rattle.facts.proofs.Facts.{Fact}
use Rattle.facts.proofs.May.{may_begin}
use Rattle.facts.proofs.Look.{Look, get}
use Rattle.facts.proofs.Holds.{Holds}

-- a program begins where it may
pub record Begun (p : Prog) (s : State) : Type 0 where
  pub known : Fact
  pub turn : State
  pub may : may_begin p known ≡ true
  pub holds : Holds known turn s

-- A condition does not answer again. A turn that answers again has moved the cursor, and a link that does has shaped
-- its marker.
-- No loop and no chain runs out of turns.
abbrev pub Good : Step → Type 0
Good (begun p s) = Begun p s
Good (branched a) = is_again a ≡ false
Good (turned s o) = is_again o.ans ≡ true → length o.state.rest < length s.rest
Good (linked s o) = is_again o.ans ≡ true → (length o.state.rest < length s.rest) × (0 < o.shape)
Good spent = ⊥
Good exceeded = Unit {0}

-- no refusal 5 among the steps
abbrev pub Free : List Step → Type 0
Free [] = Unit {0}
Free (begun p s ∷ l) = Free l
Free (branched a ∷ l) = Free l
Free (turned s o ∷ l) = Free l
Free (linked s o ∷ l) = Free l
Free (spent ∷ l) = Free l
Free (exceeded ∷ l) = ⊥

pub each_append : (P : Step → Type 0) (l m : List Step) → EveryStep P l → (Free l → EveryStep P m) → EveryStep P (l ++ m)
each_append P [] m h g = g tt
each_append P (begun p s ∷ l) m h g = (h.0, each_append P l m h.1 g)
each_append P (branched a ∷ l) m h g = (h.0, each_append P l m h.1 g)
each_append P (turned s o ∷ l) m h g = (h.0, each_append P l m h.1 g)
each_append P (linked s o ∷ l) m h g = (h.0, each_append P l m h.1 g)
each_append P (spent ∷ l) m h g = (h.0, each_append P l m h.1 g)
each_append P (exceeded ∷ l) m h g = tt

pub free_append : (l m : List Step) → Free (l ++ m) → Free l × Free m
free_append [] m h = (tt, h)
free_append (begun p s ∷ l) m h = free_append l m h
free_append (branched a ∷ l) m h = free_append l m h
free_append (turned s o ∷ l) m h = free_append l m h
free_append (linked s o ∷ l) m h = free_append l m h
free_append (spent ∷ l) m h = free_append l m h
free_append (exceeded ∷ l) m h = absurd h

-- what a look says of a run's result and of its steps
pub record Gives (l : Look) (s₀ : State) (o : Out) (ss : List Step) : Type 0 where
  pub each : EveryStep Good ss
  pub facts : Free ss → Holds (get l o.ans o.shape) s₀ o.state

abbrev pub Sound : (Fact → Look) → (State → Out) → (State → List Step) → Type 0
Sound f G T = (d : Fact) (s₀ s : State) → (f d).ok ≡ true → Holds d s₀ s → Gives (f d) s₀ (G s) (T s)

-- another look at the same
pub gives_by : (l m : Look) (s₀ : State) (o : Out) (ss : List Step) → (Holds (get l o.ans o.shape) s₀ o.state → Holds (get m o.ans o.shape) s₀ o.state) → Gives l s₀ o ss → Gives m s₀ o ss
gives_by l m s₀ o ss p g = record { each = g.each; facts = λ f. p (g.facts f) }

-- the program's own step first
pub gives_begun : (p : Prog) (d : Fact) (s₀ s : State) (l : Look) (o : Out) (ss : List Step) → may_begin p d ≡ true → Holds d s₀ s → Gives l s₀ o ss → Gives l s₀ o (begun p s ∷ ss)
gives_begun p d s₀ s l o ss m h g = record { each = (record { known = d; turn = s₀; may = m; holds = h }, g.each); facts = λ f. g.facts f }

-- one run after another
pub gives_add : (l m : Look) (s₀ : State) (o x : Out) (ss us : List Step) → Gives l s₀ o ss → (Holds (get l o.ans o.shape) s₀ o.state → Gives m s₀ x us) → Gives m s₀ (add o x) (ss ++ us)
unfolding add
gives_add l m s₀ o x ss us g k =
    record {
      each = each_append Good ss us g.each (λ f. (k (g.facts f)).each);
      facts = λ f. let w : Free ss × Free us = free_append ss us f in (k (g.facts w.0)).facts w.1;
    }
