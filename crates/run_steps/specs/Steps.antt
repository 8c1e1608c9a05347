-- WHAT A RUN DOES, STEP BY STEP: each program that it begins and where, each answer that it branches on, each turn of a
-- loop and each link of a chain. With these a statement can speak of every step at which the definitions have a clause
-- that no run is to use.
use Rattle.std.specs.Prelude.{ℕ, zero, suc, cond, List, [], ◌∷◌, ◌++◌, length}
use Rattle.definitions.specs.Layout.{MOST_OPEN_CALLS}
use Rattle.definitions.specs.Token.{Token}
use Rattle.definitions.specs.Prog.{Ans, choose, Rule, Prog, ret, act, ◌⨟◌, case, in_marker, loop, chain, brace, open_call}
use Rattle.definitions.specs.Grammar.{grammar, Entry, whole}
use Rattle.definitions.specs.Skeleton.{Label, no_label}
use Rattle.definitions.specs.Run.{State, Out, taken, is_again, goes_on, by_shape, here, exec, run}

-- begun: a program begins at a state. branched: the condition of a `case` gave this answer.
-- turned: a turn of a loop, begun at the state, gave this. linked: the same of a link of a chain.
-- spent: a loop or a chain is to go on, and no turn is left of those that it may make (one more than tokens are left
-- when it begins).
-- exceeded: one open call too many. The run is refused here, with number 5.
pub data Step : Type 0 where
  begun : Prog → State → Step
  branched : Ans → Step
  turned : State → Out → Step
  linked : State → Out → Step
  spent : Step
  exceeded : Step

-- ---------------------------------------------------------------- the steps of a run

-- Clause by clause as `Run.exec`, `Run.iter`, `Run.links` and `Run.run`. f: what a turn does. g: its steps.
unfoldable pub iter_steps : ℕ → (State → Out) → (State → List Step) → State → List Step
unfolding goes_on
iter_steps zero f g s = spent ∷ []
iter_steps (suc n) f g s = g s ++ (turned s (f s) ∷ (let more = iter_steps n f g (f s).state in cond (goes_on s (f s)) more []))

unfoldable pub links_steps : ℕ → (State → Out) → (State → List Step) → State → List Step
unfolding goes_on by_shape
links_steps zero f g s = spent ∷ []
links_steps (suc n) f g s =
    g s ++ (linked s (f s) ∷ (let more = links_steps n f g (f s).state in by_shape (f s).shape []
    (cond (goes_on s (f s)) more [])))

-- ask: what a call does. in-call: its steps.
unfoldable pub steps : (Rule → State → Out) → (Rule → State → List Step) → Label → Prog → State → List Step
unfolding exec is_again choose iter_steps links_steps
steps ask in-call b (ret k a) s = begun (ret k a) s ∷ []
steps ask in-call b (act a) s = begun (act a) s ∷ []
steps ask in-call b (p ⨟ q) s = begun (p ⨟ q) s ∷ (steps ask in-call b p s ++ steps ask in-call b q (exec ask b p s).state)
steps ask in-call b (case c n y a) s =
    let o = exec ask b c s in
    begun (case c n y a) s
    ∷ (steps ask in-call b c s
    ++ (branched o.ans
    ∷ choose o.ans (steps ask in-call b n) (steps ask in-call b y) (steps ask in-call b a) o.state))
steps ask in-call b (in_marker p) s = begun (in_marker p) s ∷ steps ask in-call b p s
steps ask in-call b (loop p) s = begun (loop p) s ∷ iter_steps (suc (length s.rest)) (exec ask b p) (steps ask in-call b p) s
steps ask in-call b (chain p q) s =
    let o = exec ask b p s in
    begun (chain p q) s
    ∷ (steps ask in-call b p s ++ (let more = links_steps (suc (length o.state.rest)) (exec ask b q)
    (steps ask in-call b q) o.state in cond (is_again o.ans) more []))
steps ask in-call b (brace p) s = begun (brace p) s ∷ steps ask in-call (here s.rest) p s
steps ask in-call b (open_call r) s = begun (open_call r) s ∷ in-call r s

unfoldable pub run_steps : ℕ → Rule → State → List Step
unfolding run steps
run_steps zero r s = exceeded ∷ []
run_steps (suc n) r s = steps (run n) (run_steps n) no_label (grammar r) s

-- the steps of an entry's run (`Call.run_entry`)
unfoldable pub entry_steps : Entry → List Token → List Step
unfolding steps run run_steps whole
entry_steps e ts = steps (run MOST_OPEN_CALLS) (run_steps MOST_OPEN_CALLS) no_label (whole e) (taken ts)

-- every step that a run makes: up to refusal 5, if it meets it
abbrev pub EveryStep : (Step → Type 0) → List Step → Type 0
EveryStep P [] = Unit {0}
EveryStep P (begun p s ∷ l) = P (begun p s) × EveryStep P l
EveryStep P (branched a ∷ l) = P (branched a) × EveryStep P l
EveryStep P (turned s o ∷ l) = P (turned s o) × EveryStep P l
EveryStep P (linked s o ∷ l) = P (linked s o) × EveryStep P l
EveryStep P (spent ∷ l) = P spent × EveryStep P l
EveryStep P (exceeded ∷ l) = Unit {0}
