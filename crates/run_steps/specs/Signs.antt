-- THE STEPS LEAVE NOTHING OUT: each report of a run, and each refusal 5, is one of its steps, in order. So a statement
-- about every step (specs/Steps.antt) speaks of every report, at the state at which it is made.
use Rattle.std.specs.Prelude.{◌≡◌, List, [], ◌∷◌, ◌++◌, ℕ}
use Rattle.definitions.specs.Errors as E
use Rattle.definitions.specs.Token.{Token}
use Rattle.definitions.specs.Prog.{Act, silent_at, at_end, immediate, immediate_next, add_expected, bump, bump_name, bump_argument, emit, emit_unclosed, less, Prog, ret, act, ◌⨟◌, case, in_marker, loop, chain, brace, open_call}
use Rattle.definitions.specs.Grammar.{Entry}
use Rattle.definitions.specs.Skeleton.{Span}
use Rattle.definitions.specs.Run.{State, mark_of, peeked, error_range, pool_of}
use Rattle.definitions.specs.Report.{Push, event, reported, exceeded, pushes}
use Rattle.definitions.specs.Call.{run_entry}
use Rattle.run_steps.specs.Steps.{Step, begun, branched, turned, linked, spent, entry_steps}
use Rattle.run_steps.specs.Steps as Steps

-- a report, but for its label; and refusal 5
pub data Sign : Type 0 where
  told : ℕ → ℕ → ℕ → Span → List ℕ → Sign
  refused : Sign

-- those among what a run pushes
unfoldable pub signs : List Push → List Sign
signs [] = []
signs (event m ∷ l) = signs l
signs (reported r ∷ l) = told r.message r.hint r.mark r.range r.pool ∷ signs l
signs (exceeded m ∷ l) = refused ∷ signs l

-- a report with a message and a hint that is made at a state
abbrev pub told_at : ℕ → ℕ → State → List Sign
told_at m h s = told m h (mark_of s) (error_range s s.rest) (pool_of m s.pending) ∷ []

-- and those among its steps
unfoldable pub act_signs : Act → State → List Sign
act_signs (silent_at ks) s = []
act_signs at_end s = []
act_signs (immediate k) s = []
act_signs (immediate_next k) s = []
act_signs (add_expected k) s = []
act_signs bump s = []
act_signs (bump_name ks) s = []
act_signs bump_argument s = []
act_signs (emit m h) s = told_at m h (peeked s)
act_signs emit_unclosed s = told_at E.unclosed_node E.no_hint (peeked s)
act_signs (less m n) s = []

unfoldable pub program_signs : Prog → State → List Sign
unfolding act_signs
program_signs (ret k a) s = []
program_signs (act a) s = act_signs a s
program_signs (p ⨟ q) s = []
program_signs (case c n y a) s = []
program_signs (in_marker p) s = []
program_signs (loop p) s = []
program_signs (chain p q) s = []
program_signs (brace p) s = []
program_signs (open_call r) s = []

unfoldable pub step_signs : List Step → List Sign
unfolding program_signs
step_signs [] = []
step_signs (begun p s ∷ l) = program_signs p s ++ step_signs l
step_signs (branched a ∷ l) = step_signs l
step_signs (turned s o ∷ l) = step_signs l
step_signs (linked s o ∷ l) = step_signs l
step_signs (spent ∷ l) = step_signs l
step_signs (Steps.exceeded ∷ l) = refused ∷ step_signs l

abbrev pub Complete : Type 0
Complete = (e : Entry) (ts : List Token) → step_signs (entry_steps e ts) ≡ signs (pushes (run_entry e ts))
