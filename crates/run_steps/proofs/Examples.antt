-- The signs of a run, computed: a report with its numbers, and refusal 5.
use mathlib.Core.Path.{◌≡◌, refl}
use mathlib.Core.List.{[], ◌∷◌}
use Rattle.definitions.specs.TokenKind as K
use Rattle.definitions.specs.Errors as E
use Rattle.definitions.specs.Prog.{item}
use Rattle.definitions.specs.Grammar.{SourceFile}
use Rattle.definitions.specs.Report.{pushes}
use Rattle.definitions.specs.Call.{run_entry}
use Rattle.definitions.specs.Run.{taken, run}
use Rattle.run_steps.specs.Steps.{run_steps, entry_steps}
use Rattle.run_steps.specs.Signs.{told, refused, signs, step_signs}

-- `}`: message 2 over its one byte, with nothing pending
stray : step_signs (entry_steps SourceFile (record { kind = K.RCurly; len = 1 } ∷ [])) ≡ told E.unmatched_rcurly E.no_hint 1 (record { from = 1; to = 0 }) [] ∷ []
unfolding step_signs entry_steps
stray = refl

stray_run : signs (pushes (run_entry SourceFile (record { kind = K.RCurly; len = 1 } ∷ []))) ≡ told E.unmatched_rcurly E.no_hint 1 (record { from = 1; to = 0 }) [] ∷ []
unfolding signs pushes run_entry
stray_run = refl

-- a call that is one too many
too_deep : step_signs (run_steps 0 item (taken [])) ≡ refused ∷ []
unfolding step_signs run_steps
too_deep = refl

too_deep_run : signs (pushes (run 0 item (taken [])).made) ≡ refused ∷ []
unfolding signs pushes run
too_deep_run = refl
