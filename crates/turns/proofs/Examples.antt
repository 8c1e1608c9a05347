-- The statement's definitions, computed: runs that come to what it speaks of, and steps that it refuses.
use Prim.Native.Nat.{ℕ, zero, suc, ◌+◌, ◌<◌}
use native.Mathlib.Omega.{arith}
use mathlib.Core.Path.{◌≡◌, refl}
use mathlib.Core.Bool.{Bool, true, false, true≢false, false≢true}
use mathlib.Core.List.{List, [], ◌∷◌}
use Rattle.definitions.specs.TokenKind as K
use Rattle.definitions.specs.NodeKind as N
use Rattle.definitions.specs.Token.{Token, drop_trivia, first_in}
use Rattle.definitions.specs.Prog.{no, yes, again, bump, bump_name, Prog, ret, act, loop}
use Rattle.definitions.specs.Check.{when◌then◌else◌, of_kind, eat}
use Rattle.definitions.specs.Grammar.{SourceFile, PropValues, Cells, macro_invocation, dt_expr, dt_cell_list, dt_node_body, dt_property}
use Rattle.definitions.specs.Skeleton.{done, no_label}
use Rattle.definitions.specs.Run.{State, taken, peeked, is_again, run}
use Rattle.run_steps.specs.Steps.{Step, begun, branched, turned, linked, spent, exceeded, EveryStep, entry_steps, steps, run_steps}
use Rattle.turns.specs.Turns.{Moves, Answers, Takes, assigned, Asserted}

abbrev tok : ℕ → Token
tok k = record { kind = k; len = 1 }

-- ---------------------------------------------------------------- runs

-- how many turns and links of a run answer again
on_again : Bool → ℕ
on_again true = 1
on_again false = 0

turns_again : List Step → ℕ
turns_again [] = 0
turns_again (begun p s ∷ l) = turns_again l
turns_again (branched a ∷ l) = turns_again l
turns_again (turned s o ∷ l) = on_again (is_again o.ans) + turns_again l
turns_again (linked s o ∷ l) = turns_again l
turns_again (spent ∷ l) = turns_again l
turns_again (exceeded ∷ l) = turns_again l

links_again : List Step → ℕ
links_again [] = 0
links_again (begun p s ∷ l) = links_again l
links_again (branched a ∷ l) = links_again l
links_again (turned s o ∷ l) = links_again l
links_again (linked s o ∷ l) = on_again (is_again o.ans) + links_again l
links_again (spent ∷ l) = links_again l
links_again (exceeded ∷ l) = links_again l

-- `1 2 3`, as cells: three turns go on
three_cells : turns_again (entry_steps Cells (tok K.Number ∷ tok K.Number ∷ tok K.Number ∷ [])) ≡ 3
unfolding turns_again on_again entry_steps is_again
three_cells = refl

-- `(1+2*3)`: two links go on
two_links : links_again (entry_steps Cells (tok K.LParen ∷ tok K.Number ∷ tok K.Plus ∷ tok K.Number ∷ tok K.Asterisk ∷ tok K.Number ∷ tok K.RParen ∷ [])) ≡ 2
unfolding links_again on_again entry_steps is_again
two_links = refl

-- ---------------------------------------------------------------- programs that assert

-- the part of `dt_property` after its `if`
its_value : dt_property ≡ (when eat (of_kind K.Semicolon) then ret N.DtProperty yes else assigned)
unfolding dt_property assigned
its_value = refl

-- the program that a step begins
program : Step → Prog
program (begun p s) = p
program (branched a) = ret 0 no
program (turned s o) = ret 0 no
program (linked s o) = ret 0 no
program spent = ret 0 no
program exceeded = ret 0 no

program_at : ℕ → List Step → Prog
unfolding program
program_at n [] = ret 0 no
program_at zero (x ∷ l) = program x
program_at (suc n) (x ∷ l) = program_at n l

-- runs come to each of the five: `M`, `(`, `<`, `a=`, `{`
a_macro : program_at 16 (entry_steps Cells (tok K.Ident ∷ [])) ≡ macro_invocation
unfolding program_at entry_steps
a_macro = refl

a_bracket : program_at 25 (entry_steps Cells (tok K.LParen ∷ [])) ≡ dt_expr
unfolding program_at entry_steps
a_bracket = refl

a_cell_list : program_at 22 (entry_steps PropValues (tok K.LAngle ∷ [])) ≡ dt_cell_list
unfolding program_at entry_steps
a_cell_list = refl

a_value : program_at 87 (entry_steps SourceFile (tok K.Ident ∷ tok K.Equals ∷ [])) ≡ assigned
unfolding program_at entry_steps assigned
a_value = refl

a_body : program_at 71 (entry_steps SourceFile (tok K.LCurly ∷ [])) ≡ dt_node_body
unfolding program_at entry_steps
a_body = refl

-- ---------------------------------------------------------------- steps that are refused

abbrev at_number : State
at_number = taken (tok K.Number ∷ [])

abbrev at_end : State
at_end = taken []

-- a program whose loop stalls: it would go round for ever
stalled : EveryStep Moves (steps (run 64) (run_steps 64) no_label (loop (ret 0 again)) at_number) → ⊥
unfolding steps is_again
stalled h = not_less (h.1.1.0 refl)
  where
    not_less : 1 < 1 → ⊥
    not_less e = omega arith

-- no turn left
no_turn_left : Moves spent → ⊥
no_turn_left h = h

-- a link that moved and did not complete its marker
no_marker : Moves (linked at_number (record { ans = again; shape = 0; made = done; state = at_end })) → ⊥
unfolding is_again
no_marker h = not_less (h refl).1
  where
    not_less : 0 < 0 → ⊥
    not_less e = omega arith

-- a condition that answers again
asked_again : Answers (branched again) → ⊥
unfolding is_again
asked_again e = true≢false e

-- a token, or a name, taken at the end
taken_at_end : EveryStep Takes (steps (run 64) (run_steps 64) no_label (act bump) at_end) → ⊥
unfolding steps peeked drop_trivia
taken_at_end h = true≢false h.0

name_at_end : EveryStep Takes (steps (run 64) (run_steps 64) no_label (act (bump_name (K.Ident ∷ []))) at_end) → ⊥
unfolding steps peeked drop_trivia first_in
name_at_end h = false≢true h.0

-- a name that begins with another token
no_name : EveryStep Takes (steps (run 64) (run_steps 64) no_label (act (bump_name (K.Ident ∷ []))) at_number) → ⊥
unfolding steps peeked drop_trivia first_in
no_name h = false≢true h.0

-- an assertion that fails
not_a_bracket : Asserted dt_expr at_number → ⊥
unfolding peeked drop_trivia first_in
not_a_bracket h = false≢true (h.bracket refl)

not_a_value : Asserted assigned at_number → ⊥
unfolding peeked drop_trivia first_in
not_a_value h = false≢true (h.value refl)

not_a_macro : Asserted macro_invocation at_number → ⊥
unfolding peeked drop_trivia first_in
not_a_macro h = false≢true (h.macro refl)

not_a_cell_list : Asserted dt_cell_list at_number → ⊥
unfolding peeked drop_trivia first_in
not_a_cell_list h = false≢true (h.cells refl)

not_a_body : Asserted dt_node_body at_number → ⊥
unfolding peeked drop_trivia first_in
not_a_body h = false≢true (h.body refl)
