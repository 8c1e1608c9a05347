-- THE MACHINE DOES WHAT THE DEFINITIONS SAY: one induction over programs, and one over the open calls left.
use Prim.Native.Nat.{ℕ, zero, suc}
use mathlib.Core.Path.{◌≡◌, sym, subst}
use mathlib.Core.Bool.{true}
use mathlib.Core.List.{[], ◌∷◌}
use lib.Dec.{ltb}
use Rattle.definitions.specs.Errors as E
use Rattle.definitions.specs.Token.{past, ended, first_in, byte_count}
use Rattle.definitions.specs.Skeleton.{Span, Label, no_label}
use Rattle.definitions.specs.Prog.{Rule, Act, silent_at, at_end, immediate, immediate_next, add_expected, bump, bump_name, bump_argument, emit, emit_unclosed, less, Prog, ret, act, ◌⨟◌, case, in_marker, loop, chain, brace, open_call}
use Rattle.definitions.specs.Grammar.{grammar}
use Rattle.definitions.specs.Run.{State, Out, replies, truth, here, perform, exec, run}
use Rattle.definitions.specs.Report.{reports}
use Rattle.laws.proofs.Engine.{only}
use Rattle.laws.proofs.Once.{any_kind, expects_codes, expects, grammar_expects}
use Rattle.basics.proofs.Tests.{and_left, and_right}
use Rattle.machine.specs.Machine.{Machine}
use Rattle.machine.specs.Walk.{Walked, walk, walk_rule}
use Rattle.machine.specs.Walk as W
use Rattle.machine.proofs.Image.{Ground}
use Rattle.machine.proofs.Sticky.{Sticks, s_walk, s_rule}
use Rattle.machine.proofs.Meets.{stand, Sim, Tracks}
use Rattle.machine.proofs.Taking.{peek_sim, here_sim, fixed_sim, over_sim, expected_sim, bump_sim, bump_name_sim}
use Rattle.machine.proofs.Emitting.{span_of, here_is, emit_sim}
use Rattle.machine.proofs.Arguments.{argument_sim}
use Rattle.machine.proofs.Sequences.{seq_sim, case_sim}
use Rattle.machine.proofs.Markers.{mark_sim}
use Rattle.machine.proofs.Loops.{loop_sim}
use Rattle.machine.proofs.Chains.{chain_sim}

-- a label, in the machine's numbers
abbrev pub lab : Ground → Label → Span
lab g b = span_of (byte_count g.tokens) b

pub act_sim : (g : Ground) (b : Label) (a : Act) → expects_codes a ≡ true → Tracks g (perform b a) (W.perform g.tokens (lab g b) a)
unfolding perform W.perform replies expects_codes
act_sim g b (silent_at ks) e = peek_sim g (λ l. truth (first_in ks l))
act_sim g b at_end e = peek_sim g (λ l. truth (ended l))
act_sim g b (immediate k) e = here_sim g (λ l. truth (first_in (k ∷ []) l))
act_sim g b (immediate_next k) e = here_sim g (λ l. truth (first_in (k ∷ []) (past l)))
act_sim g b (add_expected k) e = expected_sim g k e
act_sim g b bump e = bump_sim g
act_sim g b (bump_name ks) e = bump_name_sim g ks
act_sim g b bump_argument e = argument_sim g
act_sim g b (emit m h) e = emit_sim g m h no_label
act_sim g b emit_unclosed e = emit_sim g E.unclosed_node E.no_hint b
act_sim g b (less m n) e = fixed_sim g (truth (ltb m n)) 0

module _ (g : Ground) (ask : Rule → State → Out) (ask' : Rule → Machine → Walked) (calls : (r : Rule) → Tracks g (ask r) (ask' r)) (stuck : (r : Rule) → Sticks g.tokens (ask' r)) where
  sticks : (b : Span) (p : Prog) → Sticks g.tokens (walk ask' g.tokens b p)
  sticks b p r m q = s_walk g.tokens r ask' (λ c x h. stuck c r x h) b p m q

  pub exec_sim : (b : Label) (p : Prog) → only any_kind expects_codes p ≡ true → Tracks g (exec ask b p) (walk ask' g.tokens (lab g b) p)
  unfolding exec walk only
  exec_sim b (ret k a) e c s f i = fixed_sim g a k c s f i
  exec_sim b (act a) e c s f i = act_sim g b a e c s f i
  exec_sim b (p ⨟ q) e c s f i =
      seq_sim g c (exec ask b p s) (walk ask' g.tokens (lab g b) p (stand g c s)) (exec ask b q) (walk ask' g.tokens (lab g b) q) (exec_sim b p (and_left _ _ e) c s f i) (exec_sim b q (and_right (only any_kind expects_codes p) _ e)) (sticks (lab g b) q)
  exec_sim b (case x n y a) e c s f i =
      let e₁ = and_right (only any_kind expects_codes x) _ e in
      let e₂ = and_right (only any_kind expects_codes n) _ e₁ in
      case_sim g c (exec ask b x s) (walk ask' g.tokens (lab g b) x (stand g c s)) (exec ask b n) (exec ask b y) (exec ask b a)
      (walk ask' g.tokens (lab g b) n) (walk ask' g.tokens (lab g b) y) (walk ask' g.tokens (lab g b) a)
      (exec_sim b x (and_left _ _ e) c s f i) (exec_sim b n (and_left _ _ e₁)) (exec_sim b y (and_left _ _ e₂)) (exec_sim b a (and_right (only any_kind expects_codes y) _ e₂)) (sticks (lab g b) n) (sticks (lab g b) y) (sticks (lab g b) a)
  exec_sim b (in_marker p) e c s f i = mark_sim g (exec ask b p) (walk ask' g.tokens (lab g b) p) (exec_sim b p e) (sticks (lab g b) p) c s f i
  exec_sim b (loop p) e c s f i = loop_sim g (exec ask b p) (walk ask' g.tokens (lab g b) p) (exec_sim b p e) (sticks (lab g b) p) c s f i
  exec_sim b (chain p q) e c s f i =
      chain_sim g (exec ask b q) (exec ask b p) (walk ask' g.tokens (lab g b) q) (walk ask' g.tokens (lab g b) p) (exec_sim b q (and_right (only any_kind expects_codes p) _ e)) (sticks (lab g b) q) (exec_sim b p (and_left _ _ e)) (sticks (lab g b) p) c s f i
  exec_sim b (brace p) e c s f i =
      subst (λ (x : Span). Sim g c (exec ask (here s.rest) p s) (walk ask' g.tokens x p (stand g c s))) (sym (here_is g c.numbers (reports c.pushed) s i)) (exec_sim (here s.rest) p e c s f i)
  exec_sim b (open_call r) e c s f i = calls r c s f i

-- a rule, with any number of open calls left
pub run_sim : (g : Ground) (n : ℕ) (r : Rule) → Tracks g (run n r) (walk_rule n g.tokens r)
unfolding run walk_rule expects
run_sim g zero r c s f i = over_sim g c s f i
run_sim g (suc n) r c s f i = exec_sim g (run n) (walk_rule n g.tokens) (run_sim g n) (λ x q m h. s_rule g.tokens q n x m h) no_label (grammar r) (grammar_expects r) c s f i

-- a program, with any number of open calls left
pub prog_sim : (g : Ground) (n : ℕ) (b : Label) (p : Prog) → expects p ≡ true → Tracks g (exec (run n) b p) (W.walk_prog n g.tokens (lab g b) p)
unfolding W.walk_prog expects
prog_sim g n b p e = exec_sim g (run n) (walk_rule n g.tokens) (run_sim g n) (λ x q m h. s_rule g.tokens q n x m h) b p e
