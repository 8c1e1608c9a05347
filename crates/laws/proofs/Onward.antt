-- A run goes onward only: neither the cursor nor the mark ever goes back.
use Prim.Native.Nat.{ℕ, suc, ◌≤◌}
use native.Mathlib.Nat.{le_trans, le_refl}
use native.Mathlib.Omega.{arith}
use mathlib.Core.Path.{◌≡◌, ap}
use mathlib.Core.List.{◌++◌}
use lib.ListN.{length, length-append}
use Rattle.definitions.specs.Prog.{Rule, Prog}
use Rattle.definitions.specs.Skeleton.{Label, Skeleton}
use Rattle.definitions.specs.Run.{State, Out, mark_of, exec, run}
use Rattle.laws.proofs.Trivia.{passes_length}
use Rattle.laws.proofs.Kept.{Kept, Ran, run_kept, exec_kept}
use Rattle.laws.proofs.Marks.{stands_within}

-- from s to u
pub record Onward (s : State) (p : Skeleton) (u : State) : Type 0 where
  pub rest : length u.rest ≤ length s.rest
  pub marks : mark_of u ≤ mark_of s

pub onward_kept : Kept Onward
onward_kept =
    record {
      pass = λ s ts h p. record { rest = passes_length s.rest ts p; marks = le_refl _ };
      expect = λ s k h. record { rest = le_refl _; marks = le_refl _ };
      token = λ s t ts h e d. let w : length s.rest ≤ mark_of s = stands_within s h in record { rest = omega (arith, ap length e); marks = omega (arith, ap length e) };
      name = λ s ks t raw ts h e d i.
          let w : length s.rest ≤ mark_of s = stands_within s h in
          let l : length s.rest ≡ suc (length (raw ++ ts)) = ap length e in
          record { rest = omega (arith, length-append raw ts); marks = omega (arith, length-append raw ts) };
      report = λ s m k l h d. record { rest = le_refl _; marks = le_refl _ };
      over = λ s h. record { rest = le_refl _; marks = le_refl _ };
      join = λ s u v p q f g. record { rest = le_trans g.rest f.rest; marks = le_trans g.marks f.marks };
      close = λ s u v k a i f g. record { rest = le_trans g.rest f.rest; marks = le_trans g.marks f.marks };
    }

-- of a run's result
abbrev pub Goes : State → Out → Type 0
Goes s o = Ran Onward onward_kept s o

-- every call
pub run_goes : (n : ℕ) (r : Rule) (s : State) → Goes s (run n r s)
run_goes n r s = run_kept Onward onward_kept n r s

-- every program, if the calls do
pub exec_goes : (ask : Rule → State → Out) → ((r : Rule) (s : State) → Goes s (ask r s)) → (b : Label) (p : Prog) (s : State) → Goes s (exec ask b p s)
exec_goes ask h b p s = exec_kept Onward onward_kept ask h b p s
