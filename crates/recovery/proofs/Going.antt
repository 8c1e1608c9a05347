-- What holds of every run: where it stands, that marks fall, what it takes, and that it goes onward only. And where
-- placing stands.
use Prim.Native.Nat.{ℕ}
use mathlib.Core.Path.{◌≡◌}
use mathlib.Core.List.{List}
use Rattle.definitions.specs.Token.{Token, drop_trivia}
use Rattle.definitions.specs.Prog.{yes, Prog, ret}
use Rattle.definitions.specs.Skeleton.{Label, no_label, Skeleton, done, ◌⧺◌}
use Rattle.definitions.specs.Run.{State, exec, run}
use Rattle.definitions.specs.Place.{after}
use Rattle.laws.proofs.Kept.{Stands, run_kept, exec_kept}
use Rattle.laws.proofs.Marks.{Down, marks_kept}
use Rattle.laws.proofs.Onward.{Onward, onward_kept}
use Rattle.laws.proofs.Between.{Taking, reads_kept}

-- what holds of every run
pub record Goes (s : State) (p : Skeleton) (u : State) : Type 0 where
  pub stands : Stands u
  pub down : Down s p u
  pub taking : Taking s p u
  pub onward : Onward s p u

pub goes_then : (s u v : State) (p q : Skeleton) → Goes s p u → Goes u q v → Goes s (p ⧺ q) v
goes_then s u v p q f g =
    record {
      stands = g.stands;
      down = marks_kept.join s u v p q f.down g.down;
      taking = reads_kept.join s u v p q f.taking g.taking;
      onward = onward_kept.join s u v p q f.onward g.onward;
    }

pub exec_goes : (n : ℕ) (b : Label) (p : Prog) (s : State) → Stands s → Goes s (exec (run n) b p s).made (exec (run n) b p s).state
exec_goes n b p s h =
    record {
      stands = (exec_kept Down marks_kept (run n) (run_kept Down marks_kept n) b p s h).0;
      down = (exec_kept Down marks_kept (run n) (run_kept Down marks_kept n) b p s h).1;
      taking = (exec_kept Taking reads_kept (run n) (run_kept Taking reads_kept n) b p s h).1;
      onward = (exec_kept Onward onward_kept (run n) (run_kept Onward onward_kept n) b p s h).1;
    }

pub goes_nowhere : (s : State) → Stands s → Goes s done s
unfolding exec
goes_nowhere s h = exec_goes 0 no_label (ret 0 yes) s h

-- what the state s has not taken is, trivia aside, ts
pub record At (s : State) (ts : List Token) : Type 0 where
  pub stands : Stands s
  pub same : drop_trivia ts ≡ drop_trivia s.since

pub at_after : (s u : State) (ts : List Token) (p : Skeleton) → At s ts → Goes s p u → At u (after p ts)
at_after s u ts p a g = record { stands = g.stands; same = g.taking.takes.leaves ts a.same }
