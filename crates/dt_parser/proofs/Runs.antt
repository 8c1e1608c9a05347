-- What a run leaves as the machine that `call` knows.
use mathlib.Core.Path.{◌≡◌, refl}
use mathlib.Core.List.{List}
use Prim.Native.Nat.{ℕ}
use mathlib.Core.Bool.{Bool, true, false}
use Rattle.std.specs.Prelude.{Option, None, Some, Ok, Err, cond, eqb}
use Rattle.machine.specs.Machine.{Machine}
use Rattle.call.specs.declared.outcome.Refusal.{Refusal}
use Rattle.grammar.specs.declared.entry.Run.{Run}
use Rattle.grammar.specs.Runs.{Leaves}
use Rattle.call.specs.Ended.{run_of, how_ended, unless}
use Rattle.dt_parser.specs.Asked.{ended_as, filled_by, stopped_by}

-- the machine with what is left
abbrev pub left : Machine → Run → List ℕ → List ℕ → List ℕ → Machine
left m r e t l =
    record m {
      events = record { count = r.events_written; numbers = e };
      reports = record { count = r.reports_written; numbers = t };
      pool = record { count = r.pool_written; numbers = l };
      refusal = r.refused.number;
      place = r.refused.place.0;
    }

pub left_is : (m : Machine) (r : Run) (e t l : List ℕ) → Leaves m r e t l → left m r e t l ≡ m
left_is m r e t l h =
    λ i. record m { events = h.events i; reports = h.reports i; pool = h.pool i; refusal = h.refusal i; place = h.place i }

-- why a run stopped, if it did
abbrev why : Run → Refusal
why r = record { number = r.refused.number; place = r.refused.place.0 }

pub run_ended : (m : Machine) (r : Run) (e t l : List ℕ) → run_of (left m r e t l) ≡ how_ended (ended_as r)
run_ended m r e t l = by_number (eqb r.refused.number 0)
  where
    by_number : (b : Bool) → cond b (Ok (filled_by r)) (Err (why r)) ≡ unless (cond b None (Some (why r))) (filled_by r)
    by_number true = refl
    by_number false = refl
