-- What `run_entry` leaves, by the machine that the entry's whole run comes to.
use Rattle.std.specs.Prelude.{ℕ, ◌≤◌, ◌<◌, List, ◌≡◌}
use Rattle.std.specs.Borrow.{Bor, MutBor}
use denote.Triple.Both.{Both}
use Rattle.definitions.specs.Layout.{MOST_OPEN_CALLS, TOO_DEEP, NO_REPORT_ROOM}
use Rattle.definitions.specs.Token.{tokens_of}
use Rattle.definitions.specs.Grammar.{Entry, whole}
use Rattle.machine.specs.Machine.{Machine}
use Rattle.machine.specs.Walk.{walk_prog, unlabelled}
use Rattle.machine.specs.Outcome.{fresh}
use Rattle.parser.specs.View.{pending_of}
use Rattle.grammar.specs.declared.entry.Run.{Run}

-- the machine after the run of an entry over these token numbers, in these buffers
abbrev pub run_of : Entry → List ℕ → List ℕ → List ℕ → List ℕ → Machine
run_of e tokens events reports pool =
    (walk_prog MOST_OPEN_CALLS (tokens_of tokens) unlabelled (whole e) (fresh events reports pool)).on

-- what is left is that machine, with all that it has: the answer, and the buffers after the call
pub record Leaves (m : Machine) (r : Run) (e t l : List ℕ) : Type 0 where
  pub cursor : r.cursor.0 ≡ m.cursor
  pub byte : r.byte.0 ≡ m.byte
  pub mark : r.mark.0 ≡ m.mark
  pub mark_byte : r.mark_byte.0 ≡ m.mark_byte
  pub pending : pending_of r.pending ≡ m.pending
  pub events : record { count = r.events_written; numbers = e } ≡ m.events
  pub reports : record { count = r.reports_written; numbers = t } ≡ m.reports
  pub pool : record { count = r.pool_written; numbers = l } ≡ m.pool
  pub refusal : r.refused.number ≡ m.refusal
  pub place : r.refused.place.0 ≡ m.place

abbrev pub Ran : Entry → Both (Bor (List ℕ)) (Bor (List ℕ)) → Both (MutBor (List ℕ)) (MutBor (List ℕ)) → Both (MutBor (List ℕ)) (MutBor (List ℕ)) → Both (MutBor (List ℕ)) (MutBor (List ℕ)) → Run → Type 0
Ran e tokens events reports pool r =
    Leaves (run_of e tokens.entry.now events.entry.now reports.entry.now pool.entry.now) r events.exit.now reports.exit.now pool.exit.now

-- the number and the place of what a run refuses: none, which is 0 at place 0, or one of 5 to 7
pub record MayRefuse (number place : ℕ) : Type 0 where
  pub none : number ≡ 0 → place ≡ 0
  pub least : 0 < number → TOO_DEEP ≤ number
  pub most : number ≤ NO_REPORT_ROOM
