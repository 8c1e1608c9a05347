-- What a run pushes, counted: its events, and whether refusal 5 is among what it pushes. Statements of other crates
-- cite these.
use Rattle.std.specs.Prelude.{ℕ, suc, List, [], ◌∷◌}
use Rattle.definitions.specs.Report.{Push, event, reported, exceeded}

-- how many events are pushed: an event is one, and so is a report's
unfoldable pub event_count : List Push → ℕ
event_count [] = 0
event_count (event m ∷ l) = suc (event_count l)
event_count (reported r ∷ l) = suc (event_count l)
event_count (exceeded m ∷ l) = event_count l

-- no 65th open call among what is pushed
abbrev pub NoneExceeded : List Push → Type 0
NoneExceeded [] = Unit {0}
NoneExceeded (event m ∷ l) = NoneExceeded l
NoneExceeded (reported r ∷ l) = NoneExceeded l
NoneExceeded (exceeded m ∷ l) = ⊥
