-- What the sink answers: how many tree rows and lexical errors it wrote, or that they do not fit.
use Rattle.std.specs.Prelude.{ℕ, Result, Ok, Err}
use Rattle.sink.specs.declared.Written.{Written}
use Rattle.sink.specs.declared.NoRoom.{NoRoom}

abbrev pub Sunk : Type 0
Sunk = Result Written NoRoom

abbrev pub written : ℕ → ℕ → Sunk
written rows errors = Ok (record { rows = rows; errors = errors })

abbrev pub no_room : Sunk
no_room = Err (record {})
