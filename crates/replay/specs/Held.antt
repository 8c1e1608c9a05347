-- What the lent buffers hold, in the terms of the definitions.
use Rattle.definitions.specs.Call as Call
use Rattle.call.specs.Result.{buffers_of}
use Rattle.cases.specs.declared.lend.Buffers.{Buffers}

abbrev pub held : Buffers → Call.Buffers
held b = buffers_of b.events.items b.trees.items b.errors.items b.reports.items b.pool.items
