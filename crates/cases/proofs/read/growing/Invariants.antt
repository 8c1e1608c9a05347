-- `growing`: the text is all that was read, and no more than the limit.
use Rattle.std.proofs.Common.{◌≡◌, ◌-◌, ◌≤◌, ◌<◌, length, vec_len}
use Rattle.std.specs.Io.KnownBytes.{Consumes}
use Rattle.cases.proofs.read.growing.Given as goal

abbrev pub invariant-loop-text : goal.invariant-loop-text
invariant-loop-text g l =
    (vec_len l.text ≤ l.most) × (0 < length l.offered)
    × Consumes (g.R.Read.remaining l.fn.input) (g.R.Read.remaining l.input) l.text.items

abbrev pub decreases-loop-text : goal.decreases-loop-text
decreases-loop-text g l = l.most - vec_len l.text
