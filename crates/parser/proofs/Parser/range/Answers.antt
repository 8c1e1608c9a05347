use Rattle.std.proofs.Common.{refl}
use Rattle.parser.specs.View.{view}
use Rattle.parser.proofs.Moves.{range_rows}
use Rattle.parser.proofs.Parser.range.Goals as goal

pub returns : goal.returns
returns c = range_rows _ (view c.args.self.now) _ (c.end_at.ensures (view c.args.self.now) refl)
