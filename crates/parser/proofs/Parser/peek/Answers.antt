use Rattle.std.proofs.Common.{refl}
use Rattle.basics.proofs.Flags.{flags}
use Rattle.machine.specs.Machine as M
use Rattle.parser.specs.View.{view, tokens_left}
use Rattle.parser.proofs.Parser.peek.Goals as goal

pub returns : goal.returns
unfolding M.peek tokens_left
returns c =
    record {
      is = c.skip_trivia-seat.ensures.m_value (view c.args.self.now);
      same = record { tokens = refl; events = refl; reports = refl; pool = refl };
      left = omega (flags, c.skip_trivia-seat.ensures.from_le_at);
    }
