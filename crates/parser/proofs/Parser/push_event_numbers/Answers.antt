use Rattle.std.proofs.Common.{refl, sym, ◌∙◌}
use Rattle.basics.proofs.Flags.{flags}
use Rattle.parser.specs.View.{view}
use Rattle.parser.proofs.Stores.{push_open, push_refused}
use Rattle.parser.proofs.Parser.push_event_numbers.Goals as goal

pub returns-then-is_open : goal.returns-then-is_open
returns-then-is_open c =
    record {
      is = push_open _ _ (view c.args.self.now) _ (sym c.is_open.ensures ∙ c.if-is_open.true) c.push_row_numbers.ensures.is;
      same = c.push_row_numbers.ensures.same;
      left = c.push_row_numbers.ensures.left;
    }

pub returns-else-is_open : goal.returns-else-is_open
returns-else-is_open c =
    record {
      is = push_refused _ _ _ (sym c.is_open.ensures ∙ c.if-is_open.false);
      same = record { tokens = refl; events = refl; reports = refl; pool = refl };
      left = omega flags;
    }
