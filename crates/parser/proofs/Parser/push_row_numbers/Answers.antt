use Rattle.std.proofs.Common.{refl, sym, ◌∙◌}
use Rattle.basics.proofs.Flags.{flags}
use Rattle.parser.specs.View.{view, tokens_left}
use Rattle.parser.proofs.Stores.{row_pushed, row_refused}
use Rattle.parser.proofs.Parser.push_row_numbers.Goals as goal

pub returns-then-fits : goal.returns-then-fits
unfolding tokens_left
returns-then-fits c =
    record {
      is = row_pushed _ _ _ (view c.args.self.now) _ (sym c.fits.ensures.value ∙ c.if-fits.true) refl c.put_row.ensures;
      same = record { tokens = refl; events = refl; reports = refl; pool = refl };
      left = omega flags;
    }

pub returns-else-fits : goal.returns-else-fits
returns-else-fits c =
    record {
      is = row_refused _ _ (view c.args.self.now) _ (sym c.fits.ensures.value ∙ c.if-fits.false) c.refuse.ensures.becomes.is;
      same = c.refuse.ensures.becomes.same;
      left = c.refuse.ensures.becomes.left;
    }
