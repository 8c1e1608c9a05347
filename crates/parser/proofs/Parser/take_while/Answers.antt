use Rattle.std.proofs.Common.{sym, ◌∙◌}
use Rattle.basics.proofs.Flags.{flags}
use Rattle.parser.specs.View.{view, rest}
use Rattle.parser.proofs.Moves.{stretch_more, name_done, in_rows}
use Rattle.parser.proofs.Parser.take_while.Goals as goal

pub loop-self-smaller : goal.loop-self-smaller
loop-self-smaller c = let h = in_rows c.loop-self.self (c.is_one_of_at.ensures.at_in_bounds c.loop-self-test.true) in omega (flags, h, c.next_token.ensures.taken)

pub loop-self-preserved : goal.loop-self-preserved
loop-self-preserved c =
    stretch_more _ _ _ _ c.loop-self.invariant (c.is_one_of_at.ensures.at_in_bounds c.loop-self-test.true)
    (sym c.is_one_of_at.ensures.value ∙ c.loop-self-test.true) c.next_token.ensures.becomes

pub returns : goal.returns
returns c =
    record {
      is = name_done _ (rest c.loop-self.self) (view c.loop-self.self) (sym c.is_one_of_at.ensures.value ∙ c.loop-self-test.false) ∙ c.loop-self.invariant.is;
      same = c.loop-self.invariant.same;
      left = c.loop-self.invariant.left;
    }
