-- `skip_trivia`: what is skipped from here is what is skipped from the start.
use Rattle.std.proofs.Common.{arith, rules, ◌∙◌}
use Rattle.token_rows.proofs.Seen.{skip_more, skip_solid, skip_none}
use Rattle.token_rows.proofs.token.skip_trivia.Goals as goal

pub loop-t-preserved : goal.loop-t-preserved
loop-t-preserved c = record {
  skipped = λ m. skip_more _ _ c.in-Some.t c.loop-t.seat.at c.loop-t.seat.byte c.in-Some.ensures.value c.if-is_trivia.ensures m ∙ c.loop-t.invariant.skipped m;
  onward = omega arith;
}

pub returns-in-loop-t-clause-m_value : goal.returns-in-loop-t-clause-m_value
returns-in-loop-t-clause-m_value c = λ m. skip_none _ _ (search rules) ∙ c.loop-t.invariant.skipped m

pub returns-else-is_trivia-clause-m_value : goal.returns-else-is_trivia-clause-m_value
returns-else-is_trivia-clause-m_value c = λ m. skip_solid _ _ c.in-Some.t _ c.in-Some.ensures.value c.if-is_trivia.ensures ∙ c.loop-t.invariant.skipped m
