-- `answer_text`: entries 1 to 4.
use Rattle.dt_parser.proofs.TextCalls.{known_entry}
use Rattle.dt_parser.proofs.text.answer_text.Goals as goal

pub returns-in-Some-clause-ended : goal.returns-in-Some-clause-ended
returns-in-Some-clause-ended c = known_entry c.in-Some.e _ _ _ _ _ _ c.in-Some.ensures c.parse_entry.ensures.ended
