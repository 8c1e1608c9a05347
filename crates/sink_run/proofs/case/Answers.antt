-- What is left is a tail of what was, step by step.
use Rattle.cases.proofs.Tails.{on, past}
use Rattle.sink_run.proofs.case.Goals as goal

pub returns-in_err-trees : goal.returns-in_err-trees
returns-in_err-trees c = on (past _ c.until-name.ensures) (on c.number-kind.ensures c.number_at_most.ensures.left)

pub returns-in_err-errors : goal.returns-in_err-errors
returns-in_err-errors c = on (past _ c.until-name.ensures) (on c.number-kind.ensures (on c.number_at_most.ensures.left c.number_at_most-2.ensures.left))

pub returns-in_err-tokens : goal.returns-in_err-tokens
returns-in_err-tokens c = on (past _ c.until-name.ensures) (on c.number-kind.ensures (on c.number_at_most.ensures.left (on c.number_at_most-2.ensures.left (on c.number_at_most-token_numbers.ensures.left (on c.number_at_most-event_numbers.ensures.left c.numbers.ensures.left)))))

pub returns-in_err-events : goal.returns-in_err-events
returns-in_err-events c = on (past _ c.until-name.ensures) (on c.number-kind.ensures (on c.number_at_most.ensures.left (on c.number_at_most-2.ensures.left (on c.number_at_most-token_numbers.ensures.left (on c.number_at_most-event_numbers.ensures.left (on c.numbers.ensures.left c.numbers-2.ensures.left))))))

pub returns-in_err-answer : goal.returns-in_err-answer
returns-in_err-answer c = on (past _ c.until-name.ensures) (on c.number-kind.ensures (on c.number_at_most.ensures.left (on c.number_at_most-2.ensures.left (on c.number_at_most-token_numbers.ensures.left (on c.number_at_most-event_numbers.ensures.left (on c.numbers.ensures.left (on c.numbers-2.ensures.left (past _ c.until.ensures))))))))

pub returns-in_err-tree : goal.returns-in_err-tree
returns-in_err-tree c = on (past _ c.until-name.ensures) (on c.number-kind.ensures (on c.number_at_most.ensures.left (on c.number_at_most-2.ensures.left (on c.number_at_most-token_numbers.ensures.left (on c.number_at_most-event_numbers.ensures.left (on c.numbers.ensures.left (on c.numbers-2.ensures.left (past _ c.until.ensures))))))))

pub returns : goal.returns
returns c = on (past _ c.until-name.ensures) (on c.number-kind.ensures (on c.number_at_most.ensures.left (on c.number_at_most-2.ensures.left (on c.number_at_most-token_numbers.ensures.left (on c.number_at_most-event_numbers.ensures.left (on c.numbers.ensures.left (on c.numbers-2.ensures.left (past _ c.until.ensures))))))))
