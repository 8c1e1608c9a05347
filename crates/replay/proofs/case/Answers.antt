-- What is left is a tail of what was, step by step.
use Rattle.cases.proofs.Tails.{on, past, by_drop}
use Rattle.replay.proofs.case.Goals as goal

pub returns-in_err-tokens : goal.returns-in_err-tokens
returns-in_err-tokens c = on (past _ c.until-name.ensures) (on c.read-head.ensures c.numbers.ensures.left)

pub returns-in_err-lent : goal.returns-in_err-lent
returns-in_err-lent c = on (past _ c.until-name.ensures) (on c.read-head.ensures (on c.numbers.ensures.left (on (by_drop 1 c.bytes.ensures.left) (by_drop _ c.bytes-bytes.ensures.left))))

pub returns : goal.returns
returns c = on (past _ c.until-name.ensures) (on c.read-head.ensures (on c.numbers.ensures.left (on (by_drop 1 c.bytes.ensures.left) (by_drop _ c.bytes-bytes.ensures.left))))
