-- `put`: both branches of the definition.
use borrow.Author.Tests.{lt-ltb, le-ltb}
use Rattle.lexer.specs.Found.{put_row}
use Rattle.lexer.proofs.rows.put.Goals as goal

pub returns-then-index-rows : goal.returns-then-index-rows
unfolding put_row
returns-then-index-rows c = rw (lt-ltb _ _ c.if-index-rows.true)

pub returns-else-index-rows : goal.returns-else-index-rows
unfolding put_row
returns-else-index-rows c = rw (le-ltb _ _ c.if-index-rows.false)
