use Rattle.basics.proofs.Flags.{flags}
use Rattle.parser.specs.View.{tokens_left}
use Rattle.parser.proofs.Parser.has_token.Goals as goal

pub returns-clause-some : goal.returns-clause-some
unfolding tokens_left
returns-clause-some c = λ e. omega (flags, e)

pub returns-clause-none : goal.returns-clause-none
unfolding tokens_left
returns-clause-none c = λ e. omega (flags, e)
