use Rattle.definitions.specs.Check as C
use Rattle.parser.proofs.Ways.{walks, shown, yes_case, no_case, seq, stay}
use Rattle.parser.proofs.Parser.silent_eat.Goals as goal

pub returns-then-matched-clause-walks : goal.returns-then-matched-clause-walks
unfolding C.silent_eat
returns-then-matched-clause-walks g c =
    walks (λ ask b. shown c.if-matched.true (yes_case (c.silent-matched.ensures.walks.way ask b) c.if-matched.true (seq (c.consume.ensures.walks.way ask b) stay)))

pub returns-else-matched-clause-walks : goal.returns-else-matched-clause-walks
unfolding C.silent_eat
returns-else-matched-clause-walks g c =
    walks (λ ask b. shown c.if-matched.false (no_case (c.silent-matched.ensures.walks.way ask b) c.if-matched.false stay))
