use Rattle.parser.proofs.Ways.{walks, seq, stay}
use Rattle.parser.proofs.matcher.MatcherTokenMatcher.push_expected.Goals as goal

pub returns-in-Either : goal.returns-in-Either
returns-in-Either c =
    rw c.in-Either.is
    (walks (λ ask b. seq (c.add_expected-in-Either.ensures.way ask b) (seq (c.add_expected-in-Either-2.ensures.way ask b) stay)))
