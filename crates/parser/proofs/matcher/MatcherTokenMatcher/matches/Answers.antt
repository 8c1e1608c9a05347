use Rattle.parser.proofs.Matching.{walks_matched}
use Rattle.parser.proofs.matcher.MatcherTokenMatcher.matches.Goals as goal

pub returns-clause-walks : goal.returns-clause-walks
returns-clause-walks c = walks_matched _ _ _ _ c.peek.ensures c.is_matched.ensures.value
