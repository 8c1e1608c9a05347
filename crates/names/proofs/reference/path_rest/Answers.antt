use Rattle.parser.proofs.Ways.{walks_on, ends_opened, ends, seq}
use Rattle.names.proofs.Opened.{path_rest_is}
use Rattle.names.proofs.reference.path_rest.Goals as goal

pub returns : goal.returns
returns c = walks_on (λ ask b. ends_opened path_rest_is (ends (seq (c.path_segments.ensures.way ask b) (c.expect.ensures.walks.way ask b))))
