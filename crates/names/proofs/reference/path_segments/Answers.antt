use Rattle.basics.proofs.Flags.{flags}
use Rattle.parser.proofs.Ways.{walks, opened, yes_case, no_case, seq, lands, stay, turns, stops_yes}
use Rattle.names.proofs.Opened.{path_turn_is}
use Rattle.names.proofs.reference.path_segments.Goals as goal

pub loop-p-preserved : goal.loop-p-preserved
loop-p-preserved c = λ ask b.
    turns (c.loop-p.invariant ask b)
    (opened path_turn_is
    (yes_case (c.at_segment.ensures.walks.way ask b) c.loop-p-test.true
    (seq (seq (c.expect.ensures.walks.way ask b) (lands (c.path_segment.ensures.walks.way ask b))) stay)))
    (omega (flags, c.at_segment.ensures.some c.loop-p-test.true, c.at_segment.ensures.walks.left, c.expect.ensures.walks.left, c.path_segment.ensures.taken))

pub returns : goal.returns
returns c = walks (λ ask b. stops_yes (c.loop-p.invariant ask b) (opened path_turn_is (no_case (c.at_segment.ensures.walks.way ask b) c.loop-p-test.false stay)))
