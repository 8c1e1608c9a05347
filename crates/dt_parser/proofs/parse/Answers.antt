-- `parse`: the parse with what is done after it, by the crate `call`.
use mathlib.Core.Path.{ap, sym, ◌∙◌}
use Rattle.grammar.specs.Subprograms.{entry_for}
use Rattle.grammar.specs.Runs.{run_of}
use Rattle.call.specs.Result.{held}
use Rattle.call.specs.Ended.{how_ended}
use Rattle.call.proofs.Called.{events_inside, finished}
use Rattle.dt_parser.proofs.Runs.{left, left_is, run_ended}
use Rattle.dt_parser.proofs.parse.Goals as goal

pub outcome-requires : goal.outcome-requires
outcome-requires c =
    let a = c.args in
    let run = c.run_entry-run in
    let m = run_of (entry_for a.e) a.input.tokens.now a.buffers.now.events.now a.buffers.now.reports.now a.buffers.now.pool.now in
    let n = left m run.result run.new.events run.new.reports run.new.pool in
    rw (ap how_ended c.ended.ensures ∙ sym (run_ended m run.result run.new.events run.new.reports run.new.pool))
    (events_inside (entry_for a.e) a.input (held a.buffers.now) n c.requires (left_is m run.result _ _ _ run.ensures.ran) run.auto.events)

pub returns-clause-parsed : goal.returns-clause-parsed
returns-clause-parsed c =
    let a = c.args in
    let run = c.run_entry-run in
    let m = run_of (entry_for a.e) a.input.tokens.now a.buffers.now.events.now a.buffers.now.reports.now a.buffers.now.pool.now in
    let n = left m run.result run.new.events run.new.reports run.new.pool in
    let h = rw (c.root_kind.ensures, ap how_ended c.ended.ensures ∙ sym (run_ended m run.result run.new.events run.new.reports run.new.pool)) at c.outcome.ensures.ended in
    finished (entry_for a.e) a.input (held a.buffers.now) n c.requires (left_is m run.result _ _ _ run.ensures.ran) run.auto.events run.auto.reports run.auto.pool _ h
