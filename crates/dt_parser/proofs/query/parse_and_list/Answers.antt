-- `parse_and_list`: refused by the parse, or its list.
use Rattle.std.proofs.Common.{sym, ◌∙◌}
use Rattle.caret.specs.Asked.{query_of}
use Rattle.call.specs.Result.{held}
use Rattle.listing.specs.Listed.{ended}
use Rattle.listing.proofs.Ends.{walk_needs, parse_listed, parse_refused}
use Rattle.dt_parser.proofs.query.parse_and_list.Goals as goal

pub write_list-count-requires : goal.write_list-count-requires
write_list-count-requires c =
    let a = c.args in
    let p = c.parse-a in
    walk_needs (query_of a.query) a.input.setting a.input.bytes.now a.input.tokens.now (held a.buffers.now) a.list.now c.requires p.result (held p.new.buffers) p.ensures.parsed
    (sym c.is_accepted.ensures ∙ c.if-is_accepted.true) p.ensures.same.trees_length

pub returns-then-is_accepted-clause-ended : goal.returns-then-is_accepted-clause-ended
returns-then-is_accepted-clause-ended c =
    let a = c.args in
    let p = c.parse-a in
    let s = p.ensures.same in
    let l = c.write_list-count.ensures in
    parse_listed (query_of a.query) a.input.setting a.input.bytes.now a.input.tokens.now (held a.buffers.now) a.list.now c.requires p.result (held p.new.buffers) p.ensures.parsed
    (sym c.is_accepted.ensures ∙ c.if-is_accepted.true)
    (record { events = s.events_length; trees = s.trees_length; errors = s.errors_length; reports = s.reports_length; pool = s.pool_length }) _
    (c.finish.ensures.ended ∙ (λ i. ended p.result (l.value i) (l.list_after i) (held p.new.buffers)))

pub returns-clause-ended : goal.returns-clause-ended
returns-clause-ended c =
    let a = c.args in
    let p = c.parse-a in
    parse_refused (query_of a.query) a.input.setting a.input.bytes.now a.input.tokens.now (held a.buffers.now) a.list.now c.requires p.result (held p.new.buffers) p.ensures.parsed
    c.without_list.result c.clear.new.buffer (sym c.is_accepted.ensures ∙ c.if-is_accepted.false) c.without_list.ensures c.clear.ensures
