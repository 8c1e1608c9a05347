-- `all_nodes`: the events from here on are judged as all are.
use Rattle.std.proofs.Common.{◌≡◌, Err, sym, ◌∙◌, rules, arith}
use Rattle.definitions.specs.Token.{tokens_of}
use Rattle.labels.specs.Model.{shown}
use Rattle.labels.proofs.NodeToNode.{nodes_again, nodes_none, nodes_refused}
use Rattle.labels.proofs.run.Run.all_nodes.Goals as goal

pub returns-in_err-written : goal.returns-in_err-written
returns-in_err-written c =
    let run = c.args.self.now in
    let refused : c.from_residual.result ≡ Err c.in_err-written.field-0.0 = search rules in
    rw refused
    (sym (nodes_refused run.bytes.now (tokens_of run.tokens.now) run.first _ 0 _ _ _)
    ∙ sym (nodes_again run.bytes.now (tokens_of run.tokens.now) run.first (shown run.events.now) c.loop-found.from c.in-Ok.found c.loop-found.seat _ _ _ c.in-Ok.ensures.value c.solid_after-seat.ensures c.in_err-written.ensures.judged)
    ∙ c.loop-found.invariant.judged)

pub loop-found-preserved : goal.loop-found-preserved
loop-found-preserved c =
    let run = c.args.self.now in
    record {
      judged =
          sym (nodes_again run.bytes.now (tokens_of run.tokens.now) run.first (shown run.events.now) c.loop-found.from c.in-Ok.found c.loop-found.seat _ _ _ c.in-Ok.ensures.value c.solid_after-seat.ensures c.in_ok-written.ensures.judged)
          ∙ c.loop-found.invariant.judged;
      kept = omega (arith, c.judge_node.auto);
      inside = search (rules, c.in-Ok.ensures.further);
    }

pub returns : goal.returns
returns c =
    let run = c.args.self.now in
    sym (nodes_none run.bytes.now (tokens_of run.tokens.now) run.first (shown run.events.now) c.loop-found.from _ c.loop-found.seat _ (sym c.in_default.is ∙ c.next_judged.ensures.value))
    ∙ c.loop-found.invariant.judged
