-- `judge_node`: what is done inside; nothing of a DtPhandle with an LCurly.
use Rattle.std.proofs.Common.{◌≡◌, arith, drop}
use Rattle.std.proofs.lemmas.Grind.{common_steps}
use Rattle.definitions.specs.Token.{tokens_of}
use Rattle.labels.specs.Model.{out, shown, node_on}
use Rattle.labels.proofs.RoomAlone.{node_alone}
use Rattle.labels.proofs.run.Run.judge_node.Goals as goal

pub returns-then-walk : goal.returns-then-walk
unfolding node_on
returns-then-walk c =
    let run = c.args.self.now in
    let all : out c.args.names c.inside-walk.new.reports ≡ node_on run.bytes.now (tokens_of run.tokens.now) run.first c.args.kind (drop c.args.from (shown run.events.now)) c.args.seat (out c.args.names c.args.reports.now) = grind (arith, common_steps) in
    record { judged = all; room_alone = node_alone run.bytes.now (tokens_of run.tokens.now) run.first c.args.kind (drop c.args.from (shown run.events.now)) c.args.seat c.args.names c.args.names c.args.reports.now c.inside-walk.new.reports all }

pub returns-else-kind-eq-DT_PHANDLE : goal.returns-else-kind-eq-DT_PHANDLE
unfolding node_on
returns-else-kind-eq-DT_PHANDLE c =
    let run = c.args.self.now in
    let all : out c.inside-walk.result.names c.inside-walk.new.reports ≡ node_on run.bytes.now (tokens_of run.tokens.now) run.first c.args.kind (drop c.args.from (shown run.events.now)) c.args.seat (out c.args.names c.args.reports.now) = grind (arith, common_steps) in
    record { judged = all; room_alone = node_alone run.bytes.now (tokens_of run.tokens.now) run.first c.args.kind (drop c.args.from (shown run.events.now)) c.args.seat c.args.names c.inside-walk.result.names c.args.reports.now c.inside-walk.new.reports all }
