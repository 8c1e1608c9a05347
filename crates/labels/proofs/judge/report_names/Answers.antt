-- `report_names`: nothing in the old setting, else what the root's kind asks for.
use Rattle.std.proofs.Common.{arith}
use Rattle.std.proofs.lemmas.Grind.{common_steps}
use Rattle.definitions.specs.Token.{tokens_of}
use Rattle.labels.specs.Model.{names_on}
use Rattle.labels.proofs.Names.{with_promise}
use Rattle.labels.proofs.RoomAlone.{room_alone}
use Rattle.labels.proofs.judge.report_names.Goals as goal

pub returns-then-setting-eq-OLD : goal.returns-then-setting-eq-OLD
unfolding names_on
returns-then-setting-eq-OLD c =
    let all = with_promise c.args.setting c.args.root_kind c.args.bytes.now c.args.tokens.now c.args.written c.args.first c.args.events.now c.args.reports.now _ _ (grind (arith, common_steps)) in
    record { reports_after = all.0; promise = all.1; room_alone = room_alone c.args.setting c.args.root_kind c.args.bytes.now (tokens_of c.args.tokens.now) c.args.written c.args.first c.args.events.now c.args.reports.now _ _ all.0 }

pub returns : goal.returns
unfolding names_on
returns c =
    let all = with_promise c.args.setting c.args.root_kind c.args.bytes.now c.args.tokens.now c.args.written c.args.first c.args.events.now c.args.reports.now _ _ (grind (arith, common_steps)) in
    record { reports_after = all.0; promise = all.1; room_alone = room_alone c.args.setting c.args.root_kind c.args.bytes.now (tokens_of c.args.tokens.now) c.args.written c.args.first c.args.events.now c.args.reports.now _ _ all.0 }
