-- `push_report`: the row, if it fits and none before it did not.
use Rattle.std.proofs.Common.{◌≡◌, arith}
use Rattle.std.proofs.lemmas.Grind.{common_steps}
use Rattle.labels.specs.Model.{out, reported}
use Rattle.labels.proofs.RoomAlone.{report_alone}
use Rattle.labels.proofs.report.push_report.Goals as goal

pub returns-in_err-written : goal.returns-in_err-written
unfolding reported
returns-in_err-written c =
    let all : out _ _ ≡ reported c.args.from.byte c.args.end c.args.from.at c.args.first (out c.args.names c.args.reports.now) = grind (arith, common_steps) in
    record { pushed = all; room_alone = report_alone _ _ _ _ _ _ _ _ all }

pub returns-then-not-fits : goal.returns-then-not-fits
unfolding reported
returns-then-not-fits c =
    let all : out _ _ ≡ reported c.args.from.byte c.args.end c.args.from.at c.args.first (out c.args.names c.args.reports.now) = grind (arith, common_steps) in
    record { pushed = all; room_alone = report_alone _ _ _ _ _ _ _ _ all }

pub returns : goal.returns
unfolding reported
returns c =
    let all : out _ _ ≡ reported c.args.from.byte c.args.end c.args.from.at c.args.first (out c.args.names c.args.reports.now) = grind (arith, common_steps) in
    record { pushed = all; room_alone = report_alone _ _ _ _ _ _ _ _ all }
