-- `in_label`: each byte is a letter, a digit or an underscore.
use Rattle.std.proofs.Common.{IsTrue, rules, ◌↔◌}
use Rattle.std.specs.List.{All}
use Rattle.labels.proofs.LabelBytes.{goes_on, all_in_label}
use Rattle.labels.proofs.rule.in_label.Goals as goal

pub returns : goal.returns
returns c =
    let each : IsTrue c.all.result ↔ All (λ byte. IsTrue (goes_on byte)) c.args.bytes.now = search rules in
    all_in_label c.args.bytes.now c.all.result each
