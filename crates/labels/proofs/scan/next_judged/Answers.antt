-- `next_judged`: from this row on is found what is found from the first.
use Rattle.std.proofs.Common.{true, false, refl, rules, arith}
use Rattle.std.proofs.lemmas.Grind.{common_steps}
use Rattle.labels.proofs.NextJudged.{next_begin, next_token, next_name, next_other, next_found, next_end}
use Rattle.labels.proofs.scan.next_judged.Goals as goal
use Rattle.labels.proofs.scan.next_judged.Goals.{then-tag-eq-ADD_TOKEN, else-tag-eq-ADD_TOKEN+then-tag-eq-ADD_COMBINED_TOKEN, else-tag-eq-ADD_TOKEN+else-tag-eq-ADD_COMBINED_TOKEN+else-is_judged}

pub loop-i-init : goal.loop-i-init
loop-i-init c = record { same = next_begin c.args.events.now c.args.from; whole = omega arith; further = omega arith }

pub returns-then-is_start-clause-value : goal.returns-then-is_start-clause-value
returns-then-is_start-clause-value c =
    let h = c.loop-i.invariant in
    next_found c.args.events.now true c.loop-i.i c.loop-i.behind _ h.whole (omega arith) (search rules) (search rules) (grind (arith, common_steps)) refl h.same

pub loop-i-preserved : goal.loop-i-preserved
loop-i-preserved c =
    let events = c.args.events.now in
    let i = c.loop-i.i in
    let h = c.loop-i.invariant in
    record {
      same =
          elim c.if-tag-eq-ADD_TOKEN.branch [
            | then-tag-eq-ADD_TOKEN w ↦ next_token events i c.loop-i.behind _ _ h.whole (omega arith) (search rules) (search rules) h.same
            | else-tag-eq-ADD_TOKEN+then-tag-eq-ADD_COMBINED_TOKEN w ↦ next_name events i c.loop-i.behind _ _ h.whole (omega arith) (search rules) (search rules) (search rules) h.same
            | else-tag-eq-ADD_TOKEN+else-tag-eq-ADD_COMBINED_TOKEN+else-is_judged w ↦
                next_other events false i c.loop-i.behind _ _ h.whole (omega arith) (search rules) (search rules) (grind (arith, common_steps)) refl w.behind-is h.same
          ];
      whole = omega arith;
      further = omega arith;
    }

pub returns-clause-value : goal.returns-clause-value
returns-clause-value c = next_end c.args.events.now c.loop-i.i c.loop-i.behind _ (omega arith) c.loop-i.invariant.same
