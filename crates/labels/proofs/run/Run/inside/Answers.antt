-- `inside`: the events from here on do to this walk what all of them do to the first.
use Rattle.std.proofs.Common.{◌≡◌, true, false, sym, ◌∙◌, inl, inr, rules, arith}
use Rattle.definitions.specs.Token.{tokens_of}
use Rattle.labels.specs.declared.event.Event.TheVariants.{Finish}
use Rattle.labels.specs.Model.{ends}
use Rattle.labels.proofs.Inside.{inside_turn, inside_end, at_end, before_end, deeper}
use Rattle.labels.proofs.run.Run.inside.Goals as goal

pub returns-then-walk-eq0 : goal.returns-then-walk-eq0
returns-then-walk-eq0 c =
    let run = c.args.self.now in
    let finish : c.event_at-event.result ≡ Finish = search rules in
    let over : ends c.event_at-event.result c.loop-i.walk.depth ≡ true = at_end _ _ finish (omega arith) in
    sym (inside_turn run.bytes.now (tokens_of run.tokens.now) run.first run.events.now c.loop-i.i _ true c.loop-i.walk c.loop-i.reports (omega arith) c.event_at-event.ensures over)
    ∙ c.loop-i.invariant.walked

pub loop-i-preserved : goal.loop-i-preserved
loop-i-preserved c =
    let run = c.args.self.now in
    let not_both : c.event_at-event.result ≡ Finish → c.loop-i.walk.depth ≡ 0 → ⊥ = λ f z. elim c.else-eq.either [ inl h ↦ h.1 z | inr h ↦ search (rules, c.eq.ensures, f, h) ] in
    let under_way : ends c.event_at-event.result c.loop-i.walk.depth ≡ false = before_end _ _ not_both in
    record {
      walked =
          rw c.one_event.ensures
          (sym (inside_turn run.bytes.now (tokens_of run.tokens.now) run.first run.events.now c.loop-i.i _ false c.loop-i.walk c.loop-i.reports (omega arith) c.event_at-event.ensures under_way)
          ∙ c.loop-i.invariant.walked);
      kept = omega (arith, c.one_event.auto);
      shallow = omega (arith, deeper _ _ _ _ _ _ _ _ c.one_event.ensures);
    }

pub returns-after-loop-i : goal.returns-after-loop-i
returns-after-loop-i c =
    let run = c.args.self.now in
    sym (inside_end run.bytes.now (tokens_of run.tokens.now) run.first run.events.now c.loop-i.i _ (omega arith))
    ∙ c.loop-i.invariant.walked
