-- `run_entry`: the entry and what it leaves over, from a fresh parser.
use Rattle.std.proofs.Common.{rules}
use mathlib.Core.Path.{ap, sym, subst, ◌∙◌}
use Rattle.definitions.specs.Grammar.{whole}
use Rattle.machine.specs.Machine.{Machine, Pending, with_pending}
use Rattle.machine.specs.Walk.{walk_prog, walk, walk_rule, unlabelled}
use Rattle.machine.specs.Outcome.{fresh}
use Rattle.definitions.specs.Layout.{MOST_OPEN_CALLS}
use Rattle.definitions.specs.Token.{tokens_of}
use Rattle.grammar.specs.Subprograms.{entry_for}
use Rattle.grammar.specs.Runs.{MayRefuse}
use Rattle.grammar.proofs.Causes.{run_may_refuse}
use Rattle.parser.proofs.Ways.{seq, ends, lands}
use Rattle.grammar.proofs.entry.run_entry.Goals as goal

pub returns : goal.returns
unfolding whole walk_prog
returns c =
    let w = ends (seq (lands c.enter.ensures) (c.left_over.ensures.way _ _)) in
    let ts = tokens_of c.args.tokens.now in
    let f = fresh c.args.events.now c.args.reports.now c.args.pool.now in
    let e = w.is ∙ ap (λ (x : Pending). (walk (walk_rule MOST_OPEN_CALLS ts) ts unlabelled (whole (entry_for c.args.entrypoint)) (with_pending x f)).on) c.none.ensures in
    record {
      ran =
          record {
            cursor = ap (λ (m : Machine). m.cursor) e;
            byte = ap (λ (m : Machine). m.byte) e;
            mark = ap (λ (m : Machine). m.mark) e;
            mark_byte = ap (λ (m : Machine). m.mark_byte) e;
            pending = ap (λ (m : Machine). m.pending) e;
            events = search (rules, ap (λ (m : Machine). m.events) e);
            reports = search (rules, ap (λ (m : Machine). m.reports) e);
            pool = search (rules, ap (λ (m : Machine). m.pool) e);
            refusal = ap (λ (m : Machine). m.refusal) e;
            place = ap (λ (m : Machine). m.place) e;
          };
      cause = subst (λ (m : Machine). MayRefuse m.refusal m.place) (sym e) (run_may_refuse (entry_for c.args.entrypoint) c.args.tokens.now c.args.events.now c.args.reports.now c.args.pool.now);
    }
