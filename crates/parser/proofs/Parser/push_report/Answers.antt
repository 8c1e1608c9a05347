-- `push_report`: the row and its codes, or refusal 7.
use Rattle.std.proofs.Common.{◌≡◌, refl, sym, ◌∙◌, ap, true, false, length}
use Rattle.std.specs.Prelude.{◌&&◌}
use Rattle.basics.proofs.Flags.{flags}
use Rattle.std.proofs.lemmas.List.Edits.{sets}
use Rattle.layout.specs.Numbers.{message_number}
use Rattle.machine.specs.Machine.{fits}
use Rattle.parser.specs.View.{view, hint_of, span_of, tokens_left}
use Rattle.parser.proofs.Reports.{report_off, report_fits, report_full}
use Rattle.parser.proofs.Parser.push_report.Goals as goal
use Rattle.parser.proofs.Parser.push_report.Goals.{then-not-fits-via-then-not-fits, then-not-fits-via-else-not-fits+then-not-fits-2}

pub returns-then-not-is_open : goal.returns-then-not-is_open
returns-then-not-is_open c = record {
  is = report_off (message_number c.args.message) (hint_of c.args.hint) (span_of c.args.range) (span_of c.args.label) (view c.args.self.now)
      (sym c.is_open.ensures ∙ c.if-not-is_open.true);
  same = record { tokens = refl; events = refl; reports = refl; pool = refl };
  left = omega flags;
}

pub returns-then-not-fits : goal.returns-then-not-fits
returns-then-not-fits c =
    let p = c.args.self.now in
    let ks = c.codes_of-n.result.now in
    let full : (fits (length p.reports.now) p.reports_written 9 && fits (length p.pool.now) p.pool_written (length ks)) ≡ false =
    elim c.then-not-fits.branch [
      | then-not-fits-via-then-not-fits w ↦ rw (← c.fits.ensures.value, w.if-not-fits.true)
      | then-not-fits-via-else-not-fits+then-not-fits-2 w ↦ rw (← c.fits.ensures.value, w.if-not-fits.false, ← w.fits-else-not-fits.ensures.value, w.if-not-fits-2.true)
    ] in
    record {
      is = report_full (message_number c.args.message) (hint_of c.args.hint) (span_of c.args.range) (span_of c.args.label) (view c.args.self.now)
          ks _ c.codes_of-n.ensures.value (sym c.is_open.ensures ∙ c.if-not-is_open.false) full c.refuse.ensures.becomes.is;
      same = c.refuse.ensures.becomes.same;
      left = c.refuse.ensures.becomes.left;
    }

pub returns : goal.returns
unfolding tokens_left
returns c = record {
  is = report_fits (message_number c.args.message) (hint_of c.args.hint) (span_of c.args.range) (span_of c.args.label) (view c.args.self.now)
      c.codes_of-n.result.now _ _ _ c.codes_of-n.ensures.value (sym c.is_open.ensures ∙ c.if-not-is_open.false)
      (sym c.fits.ensures.value ∙ c.if-not-fits.false) (sym c.fits-else-not-fits.ensures.value ∙ c.if-not-fits-2.false)
      (rw (c.number.ensures, c.low32.ensures, c.low32-2.ensures, c.pool_count.ensures, c.hint_number.ensures)) c.put_row.ensures
      (c.put_codes.ensures ∙ ap (sets c.args.self.now.pool.now c.args.self.now.pool_written) (c.codes_of.ensures.value ∙ sym c.codes_of-n.ensures.value));
  same = record { tokens = refl; events = refl; reports = refl; pool = refl };
  left = omega flags;
}
