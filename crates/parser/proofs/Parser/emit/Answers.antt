-- `emit`: a peek, the event, and the row.
use Rattle.std.proofs.Common.{List, ◌∙◌, ap, drop}
use Rattle.basics.proofs.Flags.{flags}
use Rattle.definitions.specs.Token.{Token}
use Rattle.layout.specs.Numbers.{message_number}
use Rattle.machine.specs.Machine.{error_range}
use Rattle.parser.specs.View.{view, toks, hint_of, span_of}
use Rattle.parser.proofs.Reports.{emit_is}
use Rattle.parser.proofs.Ways.{same_then, same_toks}
use Rattle.parser.proofs.Parser.emit.Goals as goal

pub returns : goal.returns
returns c =
    let p = c.peek.new.self in
    let range = c.current_token_error_range-range in
    record {
      is = emit_is (toks c.args.self.now) (message_number c.args.message) (hint_of c.args.hint) (span_of range.result) (span_of c.args.label) _ (view p) (view c.push_event.new.self) _
          c.peek.ensures.is (range.ensures ∙ ap (λ (ts : List Token). error_range (drop p.cursor.0 ts) (view p)) (same_toks c.peek.ensures.same)) c.push_event.ensures.is c.push_report.ensures.is;
      same = same_then c.peek.ensures.same (same_then c.push_event.ensures.same c.push_report.ensures.same);
      left = omega flags;
    }
