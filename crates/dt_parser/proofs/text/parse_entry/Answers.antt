-- `parse_entry`: by the verdict on the text.
use Rattle.std.proofs.Common.{refl, sym, ap, ◌∙◌, Err}
use lib.Seq.{length-take-le}
use Rattle.definitions.specs.Text.{too_long, has_high_byte, has_directive, text_number, text_place}
use Rattle.call.specs.Result.{held}
use Rattle.dt_parser.proofs.TextCalls.{refused_entry, rows_read, front_passes, parsed_entry}
use Rattle.dt_parser.proofs.text.parse_entry.Goals as goal

pub slice_bounds-rows-end : goal.slice_bounds-rows-end
slice_bounds-rows-end c = (rows_read c.args.bytes.now c.args.tokens.now c.read.new.tokens c.read.result _ c.read.ensures c.in-Ok.is).inside

pub slice_bounds-rows-end-in-Ok : goal.slice_bounds-rows-end-in-Ok
slice_bounds-rows-end-in-Ok c =
    sym (length-take-le _ _ (rows_read c.args.bytes.now c.args.tokens.now c.read.new.tokens c.read.result _ c.read.ensures c.in-Ok.is).inside)

pub parse-a-requires : goal.parse-a-requires
parse-a-requires c =
    front_passes c.args.bytes.now c.args.tokens.now c.read.new.tokens _ (rows_read c.args.bytes.now c.args.tokens.now c.read.new.tokens c.read.result _ c.read.ensures c.in-Ok.is)

pub returns-in-Err-TooLong-clause-ended : goal.returns-in-Err-TooLong-clause-ended
unfolding text_number text_place
returns-in-Err-TooLong-clause-ended c =
    let a = c.args in
    let k = c.in-Err-TooLong in
    refused_entry a.e a.setting a.bytes.now a.tokens.now c.read.new.tokens (held a.buffers.now) c.read.result _ too_long c.refused_text.result c.read.ensures (k.is ∙ ap Err k.field-0-is) refl c.refused_text.ensures

pub returns-in-Err-HighByte-clause-ended : goal.returns-in-Err-HighByte-clause-ended
unfolding text_number text_place
returns-in-Err-HighByte-clause-ended c =
    let a = c.args in
    let k = c.in-Err-HighByte in
    let x = c.refused_text-in-Err-HighByte in
    refused_entry a.e a.setting a.bytes.now a.tokens.now c.read.new.tokens (held a.buffers.now) c.read.result _ (has_high_byte _) x.result c.read.ensures (k.is ∙ ap Err k.field-0-is) refl (rw k.at-is at x.ensures)

pub returns-in-Err-Directive-clause-ended : goal.returns-in-Err-Directive-clause-ended
unfolding text_number text_place
returns-in-Err-Directive-clause-ended c =
    let a = c.args in
    let k = c.in-Err-Directive in
    let x = c.refused_text-in-Err-Directive in
    refused_entry a.e a.setting a.bytes.now a.tokens.now c.read.new.tokens (held a.buffers.now) c.read.result _ (has_directive _) x.result c.read.ensures (k.is ∙ ap Err k.field-0-is) refl (rw k.at-is at x.ensures)

pub returns-in-Ok-clause-ended : goal.returns-in-Ok-clause-ended
returns-in-Ok-clause-ended c =
    let a = c.args in
    let rows = rows_read a.bytes.now a.tokens.now c.read.new.tokens c.read.result _ c.read.ensures c.in-Ok.is in
    parsed_entry a.e a.setting a.bytes.now a.tokens.now c.read.new.tokens c.finish.new.tokens (held a.buffers.now) (held c.parse-a.new.buffers) _ c.parse-a.result c.finish.result rows c.parse-a.ensures.parsed c.finish.ensures.value c.finish.ensures.tokens_after
