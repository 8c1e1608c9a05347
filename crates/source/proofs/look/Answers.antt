-- `look`: what the view's functions say, of the rows and the place that it was made of.
use Rattle.source.proofs.Said.{seen_here, seen_past, taken_from}
use Rattle.source.proofs.look.Goals as goal

pub returns : goal.returns
returns c =
    let s = c.args.tokens in
    let at = c.args.at in
    let made = c.new-s.ensures in (
      seen_here s at c.new-s.result _ made c.peek_kind_immediate.ensures,
      seen_past s at c.new-s.result c.peek.result _ made c.peek.ensures c.peek_kind_immediate-2.ensures,
      taken_from s at c.new-s.result c.next_token-next.result made c.next_token-next.ensures,
    )
