use Rattle.std.proofs.Common.{◌∙◌}
use Rattle.parser.proofs.Moves.{adds_kind, adds_other, adds_none, adds_past}
use Rattle.parser.proofs.pending.Pending.add.Goals as goal

pub returns-then-code-lt-KIND_CODES : goal.returns-then-code-lt-KIND_CODES
returns-then-code-lt-KIND_CODES c = c.add_kind.ensures ∙ adds_kind _ _ c.if-code-lt-KIND_CODES.true

pub returns-then-code-lt-PAST_OTHERS : goal.returns-then-code-lt-PAST_OTHERS
returns-then-code-lt-PAST_OTHERS c =
    c.add_other.ensures ∙ adds_other _ _ c.if-code-lt-KIND_CODES.false c.if-code-ge-FIRST_OTHER.true c.if-code-lt-PAST_OTHERS.true

pub returns-else-code-ge-FIRST_OTHER : goal.returns-else-code-ge-FIRST_OTHER
returns-else-code-ge-FIRST_OTHER c = adds_none _ _ c.if-code-lt-KIND_CODES.false c.if-code-ge-FIRST_OTHER.false

pub returns-else-code-lt-PAST_OTHERS : goal.returns-else-code-lt-PAST_OTHERS
returns-else-code-lt-PAST_OTHERS c = adds_past _ _ c.if-code-lt-KIND_CODES.false c.if-code-ge-FIRST_OTHER.true c.if-code-lt-PAST_OTHERS.false
