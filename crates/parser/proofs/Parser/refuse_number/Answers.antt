use Rattle.std.proofs.Common.{refl, sym, ◌∙◌}
use Rattle.basics.proofs.Flags.{flags}
use Rattle.parser.specs.View.{view, tokens_left}
use Rattle.parser.proofs.Stores.{refuse_first, refuse_again}
use Rattle.parser.proofs.Parser.refuse_number.Goals.{then-is_open, else-is_open}
use Rattle.parser.proofs.Parser.refuse_number.Goals as goal

pub returns-clause-becomes : goal.returns-clause-becomes
unfolding tokens_left
returns-clause-becomes c =
    elim c.if-is_open.branch [
      | then-is_open w ↦ record {
        is = rw (w.self-is) (refuse_first _ (view c.args.self.now) (sym c.is_open.ensures ∙ w.if-is_open.true));
        same = rw (w.self-is) (record { tokens = refl; events = refl; reports = refl; pool = refl });
        left = rw (w.self-is) (omega flags);
      }
      | else-is_open w ↦ record {
        is = rw (w.self-is) (refuse_again _ (view c.args.self.now) (sym c.is_open.ensures ∙ w.if-is_open.false));
        same = rw (w.self-is) (record { tokens = refl; events = refl; reports = refl; pool = refl });
        left = rw (w.self-is) (omega flags);
      }
    ]

pub returns-clause-ended : goal.returns-clause-ended
unfolding tokens_left
returns-clause-ended c =
    let h = c.if-prove.false in
    elim c.if-is_open.branch [
      | then-is_open w ↦ let k = rw w.self-is at h in rw (w.self-is) (omega (flags, k))
      | else-is_open w ↦ let k = rw w.self-is at h in rw (w.self-is) (omega (flags, k))
    ]
