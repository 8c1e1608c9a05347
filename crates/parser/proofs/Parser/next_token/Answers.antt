use Rattle.std.proofs.Common.{refl, ◌∙◌, ap, ◌+◌}
use Rattle.basics.proofs.Flags.{flags}
use Rattle.machine.specs.Machine.{Pending, with_pending, with_taken}
use Rattle.parser.specs.View.{view, tokens_left}
use Rattle.parser.proofs.Moves.{some_left, none_left, took_row, took_nothing}
use Rattle.parser.proofs.Parser.next_token.Goals as goal

pub overflow_add-self : goal.overflow_add-self
unfolding tokens_left
overflow_add-self c = omega (flags, c.has_token.ensures.some c.if-has_token.true)

pub returns-then-has_token-clause-becomes : goal.returns-then-has_token-clause-becomes
unfolding tokens_left
returns-then-has_token-clause-becomes c =
    let p = c.args.self.now in
    record {
      is =
          ap (λ (x : Pending). with_pending x (with_taken (p.cursor.0 + 1) c.end_at.result (view p))) c.clear.ensures
          ∙ took_row p.tokens.now _ (view p) (some_left p (c.has_token.ensures.some c.if-has_token.true)) c.end_at.ensures;
      same = record { tokens = refl; events = refl; reports = refl; pool = refl };
      left = omega flags;
    }

pub returns-then-has_token-clause-taken : goal.returns-then-has_token-clause-taken
unfolding tokens_left
returns-then-has_token-clause-taken c = omega flags

pub returns-else-has_token-clause-becomes : goal.returns-else-has_token-clause-becomes
returns-else-has_token-clause-becomes c =
    let p = c.args.self.now in
    record {
      is = took_nothing p.tokens.now (view p) (none_left p (c.has_token.ensures.none c.if-has_token.false));
      same = record { tokens = refl; events = refl; reports = refl; pool = refl };
      left = omega flags;
    }
