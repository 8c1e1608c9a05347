use Rattle.std.proofs.Common.{refl, List}
use Rattle.std.specs.Prelude.{None}
use Rattle.definitions.specs.TokenKind as K
use Rattle.definitions.specs.NodeKind.{NO_NODE}
use Rattle.definitions.specs.Token.{Token}
use Rattle.definitions.specs.Skeleton.{Span}
use Rattle.definitions.specs.Prog.{yes, Rule, loop}
use Rattle.definitions.specs.Check.{tell, when◌then◌else◌, not!, of_kind, at}
use Rattle.definitions.specs.Grammar.{macro_argument_turn}
use Rattle.machine.specs.Machine.{Machine}
use Rattle.machine.specs.Walk.{Walked}
use Rattle.parser.specs.View.{Way}
use Rattle.parser.proofs.Ways.{walks_on, ends, ends_opened, if_no, if_yes, no_case, yes_case, seq, stay}
use Rattle.macros.proofs.Opened.{argument_list_is}
use Rattle.macros.proofs.argument_list.Goals.{then-not-at, else-not-at}
use Rattle.macros.proofs.argument_list.Goals as goal

pub returns-clause-walks : goal.returns-clause-walks
returns-clause-walks c =
    let inner : (ask : List Token → Rule → Machine → Walked) (b : Span)
    → Way ask b None (when not! (at (of_kind K.RParen)) then loop macro_argument_turn else tell yes) c.bump.new.self yes NO_NODE c.if-not-at.p =
    λ ask b. elim c.if-not-at.branch [
      | then-not-at w ↦ rw (w.p-is) (if_yes (no_case (c.at.ensures.walks.way ask b) w.if-not-at.true stay) refl (w.arguments.ensures.way ask b))
      | else-not-at w ↦ rw (w.p-is) (if_no (yes_case (c.at.ensures.walks.way ask b) w.if-not-at.false stay) refl stay)
    ]
    in
    walks_on (λ ask b. ends_opened argument_list_is (ends (seq (c.bump.ensures.walks.way ask b) (seq (inner ask b) (c.expect.ensures.walks.way ask b)))))
