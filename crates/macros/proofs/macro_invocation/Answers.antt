use Rattle.std.proofs.Common.{arith, List}
use Rattle.definitions.specs.TokenKind as K
use Rattle.definitions.specs.Token.{Token}
use Rattle.definitions.specs.Skeleton.{Span}
use Rattle.definitions.specs.Prog.{yes, Rule, act, immediate, ◌⨟◌}
use Rattle.definitions.specs.Check.{tell, when◌then◌else◌, expected}
use Rattle.machine.specs.Machine.{Machine}
use Rattle.machine.specs.Walk.{Walked}
use Rattle.parser.specs.View.{Lands}
use Rattle.parser.proofs.Ways.{walks, opened, ends, lands, yes_case, no_case, node, seq, stay}
use Rattle.macros.specs.Subprograms.{argument_list}
use Rattle.macros.proofs.Opened.{macro_invocation_is}
use Rattle.macros.proofs.macro_invocation.Goals.{then-at_immediate, else-at_immediate}
use Rattle.macros.proofs.macro_invocation.Goals as goal

pub returns-clause-walks : goal.returns-clause-walks
returns-clause-walks c =
    let list : (ask : List Token → Rule → Machine → Walked) (b : Span)
    → Lands ask b (when expected K.LParen ⨟ act (immediate K.LParen) then argument_list else tell yes) c.bump.new.self c.if-at_immediate.p =
    λ ask b. elim c.if-at_immediate.branch [
      | then-at_immediate w ↦ rw (w.p-is) (ends (yes_case (c.at_immediate.ensures.walks.way ask b) w.if-at_immediate.true (lands (w.argument_list.ensures.walks.way ask b))))
      | else-at_immediate w ↦ rw (w.p-is) (ends (no_case (c.at_immediate.ensures.walks.way ask b) w.if-at_immediate.false stay))
    ]
    in
    walks (λ ask b. opened macro_invocation_is
    (node (omega arith) c.start-m.ensures.marker c.start-m.ensures.becomes
    (seq (seq (c.bump.ensures.walks.way ask b) (lands (list ask b))) stay) c.complete.ensures.becomes))
