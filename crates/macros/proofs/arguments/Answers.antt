use Rattle.std.proofs.Common.{arith}
use Rattle.basics.proofs.Flags.{flags}
use Rattle.parser.proofs.Ways.{walks, opened, yes_case, no_case, told, node, seq, stay, turns, stops_yes}
use Rattle.macros.proofs.Opened.{macro_argument_turn_is}
use Rattle.macros.proofs.arguments.Goals as goal

pub returns-then-not-comma : goal.returns-then-not-comma
returns-then-not-comma c = walks (λ ask b. stops_yes (c.loop-comma.invariant ask b) (opened macro_argument_turn_is
    (no_case (node (omega arith) c.start-m.ensures.marker c.start-m.ensures.becomes (told _ (c.bump_argument-comma.ensures.walks.way ask b)) c.complete.ensures.becomes)
    c.if-not-comma.true stay)))

pub loop-comma-preserved : goal.loop-comma-preserved
loop-comma-preserved c = λ ask b. turns (c.loop-comma.invariant ask b) (opened macro_argument_turn_is
    (yes_case (node (omega arith) c.start-m.ensures.marker c.start-m.ensures.becomes (told _ (c.bump_argument-comma.ensures.walks.way ask b)) c.complete.ensures.becomes)
    c.if-not-comma.false (seq (c.bump.ensures.walks.way ask b) stay)))
    (omega (flags, c.start-m.ensures.becomes.left, c.bump_argument-comma.ensures.walks.left, c.bump_argument-comma.ensures.some c.if-not-comma.false, c.complete.ensures.becomes.left, c.bump.ensures.taken))
