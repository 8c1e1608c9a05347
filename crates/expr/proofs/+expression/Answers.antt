-- The functions of the cycle meet their contracts; what falls at each call is in Invariants.
use Prim.Native.Nat.{◌-◌}
use mathlib.Core.Path.{sym, ap, ◌∙◌}
use mathlib.Core.Bool.{Bool, cond}
use native.Mathlib.Omega.{arith}
use Rattle.std.proofs.Common.{rules}
use Rattle.std.specs.Prelude.{None, Some, is_some}
use Rattle.basics.proofs.Flags.{flags}
use Rattle.definitions.specs.TokenKind as K
use Rattle.definitions.specs.NodeKind.{NO_NODE}
use Rattle.definitions.specs.Prog.{yes, again, expr_binding_power, open_call}
use Rattle.definitions.specs.Check.{◌and◌, of_kind, silent, expect}
use Rattle.definitions.specs.Grammar.{grammar, expr_binding_power_body, rhs, lhs as lhs_prog}
use Rattle.definitions.specs.Run.{truth}
use Rattle.machine.specs.Walk.{walk_rule, unlabelled}
use Rattle.parser.specs.View.{Way}
use Rattle.parser.proofs.Ways.{body, call, closed, node, seq, yes_case, no_case, shown, answers, told, stay}
use Rattle.binding_power.specs.Answer.{left_in, right_in}
use Rattle.expr.proofs.Chain.{chained, unchained, answered, goes_on, lasts, stops}
use Rattle.expr.proofs.Turns.{told_past, righted, no_operator, weaker, ternary, other, sees_binary}
use Rattle.expr.proofs.+expression.Goals.{infix_chain-in-Some+then-not-right, infix_chain-in_default, ternary_rhs-then-expr_binding_power, ternary_rhs-else-expr_binding_power}
use Rattle.expr.proofs.+expression.Goals as goal

-- `expr_binding_power` is the walk of its rule: a chain from its marker on, or refusal 5.
pub expr_binding_power-returns-then-allowed-eq0-clause-opens : goal.expr_binding_power-returns-then-allowed-eq0-clause-opens
expr_binding_power-returns-then-allowed-eq0-clause-opens t c = closed c.if-allowed-eq0.true c.refuse.ensures.becomes

pub expr_binding_power-returns-then-not-lhs-clause-opens : goal.expr_binding_power-returns-then-not-lhs-clause-opens
unfolding grammar expr_binding_power_body
expr_binding_power-returns-then-not-lhs-clause-opens t c =
    body (omega (flags, c.if-allowed-eq0.false)) (unchained (c.args.allowed - 1) c.start-m.ensures.becomes (no_case c.lhs.ensures.walks c.if-not-lhs.true stay) c.ignore.ensures)

pub expr_binding_power-returns-clause-opens : goal.expr_binding_power-returns-clause-opens
unfolding grammar expr_binding_power_body
expr_binding_power-returns-clause-opens t c =
    body (omega (flags, c.if-allowed-eq0.false))
    (chained (c.args.allowed - 1) c.start-m.ensures.marker c.start-m.ensures.becomes (yes_case c.lhs.ensures.walks c.if-not-lhs.false stay) c.infix_chain.ensures)

-- `infix_chain` is the rest of the chain, link by link.
pub infix_chain-loop-right-preserved : goal.infix_chain-loop-right-preserved
infix_chain-loop-right-preserved t c =
    goes_on c.loop-right.invariant c.complete.ensures.becomes c.complete.ensures.same c.precede-m.ensures.becomes (omega arith)
    (answered c.args.allowed (c.in-Some.is ∙ ap Some c.if-not-right.false) c.infix_turn.ensures.walks)
    (c.infix_turn.ensures.taken (ap is_some c.in-Some.is)) c.precede-m.ensures.marker

pub infix_chain-returns : goal.infix_chain-returns
infix_chain-returns t c =
    let on = c.loop-right.invariant in
    elim c.match-infix_turn.branch [
      | infix_chain-in-Some+then-not-right w ↦ lasts on w.complete.ensures.becomes w.complete.ensures.same w.precede-m.ensures.becomes
          (answered c.args.allowed (w.in-Some.is ∙ ap Some w.if-not-right.true) c.infix_turn.ensures.walks) (rw (← w.p-is) c.ignore.ensures)
      | infix_chain-in_default w ↦ stops on (answered c.args.allowed w.in_default.is c.infix_turn.ensures.walks) (rw (← w.p-is) c.ignore.ensures)
    ]

-- `infix_turn` is one turn of the chain: which arm it takes is decided by the operator at the cursor.
pub infix_turn-returns-in_err-op-clause-walks : goal.infix_turn-returns-in_err-op-clause-walks
infix_turn-returns-in_err-op-clause-walks t c =
    let op = c.infix_op_at.ensures in
    answered c.args.allowed (sym c.from_residual.ensures) (no_operator c.args.allowed c.args.min_bp op.becomes op.left op.right (ap left_in c.in_err-op.was))

pub infix_turn-returns-then-op-min_bp-clause-walks : goal.infix_turn-returns-then-op-min_bp-clause-walks
infix_turn-returns-then-op-min_bp-clause-walks t c =
    let op = c.infix_op_at.ensures in
    let left = ap left_in c.in_ok-op.was in
    weaker c.args.allowed c.args.min_bp op.becomes op.left op.right (op.power (ap is_some c.in_ok-op.was)) (omega (flags, left, c.if-op-min_bp.true))

pub infix_turn-returns-then-op-eq-TERNARY_LEFT-clause-walks : goal.infix_turn-returns-then-op-eq-TERNARY_LEFT-clause-walks
infix_turn-returns-then-op-eq-TERNARY_LEFT-clause-walks t c =
    let op = c.infix_op_at.ensures in
    let left = ap left_in c.in_ok-op.was in
    ternary c.args.allowed c.args.min_bp op.becomes op.left op.right (op.power (ap is_some c.in_ok-op.was)) (omega (flags, left, c.if-op-min_bp.false))
    (left ∙ c.if-op-eq-TERNARY_LEFT.true)
    (seq (c.bump.ensures.walks.way (walk_rule c.args.allowed) unlabelled) c.ternary_rhs-right.ensures)

pub infix_turn-returns-else-op-eq-TERNARY_LEFT-clause-walks : goal.infix_turn-returns-else-op-eq-TERNARY_LEFT-clause-walks
unfolding rhs
infix_turn-returns-else-op-eq-TERNARY_LEFT-clause-walks t c =
    let op = c.infix_op_at.ensures in
    let left = ap left_in c.in_ok-op.was in
    other c.args.allowed c.args.min_bp op.becomes op.left (sym (ap right_in c.in_ok-op.was) ∙ op.right) (op.power (ap is_some c.in_ok-op.was)) (omega (flags, left, c.if-op-min_bp.false))
    (λ i. c.if-op-eq-TERNARY_LEFT.false (sym left ∙ i))
    (seq (c.bump.ensures.walks.way (walk_rule c.args.allowed) unlabelled)
    (righted c.expr_binding_power-right.result (call c.args.allowed c.expr_binding_power-right.ensures.opens)))

-- `lhs`: what an expression starts with.
pub lhs-returns-then-at_prefix_op-clause-walks : goal.lhs-returns-then-at_prefix_op-clause-walks
unfolding lhs_prog
lhs-returns-then-at_prefix_op-clause-walks t c =
    yes_case (c.at_prefix_op.ensures.walks.way (walk_rule c.args.allowed) unlabelled) c.if-at_prefix_op.true c.prefix_expr.ensures.walks

pub lhs-returns-then-at-clause-walks : goal.lhs-returns-then-at-clause-walks
unfolding lhs_prog
lhs-returns-then-at-clause-walks t c =
    let ask = walk_rule c.args.allowed in
    no_case (c.at_prefix_op.ensures.walks.way ask unlabelled) c.if-at_prefix_op.false (yes_case (c.at.ensures.walks.way ask unlabelled) c.if-at.true c.paren_expr.ensures.walks)

pub lhs-returns-then-at-2-clause-walks : goal.lhs-returns-then-at-2-clause-walks
unfolding lhs_prog
lhs-returns-then-at-2-clause-walks t c =
    let ask = walk_rule c.args.allowed in
    no_case (c.at_prefix_op.ensures.walks.way ask unlabelled) c.if-at_prefix_op.false
    (no_case (c.at.ensures.walks.way ask unlabelled) c.if-at.false
    (yes_case (c.at-2.ensures.walks.way ask unlabelled) c.if-at-2.true (seq (c.macro_invocation.ensures.walks.way ask unlabelled) stay)))

pub lhs-returns-then-at-3-clause-walks : goal.lhs-returns-then-at-3-clause-walks
unfolding lhs_prog
lhs-returns-then-at-3-clause-walks t c =
    let ask = walk_rule c.args.allowed in
    no_case (c.at_prefix_op.ensures.walks.way ask unlabelled) c.if-at_prefix_op.false
    (no_case (c.at.ensures.walks.way ask unlabelled) c.if-at.false
    (no_case (c.at-2.ensures.walks.way ask unlabelled) c.if-at-2.false
    (yes_case (c.at-3.ensures.walks.way ask unlabelled) c.if-at-3.true (c.literal_expr.ensures.walks.way ask unlabelled))))

pub lhs-returns-clause-walks : goal.lhs-returns-clause-walks
unfolding lhs_prog
lhs-returns-clause-walks t c =
    let ask = walk_rule c.args.allowed in
    no_case (c.at_prefix_op.ensures.walks.way ask unlabelled) c.if-at_prefix_op.false
    (no_case (c.at.ensures.walks.way ask unlabelled) c.if-at.false
    (no_case (c.at-2.ensures.walks.way ask unlabelled) c.if-at-2.false
    (no_case (c.at-3.ensures.walks.way ask unlabelled) c.if-at-3.false c.no_lhs.ensures)))

-- `missing_lhs`: a report, and a ParseError around the operator and what follows.
pub missing_lhs-returns : goal.missing_lhs-returns
missing_lhs-returns t c =
    let ask = walk_rule c.args.allowed in
    seq (c.error.ensures.walks.way ask unlabelled)
    (seq (node (omega arith) c.start-m.ensures.marker c.start-m.ensures.becomes
    (seq (seq (c.bump.ensures.walks.way ask unlabelled) (call c.args.allowed c.expr_binding_power.ensures.opens)) stay)
    c.complete.ensures.becomes)
    stay)

-- `no_lhs` is what `lhs` does where no test held.
pub no_lhs-returns-then-is_some_and : goal.no_lhs-returns-then-is_some_and
no_lhs-returns-then-is_some_and t c =
    yes_case (sees_binary c.args.allowed c.infix_op_at.result c.infix_op_at.ensures.becomes c.infix_op_at.ensures.binary c.is_some_and.result (search rules)) c.if-is_some_and.true c.missing_lhs.ensures

pub no_lhs-returns-then-silent_at : goal.no_lhs-returns-then-silent_at
unfolding silent
no_lhs-returns-then-silent_at t c =
    let ask = walk_rule c.args.allowed in
    no_case (sees_binary c.args.allowed c.infix_op_at.result c.infix_op_at.ensures.becomes c.infix_op_at.ensures.binary c.is_some_and.result (search rules)) c.if-is_some_and.false
    (yes_case (c.silent_at.ensures.walks.way ask unlabelled) c.if-silent_at.true (seq (c.error.ensures.walks.way ask unlabelled) stay))

pub no_lhs-returns-else-silent_at : goal.no_lhs-returns-else-silent_at
unfolding silent
no_lhs-returns-else-silent_at t c =
    let ask = walk_rule c.args.allowed in
    no_case (sees_binary c.args.allowed c.infix_op_at.result c.infix_op_at.ensures.becomes c.infix_op_at.ensures.binary c.is_some_and.result (search rules)) c.if-is_some_and.false
    (no_case (c.silent_at.ensures.walks.way ask unlabelled) c.if-silent_at.false (seq (c.error-else-silent_at.ensures.walks.way ask unlabelled) stay))

-- `paren_expr`: a marker around an expression in brackets.
pub paren_expr-returns-clause-walks : goal.paren_expr-returns-clause-walks
paren_expr-returns-clause-walks t c =
    let ask = walk_rule c.args.allowed in
    node (omega arith) c.start-m.ensures.marker c.start-m.ensures.becomes
    (seq (c.bump.ensures.walks.way ask unlabelled)
    (told_past c.expr_binding_power-inner.result (call c.args.allowed c.expr_binding_power-inner.ensures.opens) (c.expect.ensures.walks.way ask unlabelled)))
    c.complete.ensures.becomes

-- `prefix_expr`: a marker around an operator and its right side.
pub prefix_expr-returns-clause-walks : goal.prefix_expr-returns-clause-walks
prefix_expr-returns-clause-walks t c =
    node (omega arith) c.start-m.ensures.marker c.start-m.ensures.becomes
    (seq (c.bump.ensures.walks.way (walk_rule c.args.allowed) unlabelled)
    (told c.expr_binding_power-right.result (call c.args.allowed c.expr_binding_power-right.ensures.opens)))
    c.complete.ensures.becomes

-- `ternary_rhs`: what follows the question mark.
pub ternary_rhs-returns-then-expect : goal.ternary_rhs-returns-then-expect
unfolding rhs
ternary_rhs-returns-then-expect t c =
    let middle = call c.args.allowed c.expr_binding_power.ensures.opens in
    let colon : Way (walk_rule c.args.allowed) unlabelled None (open_call (expr_binding_power 0) and expect (of_kind K.Colon)) c.args.p.now (truth c.if-expr_binding_power.value) NO_NODE c.if-expr_binding_power.p =
    elim c.if-expr_binding_power.branch [
      | ternary_rhs-then-expr_binding_power w ↦ rw (w.p-is, w.value-is) (yes_case middle w.if-expr_binding_power.true (w.expect.ensures.walks.way (walk_rule c.args.allowed) unlabelled))
      | ternary_rhs-else-expr_binding_power w ↦ rw (w.p-is, w.value-is) (shown w.if-expr_binding_power.false (no_case middle w.if-expr_binding_power.false stay))
    ] in
    yes_case colon c.if-expect.true (righted c.expr_binding_power-then-expect.result (call c.args.allowed c.expr_binding_power-then-expect.ensures.opens))

pub ternary_rhs-returns-else-expect : goal.ternary_rhs-returns-else-expect
ternary_rhs-returns-else-expect t c =
    let middle = call c.args.allowed c.expr_binding_power.ensures.opens in
    let colon : Way (walk_rule c.args.allowed) unlabelled None (open_call (expr_binding_power 0) and expect (of_kind K.Colon)) c.args.p.now (truth c.if-expr_binding_power.value) NO_NODE c.if-expr_binding_power.p =
    elim c.if-expr_binding_power.branch [
      | ternary_rhs-then-expr_binding_power w ↦ rw (w.p-is, w.value-is) (yes_case middle w.if-expr_binding_power.true (w.expect.ensures.walks.way (walk_rule c.args.allowed) unlabelled))
      | ternary_rhs-else-expr_binding_power w ↦ rw (w.p-is, w.value-is) (shown w.if-expr_binding_power.false (no_case middle w.if-expr_binding_power.false stay))
    ] in
    answers (ap (λ (v : Bool). cond v again yes) (sym c.if-expect.false)) (no_case colon c.if-expect.false stay)
