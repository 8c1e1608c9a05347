-- The functions of the cycle meet their contracts: the way that each goes through its program.
use mathlib.Core.Path.{refl, sym, ap}
use mathlib.Core.Bool.{true, false}
use native.Mathlib.Omega.{arith}
use Rattle.basics.proofs.Flags.{flags}
use Rattle.definitions.specs.Check.{silent}
use Rattle.definitions.specs.Grammar.{bits_value, branch_turn, branch, cells_turn, cells, cond_branches_turn, cond_branches_and_end, dt_cell_list, node_body_turn, dt_property, grammar, eat_inside, eat_node_or_prop, eat_preprocessor_directive, propvalues_turn, propvalues_body}
use Rattle.parser.specs.View.{ans_of}
use Rattle.parser.proofs.Ways.{stay, opened, answers, braced, seq, yes_case, no_case, if_no, if_also, told, finished, marker, node, ignored, ends, lands, turns, stops_yes, stops_no, call, call_on, closed, closed_on, body, body_on}
use Rattle.grammar.proofs.Laws.{value_is, body_is, item_is, no_property_is}
use Rattle.grammar.proofs.Ways.{some_allowed, cell_way, if_other, never_also}
use Rattle.grammar.proofs.+grammar.Goals as goal

-- ---------------------------------------------------------------- cells

pub cells-loop-p-preserved-then-eat_cell : goal.cells-loop-p-preserved-then-eat_cell
unfolding cells_turn
cells-loop-p-preserved-then-eat_cell t c =
    turns c.loop-p.invariant (yes_case (call c.args.allowed c.eat_cell.ensures.opens) c.if-eat_cell.true stay) (omega (flags, c.eat_cell.ensures.taken c.if-eat_cell.true))

pub cells-returns-then-at_cells_end : goal.cells-returns-then-at_cells_end
unfolding cells cells_turn
cells-returns-then-at_cells_end t c =
    stops_yes c.loop-p.invariant (no_case (call c.args.allowed c.eat_cell.ensures.opens) c.if-eat_cell.false (yes_case (c.at_cells_end.ensures.way _ _) c.if-at_cells_end.true stay))

pub cells-returns-then-at_cells_recovery : goal.cells-returns-then-at_cells_recovery
unfolding cells cells_turn silent
cells-returns-then-at_cells_recovery t c =
    stops_no c.loop-p.invariant (no_case (call c.args.allowed c.eat_cell.ensures.opens) c.if-eat_cell.false (no_case (c.at_cells_end.ensures.way _ _) c.if-at_cells_end.false
    (yes_case (c.at_cells_recovery.ensures.walks.way _ _) c.if-at_cells_recovery.true (seq (c.error.ensures.walks.way _ _) stay))))

pub cells-loop-p-preserved : goal.cells-loop-p-preserved
unfolding cells_turn silent
cells-loop-p-preserved t c =
    turns c.loop-p.invariant (no_case (call c.args.allowed c.eat_cell.ensures.opens) c.if-eat_cell.false (no_case (c.at_cells_end.ensures.way _ _) c.if-at_cells_end.false
    (no_case (c.at_cells_recovery.ensures.walks.way _ _) c.if-at_cells_recovery.false (seq (c.error-in-loop-p.ensures.walks.way _ _) stay))))
    (omega (flags, c.eat_cell.ensures.opens.left, c.at_cells_end.ensures.left, c.at_cells_recovery.ensures.walks.left, c.at_cells_recovery.ensures.some c.if-at_cells_recovery.false, c.error-in-loop-p.ensures.taken))

pub eat_cell-returns-then-allowed-eq0-clause-opens : goal.eat_cell-returns-then-allowed-eq0-clause-opens
eat_cell-returns-then-allowed-eq0-clause-opens t c =
    closed c.if-allowed-eq0.true c.refuse.ensures.becomes

pub eat_cell-returns-then-eat_plain_cell-clause-opens : goal.eat_cell-returns-then-eat_plain_cell-clause-opens
unfolding grammar
eat_cell-returns-then-eat_plain_cell-clause-opens t c =
    body (some_allowed c.if-allowed-eq0.false) (cell_way _ (yes_case (c.eat_plain_cell.ensures.walks.way _ _) c.if-eat_plain_cell.true stay))

pub eat_cell-returns-then-silent_at-clause-opens : goal.eat_cell-returns-then-silent_at-clause-opens
unfolding grammar silent
eat_cell-returns-then-silent_at-clause-opens t c =
    body (some_allowed c.if-allowed-eq0.false) (cell_way _ (no_case (c.eat_plain_cell.ensures.walks.way _ _) c.if-eat_plain_cell.false
    (yes_case (c.silent_at.ensures.walks.way _ _) c.if-silent_at.true (seq c.dt_expr.ensures.walks stay))))

pub eat_cell-returns-clause-opens : goal.eat_cell-returns-clause-opens
unfolding grammar silent
eat_cell-returns-clause-opens t c =
    body (some_allowed c.if-allowed-eq0.false) (cell_way _ (no_case (c.eat_plain_cell.ensures.walks.way _ _) c.if-eat_plain_cell.false
    (no_case (c.silent_at.ensures.walks.way _ _) c.if-silent_at.false c.cell_rest.ensures.walks)))

pub cell_rest-returns-then-eat_dts_include-clause-walks : goal.cell_rest-returns-then-eat_dts_include-clause-walks
cell_rest-returns-then-eat_dts_include-clause-walks t c =
    yes_case {t = true} (yes_case (c.eat_dts_include.ensures.walks.way _ _) c.if-eat_dts_include.true stay) refl stay

pub cell_rest-returns-then-eat_pp_directive-clause-walks : goal.cell_rest-returns-then-eat_pp_directive-clause-walks
cell_rest-returns-then-eat_pp_directive-clause-walks t c =
    yes_case (no_case (c.eat_dts_include.ensures.walks.way _ _) c.if-eat_dts_include.false c.eat_pp_directive.ensures.walks) c.if-eat_pp_directive.true stay

pub cell_rest-returns-then-not-silent_at_set-clause-walks : goal.cell_rest-returns-then-not-silent_at_set-clause-walks
unfolding silent
cell_rest-returns-then-not-silent_at_set-clause-walks t c =
    no_case (no_case (c.eat_dts_include.ensures.walks.way _ _) c.if-eat_dts_include.false c.eat_pp_directive.ensures.walks) c.if-eat_pp_directive.false (no_case {t = false} (no_case (c.silent_at_set.ensures.walks.way _ _) c.if-not-silent_at_set.true stay) refl stay)

pub cell_rest-returns-then-at-clause-walks : goal.cell_rest-returns-then-at-clause-walks
unfolding silent
cell_rest-returns-then-at-clause-walks t c =
    no_case (no_case (c.eat_dts_include.ensures.walks.way _ _) c.if-eat_dts_include.false c.eat_pp_directive.ensures.walks) c.if-eat_pp_directive.false
    (no_case {t = false} (yes_case (c.silent_at_set.ensures.walks.way _ _) c.if-not-silent_at_set.false (yes_case (c.at.ensures.walks.way _ _) c.if-at.true stay)) refl stay)

pub cell_rest-returns-clause-walks : goal.cell_rest-returns-clause-walks
unfolding silent
cell_rest-returns-clause-walks t c =
    no_case (no_case (c.eat_dts_include.ensures.walks.way _ _) c.if-eat_dts_include.false c.eat_pp_directive.ensures.walks) c.if-eat_pp_directive.false
    (yes_case {t = true} (yes_case (c.silent_at_set.ensures.walks.way _ _) c.if-not-silent_at_set.false (no_case (c.at.ensures.walks.way _ _) c.if-at.false stay)) refl (seq (c.error.ensures.walks.way _ _) stay))

pub dt_cell_list-returns-then-not-cells-clause-closes : goal.dt_cell_list-returns-then-not-cells-clause-closes
unfolding dt_cell_list
dt_cell_list-returns-then-not-cells-clause-closes t c =
    finished (omega arith) (seq (c.bump.ensures.walks.way _ _) (no_case c.cells.ensures c.if-not-cells.true stay)) c.complete.ensures.becomes

pub dt_cell_list-returns-clause-closes : goal.dt_cell_list-returns-clause-closes
unfolding dt_cell_list
dt_cell_list-returns-clause-closes t c =
    finished (omega arith) (seq (c.bump.ensures.walks.way _ _) (yes_case c.cells.ensures c.if-not-cells.false (seq (c.expect.ensures.walks.way _ _) stay))) c.complete-2.ensures.becomes

-- ---------------------------------------------------------------- values

pub propvalues-returns-then-allowed-eq0-clause-opens : goal.propvalues-returns-then-allowed-eq0-clause-opens
propvalues-returns-then-allowed-eq0-clause-opens t c =
    closed c.if-allowed-eq0.true c.refuse.ensures.becomes

pub propvalues-returns-then-allowed-eq0-clause-taken : goal.propvalues-returns-then-allowed-eq0-clause-taken
propvalues-returns-then-allowed-eq0-clause-taken t c =
    omega (flags, c.refuse.ensures.ended)

pub propvalues-returns-then-at_end-clause-opens : goal.propvalues-returns-then-at_end-clause-opens
unfolding grammar propvalues_body propvalues_turn
propvalues-returns-then-at_end-clause-opens t c =
    body (some_allowed c.if-allowed-eq0.false) (stops_yes c.loop-allowed.invariant (yes_case (c.at_end.ensures.walks.way _ _) c.if-at_end.true stay))

pub propvalues-returns-in-No-clause-opens : goal.propvalues-returns-in-No-clause-opens
unfolding grammar propvalues_body propvalues_turn
propvalues-returns-in-No-clause-opens t c =
    body (some_allowed c.if-allowed-eq0.false) (stops_no c.loop-allowed.invariant (no_case (c.at_end.ensures.walks.way _ _) c.if-at_end.false
    (if_no c.value.ensures.walks (ap ans_of c.in-No.is) stay)))

pub propvalues-returns-in-Also-clause-opens : goal.propvalues-returns-in-Also-clause-opens
unfolding grammar propvalues_body propvalues_turn
propvalues-returns-in-Also-clause-opens t c =
    body (some_allowed c.if-allowed-eq0.false) (stops_yes c.loop-allowed.invariant (no_case (c.at_end.ensures.walks.way _ _) c.if-at_end.false
    (if_also c.value.ensures.walks (ap ans_of c.in-Also.is) stay)))

pub propvalues-returns-in-Yes-after_propvalue-clause-opens : goal.propvalues-returns-in-Yes-after_propvalue-clause-opens
unfolding grammar propvalues_body propvalues_turn
propvalues-returns-in-Yes-after_propvalue-clause-opens t c =
    body (some_allowed c.if-allowed-eq0.false) (stops_yes c.loop-allowed.invariant (no_case (c.at_end.ensures.walks.way _ _) c.if-at_end.false
    (if_other _ c.in-Yes.is c.value.ensures.walks (answers (ap ans_of c.in-Yes-after_propvalue.is) (c.after_propvalue.ensures.walks.way _ _)))))

pub propvalues-returns-in-No-after_propvalue-clause-opens : goal.propvalues-returns-in-No-after_propvalue-clause-opens
unfolding grammar propvalues_body propvalues_turn
propvalues-returns-in-No-after_propvalue-clause-opens t c =
    body (some_allowed c.if-allowed-eq0.false) (stops_no c.loop-allowed.invariant (no_case (c.at_end.ensures.walks.way _ _) c.if-at_end.false
    (if_other _ c.in-Yes.is c.value.ensures.walks (answers (never_also _ c.in-No-after_propvalue.is c.after_propvalue.ensures.never) (c.after_propvalue.ensures.walks.way _ _)))))

pub propvalues-loop-allowed-preserved : goal.propvalues-loop-allowed-preserved
unfolding propvalues_turn
propvalues-loop-allowed-preserved t c =
    turns c.loop-allowed.invariant (no_case (c.at_end.ensures.walks.way _ _) c.if-at_end.false
    (if_other _ c.in-Yes.is c.value.ensures.walks (answers (ap ans_of c.in-Again.is) (c.after_propvalue.ensures.walks.way _ _))))
    (omega (flags, c.at_end.ensures.walks.left, c.at_end.ensures.some c.if-at_end.false, c.value.ensures.taken, c.after_propvalue.ensures.walks.left))

pub value-returns-then-silent_at-clause-walks : goal.value-returns-then-silent_at-clause-walks
unfolding silent
value-returns-then-silent_at-clause-walks t c =
    answers (sym c.from.ensures) (opened (value_is _) (seq (c.add_expected.ensures.way _ _) (yes_case (c.silent_at.ensures.walks.way _ _) c.if-silent_at.true c.bits.ensures.walks)))

pub value-returns-then-silent_eat-clause-walks : goal.value-returns-then-silent_eat-clause-walks
unfolding silent
value-returns-then-silent_eat-clause-walks t c =
    opened (value_is _) (seq (c.add_expected.ensures.way _ _) (no_case (c.silent_at.ensures.walks.way _ _) c.if-silent_at.false (yes_case (c.silent_eat.ensures.walks.way _ _) c.if-silent_eat.true stay)))

pub value-returns-then-silent_at-2-clause-walks : goal.value-returns-then-silent_at-2-clause-walks
unfolding silent
value-returns-then-silent_at-2-clause-walks t c =
    answers (sym c.from-then-silent_at-2.ensures) (opened (value_is _) (seq (c.add_expected.ensures.way _ _) (no_case (c.silent_at.ensures.walks.way _ _) c.if-silent_at.false (no_case (c.silent_eat.ensures.walks.way _ _) c.if-silent_eat.false
    (yes_case (c.silent_at-2.ensures.walks.way _ _) c.if-silent_at-2.true (marker c.start-m.ensures.marker c.start-m.ensures.becomes c.dt_cell_list.ensures.closes))))))

pub value-returns-clause-walks : goal.value-returns-clause-walks
unfolding silent
value-returns-clause-walks t c =
    opened (value_is _) (seq (c.add_expected.ensures.way _ _) (no_case (c.silent_at.ensures.walks.way _ _) c.if-silent_at.false (no_case (c.silent_eat.ensures.walks.way _ _) c.if-silent_eat.false
    (no_case (c.silent_at-2.ensures.walks.way _ _) c.if-silent_at-2.false c.value_rest.ensures.walks))))

pub bits-returns-then-at-clause-walks : goal.bits-returns-then-at-clause-walks
unfolding bits_value
bits-returns-then-at-clause-walks t c =
    marker c.start-m_cell_list.ensures.marker c.start-m_cell_list.ensures.becomes
    (seq (node (omega arith) c.start-m.ensures.marker c.start-m.ensures.becomes (seq (seq (c.bump.ensures.walks.way _ _) (c.expect.ensures.walks.way _ _)) stay) c.complete.ensures.becomes) (yes_case (c.at.ensures.walks.way _ _) c.if-at.true c.dt_cell_list.ensures.closes))

pub bits-returns-clause-walks : goal.bits-returns-clause-walks
unfolding bits_value
bits-returns-clause-walks t c =
    marker c.start-m_cell_list.ensures.marker c.start-m_cell_list.ensures.becomes
    (finished (omega arith) (seq (node (omega arith) c.start-m.ensures.marker c.start-m.ensures.becomes (seq (seq (c.bump.ensures.walks.way _ _) (c.expect.ensures.walks.way _ _)) stay) c.complete.ensures.becomes) (no_case (c.at.ensures.walks.way _ _) c.if-at.false (seq (c.error.ensures.walks.way _ _) stay))) c.complete-2.ensures.becomes)

pub value_rest-returns-then-silent_eat-clause-walks : goal.value_rest-returns-then-silent_eat-clause-walks
value_rest-returns-then-silent_eat-clause-walks t c =
    yes_case (c.silent_eat.ensures.walks.way _ _) c.if-silent_eat.true stay

pub value_rest-returns-then-silent_at-clause-walks : goal.value_rest-returns-then-silent_at-clause-walks
unfolding silent
value_rest-returns-then-silent_at-clause-walks t c =
    no_case (c.silent_eat.ensures.walks.way _ _) c.if-silent_eat.false (yes_case (c.silent_at.ensures.walks.way _ _) c.if-silent_at.true (seq (c.macro_invocation.ensures.walks.way _ _) stay))

pub value_rest-returns-then-silent_eat-2-clause-walks : goal.value_rest-returns-then-silent_eat-2-clause-walks
unfolding silent
value_rest-returns-then-silent_eat-2-clause-walks t c =
    no_case (c.silent_eat.ensures.walks.way _ _) c.if-silent_eat.false (no_case (c.silent_at.ensures.walks.way _ _) c.if-silent_at.false
    (yes_case {t = true} (yes_case (c.silent_eat-2.ensures.walks.way _ _) c.if-silent_eat-2.true stay) refl stay))

pub value_rest-returns-then-eat_dts_include-clause-walks : goal.value_rest-returns-then-eat_dts_include-clause-walks
unfolding silent
value_rest-returns-then-eat_dts_include-clause-walks t c =
    no_case (c.silent_eat.ensures.walks.way _ _) c.if-silent_eat.false (no_case (c.silent_at.ensures.walks.way _ _) c.if-silent_at.false
    (yes_case {t = true} (no_case (c.silent_eat-2.ensures.walks.way _ _) c.if-silent_eat-2.false (yes_case (c.eat_dts_include.ensures.walks.way _ _) c.if-eat_dts_include.true stay)) refl stay))

pub value_rest-returns-then-eat_pp_directive-clause-walks : goal.value_rest-returns-then-eat_pp_directive-clause-walks
unfolding silent
value_rest-returns-then-eat_pp_directive-clause-walks t c =
    no_case (c.silent_eat.ensures.walks.way _ _) c.if-silent_eat.false (no_case (c.silent_at.ensures.walks.way _ _) c.if-silent_at.false
    (yes_case (no_case (c.silent_eat-2.ensures.walks.way _ _) c.if-silent_eat-2.false (no_case (c.eat_dts_include.ensures.walks.way _ _) c.if-eat_dts_include.false c.eat_pp_directive.ensures.walks)) c.if-eat_pp_directive.true stay))

pub value_rest-returns-clause-walks : goal.value_rest-returns-clause-walks
unfolding silent
value_rest-returns-clause-walks t c =
    no_case (c.silent_eat.ensures.walks.way _ _) c.if-silent_eat.false (no_case (c.silent_at.ensures.walks.way _ _) c.if-silent_at.false
    (no_case (no_case (c.silent_eat-2.ensures.walks.way _ _) c.if-silent_eat-2.false (no_case (c.eat_dts_include.ensures.walks.way _ _) c.if-eat_dts_include.false c.eat_pp_directive.ensures.walks)) c.if-eat_pp_directive.false (seq (c.error.ensures.walks.way _ _) stay)))

-- ---------------------------------------------------------------- properties and nodes

pub dt_property-returns-then-eat-clause-closes : goal.dt_property-returns-then-eat-clause-closes
unfolding dt_property
dt_property-returns-then-eat-clause-closes t c =
    finished (omega arith) (yes_case (c.eat.ensures.walks.way _ _) c.if-eat.true stay) c.complete.ensures.becomes

pub dt_property-returns-then-values-clause-closes : goal.dt_property-returns-then-values-clause-closes
unfolding dt_property
dt_property-returns-then-values-clause-closes t c =
    finished (omega arith) (no_case (c.eat.ensures.walks.way _ _) c.if-eat.false (seq (c.bump.ensures.walks.way _ _)
    (yes_case (node (omega arith) c.start-list_m.ensures.marker c.start-list_m.ensures.becomes (told _ (call c.args.allowed c.propvalues-values.ensures.opens)) c.complete-2.ensures.becomes) c.if-values.true (seq (c.expect_recoverable.ensures.way _ _) stay)))) c.complete-then-values.ensures.becomes

pub dt_property-returns-else-values-clause-closes : goal.dt_property-returns-else-values-clause-closes
unfolding dt_property
dt_property-returns-else-values-clause-closes t c =
    finished (omega arith) (no_case (c.eat.ensures.walks.way _ _) c.if-eat.false (seq (c.bump.ensures.walks.way _ _)
    (no_case (node (omega arith) c.start-list_m.ensures.marker c.start-list_m.ensures.becomes (told _ (call c.args.allowed c.propvalues-values.ensures.opens)) c.complete-2.ensures.becomes) c.if-values.false stay))) c.complete-else-values.ensures.becomes

pub dt_node_body-loop-p-preserved : goal.dt_node_body-loop-p-preserved
unfolding node_body_turn
dt_node_body-loop-p-preserved t c =
    turns c.loop-p.invariant (yes_case (c.at_item.ensures.walks.way _ _) c.loop-p-test.true (seq (lands (call_on c.args.allowed c.item.ensures.opens)) stay))
    (omega (flags, c.at_item.ensures.walks.left, c.at_item.ensures.some c.loop-p-test.true, c.item.ensures.taken))

pub dt_node_body-returns-clause-closes : goal.dt_node_body-returns-clause-closes
unfolding node_body_turn
dt_node_body-returns-clause-closes t c =
    opened body_is (braced c.range-lcurly_span.ensures (seq (c.bump.ensures.walks.way _ _)
    (seq (stops_yes c.loop-p.invariant (no_case (c.at_item.ensures.walks.way _ _) c.loop-p-test.false stay)) (c.node_end.ensures.way _))))

-- ---------------------------------------------------------------- items

pub item-returns-then-allowed-eq0-clause-opens : goal.item-returns-then-allowed-eq0-clause-opens
item-returns-then-allowed-eq0-clause-opens t c =
    closed_on c.if-allowed-eq0.true c.refuse.ensures.becomes

pub item-returns-then-allowed-eq0-clause-taken : goal.item-returns-then-allowed-eq0-clause-taken
item-returns-then-allowed-eq0-clause-taken t c =
    omega (flags, c.refuse.ensures.ended)

pub item-returns-then-eat_node_or_prop-clause-opens : goal.item-returns-then-eat_node_or_prop-clause-opens
unfolding grammar
item-returns-then-eat_node_or_prop-clause-opens t c =
    body_on (some_allowed c.if-allowed-eq0.false) (ends (opened item_is (yes_case c.eat_node_or_prop.ensures.walks c.if-eat_node_or_prop.true stay)))

pub item-returns-then-silent_at-clause-opens : goal.item-returns-then-silent_at-clause-opens
unfolding grammar silent
item-returns-then-silent_at-clause-opens t c =
    body_on (some_allowed c.if-allowed-eq0.false) (ends (opened item_is (no_case c.eat_node_or_prop.ensures.walks c.if-eat_node_or_prop.false (yes_case (c.silent_at.ensures.walks.way _ _) c.if-silent_at.true
    (node (omega arith) c.start-m.ensures.marker c.start-m.ensures.becomes (seq (seq (c.error.ensures.walks.way _ _) (marker c.start-m_prop.ensures.marker c.start-m_prop.ensures.becomes c.dt_property.ensures.closes)) stay) c.complete.ensures.becomes)))))

pub item-returns-then-silent_at-2-clause-opens : goal.item-returns-then-silent_at-2-clause-opens
unfolding grammar silent
item-returns-then-silent_at-2-clause-opens t c =
    body_on (some_allowed c.if-allowed-eq0.false) (ends (opened item_is (no_case c.eat_node_or_prop.ensures.walks c.if-eat_node_or_prop.false (no_case (c.silent_at.ensures.walks.way _ _) c.if-silent_at.false (yes_case (c.silent_at-2.ensures.walks.way _ _) c.if-silent_at-2.true
    (node (omega arith) c.start-m-then-silent_at-2.ensures.marker c.start-m-then-silent_at-2.ensures.becomes (seq (seq (c.error-then-silent_at-2.ensures.walks.way _ _) (marker c.start-m_node.ensures.marker c.start-m_node.ensures.becomes c.dt_node_body.ensures.closes)) stay) c.complete-then-silent_at-2.ensures.becomes))))))

pub item-returns-clause-opens : goal.item-returns-clause-opens
unfolding grammar silent
item-returns-clause-opens t c =
    body_on (some_allowed c.if-allowed-eq0.false) (ends (opened item_is (no_case c.eat_node_or_prop.ensures.walks c.if-eat_node_or_prop.false (no_case (c.silent_at.ensures.walks.way _ _) c.if-silent_at.false (no_case (c.silent_at-2.ensures.walks.way _ _) c.if-silent_at-2.false
    c.item_rest.ensures.walks)))))

pub item_rest-returns-then-silent_at-clause-walks : goal.item_rest-returns-then-silent_at-clause-walks
unfolding silent
item_rest-returns-then-silent_at-clause-walks t c =
    yes_case (c.silent_at.ensures.walks.way _ _) c.if-silent_at.true (c.error.ensures.walks.way _ _)

pub item_rest-returns-then-eat_dts_directive-clause-walks : goal.item_rest-returns-then-eat_dts_directive-clause-walks
unfolding silent
item_rest-returns-then-eat_dts_directive-clause-walks t c =
    no_case (c.silent_at.ensures.walks.way _ _) c.if-silent_at.false (yes_case {t = true} (yes_case (c.eat_dts_directive.ensures.walks.way _ _) c.if-eat_dts_directive.true stay) refl stay)

pub item_rest-returns-then-eat_pp_directive-clause-walks : goal.item_rest-returns-then-eat_pp_directive-clause-walks
unfolding silent
item_rest-returns-then-eat_pp_directive-clause-walks t c =
    no_case (c.silent_at.ensures.walks.way _ _) c.if-silent_at.false (yes_case (no_case (c.eat_dts_directive.ensures.walks.way _ _) c.if-eat_dts_directive.false c.eat_pp_directive.ensures.walks) c.if-eat_pp_directive.true stay)

pub item_rest-returns-clause-walks : goal.item_rest-returns-clause-walks
unfolding silent
item_rest-returns-clause-walks t c =
    no_case (c.silent_at.ensures.walks.way _ _) c.if-silent_at.false (no_case (no_case (c.eat_dts_directive.ensures.walks.way _ _) c.if-eat_dts_directive.false c.eat_pp_directive.ensures.walks) c.if-eat_pp_directive.false (c.error-2.ensures.walks.way _ _))

pub eat_node_or_prop-returns-in-No-clause-walks : goal.eat_node_or_prop-returns-in-No-clause-walks
unfolding eat_node_or_prop
eat_node_or_prop-returns-in-No-clause-walks t c =
    ignored c.start-m.ensures.marker c.start-m.ensures.becomes (if_no (c.eat_node_or_prop_prefix.ensures.walks.way _ _) (ap ans_of c.in-No.is) stay) c.ignore.ensures

pub eat_node_or_prop-returns-then-at-clause-walks : goal.eat_node_or_prop-returns-then-at-clause-walks
unfolding eat_node_or_prop
eat_node_or_prop-returns-then-at-clause-walks t c =
    marker c.start-m.ensures.marker c.start-m.ensures.becomes (if_also (c.eat_node_or_prop_prefix.ensures.walks.way _ _) (ap ans_of c.in-Also.is) (yes_case (c.at.ensures.walks.way _ _) c.if-at.true c.dt_property.ensures.closes))

pub eat_node_or_prop-returns-else-at-clause-walks : goal.eat_node_or_prop-returns-else-at-clause-walks
unfolding eat_node_or_prop
eat_node_or_prop-returns-else-at-clause-walks t c =
    marker c.start-m.ensures.marker c.start-m.ensures.becomes (if_also (c.eat_node_or_prop_prefix.ensures.walks.way _ _) (ap ans_of c.in-Also.is) (no_case (c.at.ensures.walks.way _ _) c.if-at.false c.node.ensures))

pub eat_node_or_prop-returns-in-Yes-clause-walks : goal.eat_node_or_prop-returns-in-Yes-clause-walks
unfolding eat_node_or_prop
eat_node_or_prop-returns-in-Yes-clause-walks t c =
    marker c.start-m.ensures.marker c.start-m.ensures.becomes (if_other _ c.in-Yes.is (c.eat_node_or_prop_prefix.ensures.walks.way _ _) c.node-in-Yes.ensures)

pub node-returns-then-at : goal.node-returns-then-at
node-returns-then-at t c =
    opened (no_property_is _) (yes_case (c.at.ensures.walks.way _ _) c.if-at.true c.dt_node_body.ensures.closes)

pub node-returns-then-silent_at : goal.node-returns-then-silent_at
unfolding silent
node-returns-then-silent_at t c =
    finished (omega arith) (opened (no_property_is _) (no_case (c.at.ensures.walks.way _ _) c.if-at.false (yes_case (c.silent_at.ensures.walks.way _ _) c.if-silent_at.true (seq (c.error.ensures.walks.way _ _) stay)))) c.complete.ensures.becomes

pub node-returns-then-forbidden_property : goal.node-returns-then-forbidden_property
unfolding silent
node-returns-then-forbidden_property t c =
    finished (omega arith) (opened (no_property_is _) (no_case (c.at.ensures.walks.way _ _) c.if-at.false (no_case (c.silent_at.ensures.walks.way _ _) c.if-silent_at.false (yes_case (c.forbidden_property.ensures.way _ _) c.if-forbidden_property.true
    (seq (c.error-then-forbidden_property.ensures.walks.way _ _) (seq (marker c.start-m_prop.ensures.marker c.start-m_prop.ensures.becomes c.dt_property.ensures.closes) stay)))))) c.complete-then-forbidden_property.ensures.becomes

pub node-returns : goal.node-returns
unfolding silent
node-returns t c =
    opened (no_property_is _) (no_case (c.at.ensures.walks.way _ _) c.if-at.false (no_case (c.silent_at.ensures.walks.way _ _) c.if-silent_at.false (no_case (c.forbidden_property.ensures.way _ _) c.if-forbidden_property.false (c.unfinished.ensures.way _ _))))

-- ---------------------------------------------------------------- preprocessor_directive.rs

pub eat_inside-returns-in-Item-clause-walks : goal.eat_inside-returns-in-Item-clause-walks
unfolding eat_inside
eat_inside-returns-in-Item-clause-walks t c =
    rw c.in-Item.is (seq (lands (call_on c.args.allowed c.item.ensures.opens)) stay)

pub eat_inside-returns-in-Values-clause-walks : goal.eat_inside-returns-in-Values-clause-walks
unfolding eat_inside
eat_inside-returns-in-Values-clause-walks t c =
    rw c.in-Values.is (seq (call c.args.allowed c.propvalues.ensures.opens) stay)

pub eat_inside-returns-in-Cell-clause-walks : goal.eat_inside-returns-in-Cell-clause-walks
unfolding eat_inside
eat_inside-returns-in-Cell-clause-walks t c =
    rw c.in-Cell.is (call c.args.allowed c.eat_cell.ensures.opens)

pub branch-returns-then-at-clause-walks : goal.branch-returns-then-at-clause-walks
unfolding branch branch_turn silent
branch-returns-then-at-clause-walks t c =
    node (omega arith) c.start-m_branch.ensures.marker c.start-m_branch.ensures.becomes (no_case {t = false} (stops_no c.loop-inside.invariant (yes_case {t = true} (yes_case (c.at.ensures.walks.way _ _) c.if-at.true stay) refl stay)) refl stay) c.complete.ensures.becomes

pub branch-returns-then-at_end-clause-walks : goal.branch-returns-then-at_end-clause-walks
unfolding branch branch_turn silent
branch-returns-then-at_end-clause-walks t c =
    node (omega arith) c.start-m_branch.ensures.marker c.start-m_branch.ensures.becomes (no_case {t = false} (stops_no c.loop-inside.invariant (yes_case (no_case (c.at.ensures.walks.way _ _) c.if-at.false (c.at_end.ensures.walks.way _ _)) c.if-at_end.true stay)) refl stay) c.complete-then-at_end.ensures.becomes

pub branch-returns-then-silent_at_set-clause-walks : goal.branch-returns-then-silent_at_set-clause-walks
unfolding branch branch_turn silent
branch-returns-then-silent_at_set-clause-walks t c =
    node (omega arith) c.start-m_branch.ensures.marker c.start-m_branch.ensures.becomes (yes_case {t = true} (stops_yes c.loop-inside.invariant (no_case (no_case (c.at.ensures.walks.way _ _) c.if-at.false (c.at_end.ensures.walks.way _ _)) c.if-at_end.false (yes_case (c.silent_at_set.ensures.walks.way _ _) c.if-silent_at_set.true stay))) refl stay) c.complete-then-silent_at_set.ensures.becomes

pub branch-returns-then-not-eat_inside-clause-walks : goal.branch-returns-then-not-eat_inside-clause-walks
unfolding branch branch_turn silent
branch-returns-then-not-eat_inside-clause-walks t c =
    node (omega arith) c.start-m_branch.ensures.marker c.start-m_branch.ensures.becomes (no_case {t = false} (stops_no c.loop-inside.invariant (no_case (no_case (c.at.ensures.walks.way _ _) c.if-at.false (c.at_end.ensures.walks.way _ _)) c.if-at_end.false (no_case (c.silent_at_set.ensures.walks.way _ _) c.if-silent_at_set.false
    (no_case c.eat_inside.ensures.walks c.if-not-eat_inside.true stay)))) refl stay) c.complete-then-not-eat_inside.ensures.becomes

pub branch-loop-inside-preserved : goal.branch-loop-inside-preserved
unfolding branch_turn silent
branch-loop-inside-preserved t c =
    turns c.loop-inside.invariant (no_case (no_case (c.at.ensures.walks.way _ _) c.if-at.false (c.at_end.ensures.walks.way _ _)) c.if-at_end.false (no_case (c.silent_at_set.ensures.walks.way _ _) c.if-silent_at_set.false (yes_case c.eat_inside.ensures.walks c.if-not-eat_inside.false stay)))
    (omega (flags, c.at.ensures.walks.left, c.at_end.ensures.walks.left, c.at_end.ensures.some c.if-at_end.false, c.silent_at_set.ensures.walks.left, c.eat_inside.ensures.taken c.if-not-eat_inside.false))

pub cond_branches_and_end-loop-inside-preserved : goal.cond_branches_and_end-loop-inside-preserved
unfolding cond_branches_turn
cond_branches_and_end-loop-inside-preserved t c =
    turns c.loop-inside.invariant (yes_case c.branch-p.ensures.walks c.loop-inside-test.true (seq (c.bump.ensures.walks.way _ _) stay))
    (omega (flags, c.branch-p.ensures.walks.left, c.branch-p.ensures.some c.loop-inside-test.true, c.bump.ensures.taken))

pub cond_branches_and_end-returns : goal.cond_branches_and_end-returns
unfolding cond_branches_and_end cond_branches_turn
cond_branches_and_end-returns t c =
    ends (seq (stops_yes c.loop-inside.invariant (no_case c.branch-p.ensures.walks c.loop-inside-test.false stay)) (c.expect.ensures.walks.way _ _))

pub eat_pp_directive-returns-then-not-silent_at_set-clause-walks : goal.eat_pp_directive-returns-then-not-silent_at_set-clause-walks
unfolding eat_preprocessor_directive silent
eat_pp_directive-returns-then-not-silent_at_set-clause-walks t c =
    seq (c.add_expected.ensures.way _ _) (yes_case {t = true} (no_case (c.silent_at_set.ensures.walks.way _ _) c.if-not-silent_at_set.true stay) refl stay)

pub eat_pp_directive-returns-then-silent_at_set-clause-walks : goal.eat_pp_directive-returns-then-silent_at_set-clause-walks
unfolding eat_preprocessor_directive silent
eat_pp_directive-returns-then-silent_at_set-clause-walks t c =
    seq (c.add_expected.ensures.way _ _) (no_case {t = false} (yes_case (c.silent_at_set.ensures.walks.way _ _) c.if-not-silent_at_set.false stay) refl (yes_case (c.silent_at_set-2.ensures.walks.way _ _) c.if-silent_at_set.true
    (seq (node (omega arith) c.start-m_cond.ensures.marker c.start-m_cond.ensures.becomes (seq (seq (c.bump.ensures.walks.way _ _) (lands c.cond_branches_and_end.ensures)) stay) c.complete.ensures.becomes) stay)))

pub eat_pp_directive-returns-clause-walks : goal.eat_pp_directive-returns-clause-walks
unfolding eat_preprocessor_directive silent
eat_pp_directive-returns-clause-walks t c =
    seq (c.add_expected.ensures.way _ _) (no_case {t = false} (yes_case (c.silent_at_set.ensures.walks.way _ _) c.if-not-silent_at_set.false stay) refl (no_case (c.silent_at_set-2.ensures.walks.way _ _) c.if-silent_at_set.false (seq (c.bump-2.ensures.walks.way _ _) stay)))
