-- What falls in the cycle of calls, and what its loops keep.
use Prim.Native.Nat.{◌+◌, ◌*◌, ◌-◌}
use Rattle.definitions.specs.Grammar.{branch_turn, cells_turn, cond_branches_turn, node_body_turn, propvalues_turn}
use Rattle.machine.specs.Walk.{walk_rule, unlabelled}
use Rattle.parser.proofs.Ways.{Round}
use Rattle.grammar.specs.Subprograms.{inside_of}
use Rattle.parser.specs.View.{tokens_left, span_of}
use Rattle.grammar.proofs.+grammar.Given as goal

abbrev pub decreases-bits : goal.decreases-bits
decreases-bits l = 16 * tokens_left l.p.now + 5

abbrev pub decreases-branch : goal.decreases-branch
decreases-branch l = 16 * tokens_left l.p.now + 13

abbrev pub decreases-cell_rest : goal.decreases-cell_rest
decreases-cell_rest l = 16 * tokens_left l.p.now + 1

abbrev pub decreases-cells : goal.decreases-cells
decreases-cells l = 16 * tokens_left l.p.now + 3

abbrev pub decreases-cond_branches_and_end : goal.decreases-cond_branches_and_end
decreases-cond_branches_and_end l = 16 * tokens_left l.p.now + 14

abbrev pub decreases-dt_cell_list : goal.decreases-dt_cell_list
decreases-dt_cell_list l = 16 * tokens_left l.p.now + 4

abbrev pub decreases-dt_node_body : goal.decreases-dt_node_body
decreases-dt_node_body l = 16 * tokens_left l.p.now + 1

abbrev pub decreases-dt_property : goal.decreases-dt_property
decreases-dt_property l = 16 * tokens_left l.p.now + 8

abbrev pub decreases-eat_cell : goal.decreases-eat_cell
decreases-eat_cell l = 16 * tokens_left l.p.now + 2

abbrev pub decreases-eat_inside : goal.decreases-eat_inside
decreases-eat_inside l = 16 * tokens_left l.p.now + 12

abbrev pub decreases-eat_node_or_prop : goal.decreases-eat_node_or_prop
decreases-eat_node_or_prop l = 16 * tokens_left l.p.now + 10

abbrev pub decreases-eat_pp_directive : goal.decreases-eat_pp_directive
decreases-eat_pp_directive l = 16 * tokens_left l.p.now + 0

abbrev pub decreases-item : goal.decreases-item
decreases-item l = 16 * tokens_left l.p.now + 11

abbrev pub decreases-item_rest : goal.decreases-item_rest
decreases-item_rest l = 16 * tokens_left l.p.now + 1

abbrev pub decreases-node : goal.decreases-node
decreases-node l = 16 * tokens_left l.p.now + 9

abbrev pub decreases-propvalues : goal.decreases-propvalues
decreases-propvalues l = 16 * tokens_left l.p.now + 7

abbrev pub decreases-value : goal.decreases-value
decreases-value l = 16 * tokens_left l.p.now + 6

abbrev pub decreases-value_rest : goal.decreases-value_rest
decreases-value_rest l = 16 * tokens_left l.p.now + 1

-- ---------------------------------------------------------------- loops: from here, and from the start

abbrev pub invariant-branch-loop-inside : goal.invariant-branch-loop-inside
invariant-branch-loop-inside l = Round (walk_rule l.allowed) unlabelled (branch_turn (inside_of l.inside)) l.initial.p l.p

abbrev pub decreases-branch-loop-inside : goal.decreases-branch-loop-inside
decreases-branch-loop-inside l = tokens_left l.p

abbrev pub invariant-cells-loop-p : goal.invariant-cells-loop-p
invariant-cells-loop-p l = Round (walk_rule l.allowed) unlabelled (cells_turn l.until_end) l.initial.p l.p

abbrev pub decreases-cells-loop-p : goal.decreases-cells-loop-p
decreases-cells-loop-p l = tokens_left l.p

abbrev pub invariant-cond_branches_and_end-loop-inside : goal.invariant-cond_branches_and_end-loop-inside
invariant-cond_branches_and_end-loop-inside l = Round (walk_rule l.allowed) unlabelled (cond_branches_turn (inside_of l.inside)) l.initial.p l.p

abbrev pub decreases-cond_branches_and_end-loop-inside : goal.decreases-cond_branches_and_end-loop-inside
decreases-cond_branches_and_end-loop-inside l = tokens_left l.p

abbrev pub invariant-dt_node_body-loop-p : goal.invariant-dt_node_body-loop-p
invariant-dt_node_body-loop-p l = Round (walk_rule l.allowed) (span_of l.lcurly_span) node_body_turn l.initial.p l.p

abbrev pub decreases-dt_node_body-loop-p : goal.decreases-dt_node_body-loop-p
decreases-dt_node_body-loop-p l = tokens_left l.p

abbrev pub invariant-propvalues-loop-allowed : goal.invariant-propvalues-loop-allowed
invariant-propvalues-loop-allowed l = Round (walk_rule (l.allowed - 1)) unlabelled (propvalues_turn l.semicolon) l.initial.p l.p

abbrev pub decreases-propvalues-loop-allowed : goal.decreases-propvalues-loop-allowed
decreases-propvalues-loop-allowed l = tokens_left l.p
