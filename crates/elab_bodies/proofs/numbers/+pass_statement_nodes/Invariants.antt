use Rattle.std.proofs.Common.{◌≡◌, ◌+◌, ◌*◌, drop}
use Rattle.flat_design.specs.Numbering.{all_statement_nodes, item_nodes}
use Rattle.flat_design.specs.Scope.{binding_of}
use Rattle.verilog_tree.specs.Tree.{statements_of, arms_of}
use Rattle.verilog_tree.specs.View.{statements_view, arms_view}
use Rattle.verilog_tree.specs.declared.statement.Statement.{size-Statement}
use Rattle.elab_bodies.proofs.numbers.+pass_statement_nodes.Given as goal

-- the numbers so far, with those of the rest, are those of all parts
abbrev pub invariant-pass_all_statement_nodes-loop-part : goal.invariant-pass_all_statement_nodes-loop-part
invariant-pass_all_statement_nodes-loop-part l =
    l.nodes + all_statement_nodes (binding_of l.scope) (statements_of (statements_view (drop l.part-index l.parts))) ≡ l.fn.nodes + all_statement_nodes (binding_of l.fn.scope) (statements_of (statements_view l.fn.parts))

-- or of all arms
abbrev pub invariant-pass_arm_nodes-loop-arm : goal.invariant-pass_arm_nodes-loop-arm
invariant-pass_arm_nodes-loop-arm l =
    l.nodes + item_nodes (binding_of l.scope) (arms_of (arms_view (drop l.arm-index l.arms))) ≡ l.fn.nodes + item_nodes (binding_of l.fn.scope) (arms_of (arms_view l.fn.arms))

-- each call is of a part
abbrev pub decreases-pass_statement_nodes : goal.decreases-pass_statement_nodes
decreases-pass_statement_nodes l = 2 * size-Statement l.statement.now

abbrev pub decreases-pass_all_statement_nodes : goal.decreases-pass_all_statement_nodes
decreases-pass_all_statement_nodes l = 2 * goal.size-pass_all_statement_nodes l + 1

abbrev pub decreases-pass_arm_nodes : goal.decreases-pass_arm_nodes
decreases-pass_arm_nodes l = 2 * goal.size-pass_arm_nodes l + 1
