use Rattle.std.proofs.Common.{◌≡◌, drop}
use Rattle.flat_design.specs.Identifiers.{loops_names, items_loop_names}
use Rattle.verilog_tree.specs.Tree.{arms_of, statements_of}
use Rattle.verilog_tree.specs.View.{arms_view, statements_view}
use Rattle.elab_scope.specs.NameSet.{has}
use Rattle.elab_instances.specs.Names.{with_names}
use Rattle.elab_instances.proofs.loop_names.+add_loops.Given as goal

-- the set with the names of the rest has those of all
abbrev pub invariant-add_all_loops-loop-statement : goal.invariant-add_all_loops-loop-statement
invariant-add_all_loops-loop-statement l =
    with_names (loops_names (statements_of (statements_view (drop l.statement-index l.statements)))) (has l.names) ≡ with_names (loops_names (statements_of (statements_view l.fn.statements))) (has l.fn.names)

abbrev pub invariant-add_arm_loops-loop-arm : goal.invariant-add_arm_loops-loop-arm
invariant-add_arm_loops-loop-arm l =
    with_names (items_loop_names (arms_of (arms_view (drop l.arm-index l.arms)))) (has l.names) ≡ with_names (items_loop_names (arms_of (arms_view l.fn.arms))) (has l.fn.names)
