use Rattle.std.proofs.Common.{◌≡◌, drop}
use Rattle.flat_design.specs.Identifiers.{bodies_identifiers, items_identifiers}
use Rattle.verilog_tree.specs.Tree.{arms_of, statements_of}
use Rattle.verilog_tree.specs.View.{arms_view, statements_view}
use Rattle.elab_scope.specs.NameSet.{has}
use Rattle.elab_instances.specs.Names.{with_names}
use Rattle.elab_instances.proofs.identifiers.+add_statement.Given as goal

-- the set with the names of the rest has those of all
abbrev pub invariant-add_statements-loop-statement : goal.invariant-add_statements-loop-statement
invariant-add_statements-loop-statement l =
    with_names (bodies_identifiers (statements_of (statements_view (drop l.statement-index l.statements)))) (has l.names) ≡ with_names (bodies_identifiers (statements_of (statements_view l.fn.statements))) (has l.fn.names)

abbrev pub invariant-add_arms-loop-arm : goal.invariant-add_arms-loop-arm
invariant-add_arms-loop-arm l =
    with_names (items_identifiers (arms_of (arms_view (drop l.arm-index l.arms)))) (has l.names) ≡ with_names (items_identifiers (arms_of (arms_view l.fn.arms))) (has l.fn.names)
