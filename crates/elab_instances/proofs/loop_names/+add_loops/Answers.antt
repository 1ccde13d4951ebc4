use Rattle.std.proofs.Common.{◌≡◌, sym, ◌+◌, ◌++◌, Some, append-nil, drop, ap, ◌∙◌}
use Rattle.flat_design.specs.Identifiers.{items_loop_names, loop_names, loops_names}
use Rattle.verilog_tree.specs.Tree.{arms_of, statements_of}
use Rattle.verilog_tree.specs.View.{arms_view, statement_view, statements_view}
use Rattle.verilog_tree.specs.declared.statement.Arm.{out-Arm}
use Rattle.verilog_tree.specs.declared.statement.StatementForm as form
use Rattle.elab_scope.specs.NameSet.{has}
use Rattle.elab_instances.proofs.NamesLemmas.{names_next, names_then}
use Rattle.verilog_tree.proofs.StatementViews.{arms_from, if_else_view, statements_from}
use Rattle.elab_instances.proofs.loop_names.+add_loops.Goals as goal

pub add_loops-returns-in-Some : goal.add_loops-returns-in-Some
add_loops-returns-in-Some t c =
    let then = loop_names (statement_view c.in-If.yes) in
    let other = loop_names (statement_view c.in-Some.no) in
    let first = c.in_ok-add_loops-in-If.ensures in
    let second = c.add_loops-in-Some.ensures in
    let is = (sym c.deref.ensures ∙ c.in-If.is) ∙ ap (λ o. form.If c.in-If.test c.in-If.yes o) c.in-Some.is in
    names_then c.add_loops-in-Some.result (has c.args.names.now) (has c.add_loops.new.names) (has c.add_loops-in-Some.new.names) then other _ (ap loop_names (if_else_view c.args.statement.now c.in-If.test c.in-If.yes c.in-Some.no is) ∙ ap (λ ns. then ++ ns) (append-nil other)) first second

pub add_all_loops-loop-statement-preserved : goal.add_all_loops-loop-statement-preserved
add_all_loops-loop-statement-preserved t c =
    let i = c.loop-statement.statement-index in
    let s = c.statement-item.result in
    let others = statements_of (statements_view (drop (i + 1) c.args.statements.now)) in
    names_next (has c.loop-statement.names) (has c.add_loops.new.names) _ _ (loop_names (statement_view s)) (loops_names others) (ap loops_names (statements_from c.args.statements.now i s c.loop-statement-test.true c.statement-item.is)) c.loop-statement.invariant c.in_ok-add_loops.ensures

pub add_arm_loops-loop-arm-preserved : goal.add_arm_loops-loop-arm-preserved
add_arm_loops-loop-arm-preserved t c =
    let i = c.loop-arm.arm-index in
    let a = c.arm-item.result in
    let others = arms_of (arms_view (drop (i + 1) c.args.arms.now)) in
    names_next (has c.loop-arm.names) (has c.add_loops.new.names) _ _ (loop_names (statement_view (out-Arm a).body)) (items_loop_names others) (ap items_loop_names (arms_from c.args.arms.now i a c.loop-arm-test.true c.arm-item.is)) c.loop-arm.invariant c.in_ok-add_loops.ensures
