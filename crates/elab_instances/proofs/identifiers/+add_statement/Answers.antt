use Rattle.std.proofs.Common.{◌≡◌, ◌+◌, ◌++◌, Some, append-nil, drop, ap, sym, ◌∙◌}
use Rattle.flat_design.specs.Identifiers.{all_identifiers, body_identifiers, bodies_identifiers, header_identifiers, identifiers, items_identifiers}
use Rattle.verilog_tree.specs.Tree.{arms_of, exprs_of, statements_of}
use Rattle.verilog_tree.specs.View.{arms_view, expr_view, exprs_view, loop_view, statement_view, statements_view}
use Rattle.verilog_tree.specs.declared.statement.Arm.{out-Arm}
use Rattle.verilog_tree.specs.declared.statement.StatementForm as form
use Rattle.elab_scope.specs.NameSet.{has}
use Rattle.elab_instances.specs.Names.{with_names}
use Rattle.elab_instances.proofs.NamesLemmas.{names_both, names_next, names_then}
use Rattle.verilog_tree.proofs.StatementViews.{arms_from, body_view, case_view, for_view, if_else_view, if_view, statements_from}
use Rattle.elab_instances.proofs.identifiers.+add_statement.Goals as goal

pub add_statement-returns-in-Some : goal.add_statement-returns-in-Some
add_statement-returns-in-Some t c =
    let test = identifiers (expr_view c.in-If.test) in
    let then = body_identifiers (statement_view c.in-If.yes) in
    let other = body_identifiers (statement_view c.in-Some.no) in
    let second = c.in_ok-add_statement-in-If.ensures in
    let third = c.add_statement-in-Some.ensures in
    let front = names_both (has c.args.names.now) (has c.add_expr.new.names) (has c.add_statement.new.names) test then c.in_ok-add_expr-in-If.ensures second in
    let is = (sym c.deref.ensures ∙ c.in-If.is) ∙ ap (λ o. form.If c.in-If.test c.in-If.yes o) c.in-Some.is in
    names_then c.add_statement-in-Some.result (has c.args.names.now) (has c.add_statement.new.names) (has c.add_statement-in-Some.new.names) (test ++ then) other _ (ap body_identifiers (if_else_view c.args.statement.now c.in-If.test c.in-If.yes c.in-Some.no is) ∙ ap (λ ns. test ++ then ++ ns) (append-nil other)) front third

pub add_statement-returns-in-None : goal.add_statement-returns-in-None
add_statement-returns-in-None t c =
    let test = identifiers (expr_view c.in-If.test) in
    let then = body_identifiers (statement_view c.in-If.yes) in
    let second = c.in_ok-add_statement-in-If.ensures in
    let is = (sym c.deref.ensures ∙ c.in-If.is) ∙ ap (λ o. form.If c.in-If.test c.in-If.yes o) c.in-None.is in
    names_both (has c.args.names.now) (has c.add_expr.new.names) (has c.add_statement.new.names) test then c.in_ok-add_expr-in-If.ensures second
    ∙ ap (λ ns. with_names ns (has c.args.names.now)) (sym (ap body_identifiers (if_view c.args.statement.now c.in-If.test c.in-If.yes is) ∙ append-nil (test ++ then)))

pub add_statement-returns-in_ok-add_expr-in-Case : goal.add_statement-returns-in_ok-add_expr-in-Case
add_statement-returns-in_ok-add_expr-in-Case t c =
    let others = rw c.deref-in-Case.ensures.value at c.add_arms.ensures in
    names_then c.add_arms.result (has c.args.names.now) (has c.add_expr-in-Case.new.names) (has c.add_arms.new.names) (identifiers (expr_view c.in-Case.on)) (items_identifiers (arms_of (arms_view c.in-Case.arms.items))) _ (ap body_identifiers (case_view c.args.statement.now c.in-Case.kind c.in-Case.on c.in-Case.arms (sym c.deref.ensures ∙ c.in-Case.is))) c.in_ok-add_expr-in-Case.ensures others

pub add_statement-returns-in_ok-add_header-in-For : goal.add_statement-returns-in_ok-add_header-in-For
add_statement-returns-in_ok-add_header-in-For t c =
    let h = c.in-For.header in
    let body = rw (← body_view h) at c.add_statement-in-For.ensures in
    names_then c.add_statement-in-For.result (has c.args.names.now) (has c.add_header.new.names) (has c.add_statement-in-For.new.names) (header_identifiers (loop_view h).0) (body_identifiers (loop_view h).1) _ (ap body_identifiers (for_view c.args.statement.now h (sym c.deref.ensures ∙ c.in-For.is))) c.in_ok-add_header-in-For.ensures body

pub add_statements-loop-statement-preserved : goal.add_statements-loop-statement-preserved
add_statements-loop-statement-preserved t c =
    let i = c.loop-statement.statement-index in
    let s = c.statement-item.result in
    let others = statements_of (statements_view (drop (i + 1) c.args.statements.now)) in
    names_next (has c.loop-statement.names) (has c.add_statement.new.names) _ _ (body_identifiers (statement_view s)) (bodies_identifiers others) (ap bodies_identifiers (statements_from c.args.statements.now i s c.loop-statement-test.true c.statement-item.is)) c.loop-statement.invariant c.in_ok-add_statement.ensures

pub add_arms-loop-arm-preserved : goal.add_arms-loop-arm-preserved
add_arms-loop-arm-preserved t c =
    let i = c.loop-arm.arm-index in
    let a = c.arm-item.result in
    let labels = all_identifiers (exprs_of (exprs_view (out-Arm a).labels.items)) in
    let body = body_identifiers (statement_view (out-Arm a).body) in
    let others = arms_of (arms_view (drop (i + 1) c.args.arms.now)) in
    let first = rw c.deref.ensures.value at c.in_ok-add_exprs.ensures in
    let here = names_both (has c.loop-arm.names) (has c.add_exprs.new.names) (has c.add_statement.new.names) labels body first c.in_ok-add_statement.ensures in
    names_next (has c.loop-arm.names) (has c.add_statement.new.names) _ _ (labels ++ body) (items_identifiers others) (ap items_identifiers (arms_from c.args.arms.now i a c.loop-arm-test.true c.arm-item.is)) c.loop-arm.invariant here
