use Rattle.std.proofs.Common.{◌+◌, ◌++◌, append-nil, drop, ap, sym, ◌∙◌}
use Rattle.flat_design.specs.Bodies.{all_text_reads, header_reads, items_text_reads, text_reads}
use Rattle.flat_design.specs.Identifiers.{all_identifiers, identifiers}
use Rattle.flat_design.specs.Processes.{listed_signals}
use Rattle.flat_design.specs.Scope.{binding_of}
use Rattle.verilog_tree.specs.Tree.{arms_of, exprs_of, statements_of}
use Rattle.verilog_tree.specs.View.{arms_view, expr_view, exprs_view, loop_view, statement_view, statements_view}
use Rattle.verilog_tree.specs.declared.statement.Arm.{out-Arm}
use Rattle.verilog_tree.specs.declared.statement.StatementForm as form
use Rattle.verilog_tree.proofs.StatementViews.{arms_from, body_view, case_view, for_view, if_else_view, if_view, statements_from}
use Rattle.elab_bodies.proofs.ReadLists.{signals_both, signals_next, signals_then}
use Rattle.elab_bodies.proofs.reads.+add_statement.Goals as goal

pub add_statement-returns-in-Some : goal.add_statement-returns-in-Some
add_statement-returns-in-Some t c =
    let g = binding_of c.args.scope.now in
    let test = identifiers (expr_view c.in-If.test) in
    let then = text_reads (statement_view c.in-If.yes) in
    let other = text_reads (statement_view c.in-Some.no) in
    let front = signals_both g c.args.signals.now c.add_expr.new.signals c.add_statement.new.signals test then c.in_ok-add_expr-in-If.ensures c.in_ok-add_statement-in-If.ensures in
    let is = (sym c.deref.ensures ∙ c.in-If.is) ∙ ap (λ o. form.If c.in-If.test c.in-If.yes o) c.in-Some.is in
    signals_then c.add_statement-in-Some.result g c.args.signals.now c.add_statement.new.signals c.add_statement-in-Some.new.signals (test ++ then) other _ (ap text_reads (if_else_view c.args.statement.now c.in-If.test c.in-If.yes c.in-Some.no is) ∙ ap (λ ns. test ++ then ++ ns) (append-nil other)) front c.add_statement-in-Some.ensures

pub add_statement-returns-in-None : goal.add_statement-returns-in-None
add_statement-returns-in-None t c =
    let g = binding_of c.args.scope.now in
    let test = identifiers (expr_view c.in-If.test) in
    let then = text_reads (statement_view c.in-If.yes) in
    let is = (sym c.deref.ensures ∙ c.in-If.is) ∙ ap (λ o. form.If c.in-If.test c.in-If.yes o) c.in-None.is in
    signals_both g c.args.signals.now c.add_expr.new.signals c.add_statement.new.signals test then c.in_ok-add_expr-in-If.ensures c.in_ok-add_statement-in-If.ensures
    ∙ ap (λ ns. c.args.signals.now ++ listed_signals g ns) (sym (ap text_reads (if_view c.args.statement.now c.in-If.test c.in-If.yes is) ∙ append-nil (test ++ then)))

pub add_statement-returns-in_ok-add_expr-in-Case : goal.add_statement-returns-in_ok-add_expr-in-Case
add_statement-returns-in_ok-add_expr-in-Case t c =
    let others = rw c.deref-in-Case.ensures.value at c.add_arms.ensures in
    signals_then c.add_arms.result (binding_of c.args.scope.now) c.args.signals.now c.add_expr-in-Case.new.signals c.add_arms.new.signals (identifiers (expr_view c.in-Case.on)) (items_text_reads (arms_of (arms_view c.in-Case.arms.items))) _ (ap text_reads (case_view c.args.statement.now c.in-Case.kind c.in-Case.on c.in-Case.arms (sym c.deref.ensures ∙ c.in-Case.is))) c.in_ok-add_expr-in-Case.ensures others

pub add_statement-returns-in_ok-add_header-in-For : goal.add_statement-returns-in_ok-add_header-in-For
add_statement-returns-in_ok-add_header-in-For t c =
    let h = c.in-For.header in
    let body = rw (← body_view h) at c.add_statement-in-For.ensures in
    signals_then c.add_statement-in-For.result (binding_of c.args.scope.now) c.args.signals.now c.add_header.new.signals c.add_statement-in-For.new.signals (header_reads (loop_view h).0) (text_reads (loop_view h).1) _ (ap text_reads (for_view c.args.statement.now h (sym c.deref.ensures ∙ c.in-For.is))) c.in_ok-add_header-in-For.ensures body

pub add_statements-loop-statement-preserved : goal.add_statements-loop-statement-preserved
add_statements-loop-statement-preserved t c =
    let i = c.loop-statement.statement-index in
    let s = c.statement-item.result in
    let others = statements_of (statements_view (drop (i + 1) c.args.statements.now)) in
    signals_next (binding_of c.args.scope.now) c.loop-statement.signals c.add_statement.new.signals _ _ (text_reads (statement_view s)) (all_text_reads others) (ap all_text_reads (statements_from c.args.statements.now i s c.loop-statement-test.true c.statement-item.is)) c.loop-statement.invariant c.in_ok-add_statement.ensures

pub add_arms-loop-arm-preserved : goal.add_arms-loop-arm-preserved
add_arms-loop-arm-preserved t c =
    let g = binding_of c.args.scope.now in
    let i = c.loop-arm.arm-index in
    let a = c.arm-item.result in
    let labels = all_identifiers (exprs_of (exprs_view (out-Arm a).labels.items)) in
    let body = text_reads (statement_view (out-Arm a).body) in
    let others = arms_of (arms_view (drop (i + 1) c.args.arms.now)) in
    let first = rw c.deref.ensures.value at c.in_ok-add_exprs.ensures in
    let here = signals_both g c.loop-arm.signals c.add_exprs.new.signals c.add_statement.new.signals labels body first c.in_ok-add_statement.ensures in
    signals_next g c.loop-arm.signals c.add_statement.new.signals _ _ (labels ++ body) (items_text_reads others) (ap items_text_reads (arms_from c.args.arms.now i a c.loop-arm-test.true c.arm-item.is)) c.loop-arm.invariant here
