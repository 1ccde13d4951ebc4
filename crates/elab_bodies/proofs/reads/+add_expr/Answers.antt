use Rattle.std.proofs.Common.{sym, ◌∙◌, ◌+◌, ◌++◌, ap, drop, refl}
use Rattle.verilog_tree.proofs.ExprViews.{repeat_view}
use Rattle.elab_checks.proofs.ExpressionLemmas.{next_is}
use Rattle.flat_design.specs.Identifiers.{all_identifiers, identifiers}
use Rattle.flat_design.specs.Scope.{binding_of}
use Rattle.verilog_tree.specs.Tree.{exprs_of}
use Rattle.verilog_tree.specs.View.{expr_view, exprs_view}
use Rattle.elab_bodies.proofs.ReadLists.{signals_next, signals_then}
use Rattle.elab_bodies.proofs.reads.+add_expr.Goals as goal

pub add_expr-returns-in_ok-add_expr-in-Repeat : goal.add_expr-returns-in_ok-add_expr-in-Repeat
add_expr-returns-in_ok-add_expr-in-Repeat t c =
    let one = c.in_ok-add_expr-in-Repeat.ensures in
    let others = rw c.deref-in-Repeat.ensures.value at c.add_exprs-in-Repeat.ensures in
    signals_then c.add_exprs-in-Repeat.result (binding_of c.args.scope.now) c.args.signals.now c.add_expr.new.signals c.add_exprs-in-Repeat.new.signals (identifiers (expr_view c.in-Repeat.count)) (all_identifiers (exprs_of (exprs_view c.in-Repeat.parts.items))) _ (ap identifiers (repeat_view c.args.expr.now c.in-Repeat.count c.in-Repeat.parts (sym c.deref.ensures ∙ c.in-Repeat.is))) one others

pub add_exprs-loop-expr-preserved : goal.add_exprs-loop-expr-preserved
add_exprs-loop-expr-preserved t c =
    let e = expr_view c.expr-item.result in
    let others = exprs_of (exprs_view (drop (c.loop-expr.expr-index + 1) c.args.exprs.now)) in
    signals_next (binding_of c.args.scope.now) c.loop-expr.signals c.add_expr.new.signals _ _ (identifiers e) (all_identifiers others) (ap all_identifiers (next_is c.args.exprs.now c.loop-expr.expr-index c.expr-item.result c.loop-expr-test.true c.expr-item.is)) c.loop-expr.invariant c.in_ok-add_expr.ensures

pub add_two-returns : goal.add_two-returns
add_two-returns t c =
    signals_then c.add_expr-2.result (binding_of c.args.scope.now) c.args.signals.now c.add_expr.new.signals c.add_expr-2.new.signals (identifiers (expr_view c.args.a.now)) (identifiers (expr_view c.args.b.now)) _ refl c.in_ok-add_expr.ensures c.add_expr-2.ensures

pub add_three-returns : goal.add_three-returns
add_three-returns t c =
    signals_then c.add_expr.result (binding_of c.args.scope.now) c.args.signals.now c.add_two.new.signals c.add_expr.new.signals (identifiers (expr_view c.args.a.now) ++ identifiers (expr_view c.args.b.now)) (identifiers (expr_view c.args.c.now)) _ refl c.in_ok-add_two.ensures c.add_expr.ensures
