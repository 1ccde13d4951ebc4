use Rattle.std.proofs.Common.{◌∙◌}
use Rattle.flat_design.specs.Scope.{binding_of}
use Rattle.verilog_tree.specs.View.{expr_view}
use Rattle.elab_checks.proofs.ExpressionLemmas.{told_shape, not_both_answers}
use Rattle.elab_checks.proofs.values.shape.Goals as goal

pub unreachable-requires : goal.unreachable-requires
unreachable-requires c =
    let found = told_shape (binding_of c.args.scope.now) (expr_view c.args.expr.now) c.requires.sound c.requires.known in
    let is = rw c.values.ensures at c.shape.ensures.answer in
    absurd (not_both_answers _ _ _ (is ∙ found) c.in-Err.is)
