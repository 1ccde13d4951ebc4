use Rattle.std.proofs.Common.{◌∙◌}
use Rattle.flat_design.specs.Scope.{binding_of}
use Rattle.verilog_tree.specs.View.{expr_view}
use Rattle.elab_checks.proofs.ExpressionLemmas.{told_constant, not_both_answers}
use Rattle.elab_checks.proofs.values.number.Goals as goal

pub unreachable-requires : goal.unreachable-requires
unreachable-requires c =
    let found = told_constant (binding_of c.args.scope.now) (expr_view c.args.expr.now) c.requires.constant c.requires.sound in
    let is = rw c.values.ensures at c.constant.ensures in
    absurd (not_both_answers _ _ _ (is ∙ found) c.in-Err.is)
