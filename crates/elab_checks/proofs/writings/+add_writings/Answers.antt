use Rattle.std.proofs.Common.{◌++◌, map, sym, subst, ap, ◌∙◌}
use Rattle.verilog_tree.specs.Tree.{exprs_of}
use Rattle.verilog_tree.specs.View.{exprs_view}
use Rattle.flat_design.specs.Scope.{binding_of}
use Rattle.flat_design.specs.Targets.{all_leaves, leaves, writing_of}
use Rattle.elab_scope.specs.View.{writing_view}
use Rattle.elab_checks.specs.Writings.{EachTarget, IsTarget}
use Rattle.verilog_tree.proofs.ExprViews.{concatenation_view}
use Rattle.elab_checks.proofs.WritingLemmas.{joined_targets}
use Rattle.elab_checks.proofs.writings.+add_writings.Goals as goal

pub loop-part-init : goal.loop-part-init
loop-part-init t c =
    let g = binding_of c.args.scope.now in
    let f = writing_of g c.args.writer.blocking c.args.writer.continuous c.args.writer.process in
    let before = map writing_view c.args.all.now.items in
    let parts = c.in-Concat.parts.items in
    let view = concatenation_view c.args.expr.now c.in-Concat.parts (sym c.deref.ensures ∙ c.in-Concat.is) in
    let items = c.deref-part-items.ensures.value in
    record {
      written = ap (λ xs. before ++ map f (all_leaves (exprs_of (exprs_view xs)))) items ∙ sym (ap (λ e. before ++ map f (leaves e)) view);
      within = c.requires.within;
      targets = subst (λ xs. EachTarget g (exprs_of (exprs_view xs))) (sym items) (joined_targets g c.args.expr.now.place (exprs_of (exprs_view parts)) (subst (IsTarget g) view c.requires.target));
    }
