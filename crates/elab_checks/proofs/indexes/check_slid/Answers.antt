use Rattle.std.proofs.Common.{◌≡◌, ◌∙◌, sym, ap, true}
use Rattle.flat_design.specs.Expressions.{slide_faults}
use Rattle.flat_design.specs.Fault.{none}
use Rattle.flat_design.specs.Scope.{binding_of, names_constants, natural_number}
use Rattle.verilog_tree.specs.View.{expr_view}
use Rattle.elab_checks.specs.Selected.{selected_view}
use Rattle.elab_scope.specs.Tally.{after_faults}
use Rattle.elab_checks.proofs.ExpressionLemmas.{slide_is, then_is}
use Rattle.elab_checks.proofs.indexes.check_slid.Goals as goal

pub returns : goal.returns
returns c =
    let g = binding_of c.args.scope.now in
    let b = expr_view c.args.base.now in
    let w = natural_number g (expr_view c.args.width.now) in
    let first : names_constants g b ≡ true = cc in
    let is = then_is _ (slide_faults g (selected_view c.args.bits) b w c.args.up) _ first ∙ slide_is g (selected_view c.args.bits) b w c.args.up c.requires.within.0 in
    record {
      met = rw (c.number.ensures, c.size.ensures) at c.check_slide.ensures.met ∙ sym (ap (after_faults c.args.tally.now) is);
      sound = rw (c.number.ensures, c.size.ensures) at c.check_slide.ensures.sound ∙ sym (ap none is);
    }
