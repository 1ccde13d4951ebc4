use Rattle.std.proofs.Common.{◌+◌, ◌∙◌, arith, ap, refl}
use Rattle.flat_design.specs.Scope.{binding_of}
use Rattle.verilog_tree.specs.Tree.{exprs_of}
use Rattle.verilog_tree.specs.View.{expr_view, exprs_view}
use Rattle.std.proofs.Common.{drop}
use Rattle.elab_checks.proofs.ExpressionLemmas.{next_is, sound_next, known_next, width_next}
use Rattle.elab_checks.proofs.values.total_width.Goals as goal

pub loop-part-preserved : goal.loop-part-preserved
loop-part-preserved c =
    let g = binding_of c.args.scope.now in
    let e = expr_view c.part-item.result in
    let rest = exprs_of (exprs_view (drop c.loop-part.part-index c.args.parts.now)) in
    let others = exprs_of (exprs_view (drop (c.loop-part.part-index + 1) c.args.parts.now)) in
    let next = next_is c.args.parts.now c.loop-part.part-index c.part-item.result c.loop-part-test.true c.part-item.is in
    record {
      whole = width_next g e others rest c.loop-part.width c.from-width.result _ _ next c.loop-part.invariant.whole (c.from-width.ensures ∙ ap (λ s. s.width) c.shape.ensures.value) refl;
      small = omega (arith, c.shape.ensures.within.1);
      sound = (sound_next g e others rest next c.loop-part.invariant.sound).1;
      known = (known_next g e others rest next c.loop-part.invariant.known).1;
    }
