use Rattle.std.proofs.Common.{◌+◌, ◌∙◌, ap, drop}
use Rattle.flat_design.specs.Connections.{output_faults}
use Rattle.flat_design.specs.Scope.{binding_of}
use Rattle.verilog_tree.specs.Tree.{exprs_of}
use Rattle.verilog_tree.specs.View.{expr_view, exprs_view}
use Rattle.elab_checks.proofs.ExpressionLemmas.{met_next, next_is, none_next}
use Rattle.elab_scope.specs.View.{name_view}
use Rattle.elab_ports.specs.Outputs.{all_output_faults}
use Rattle.elab_ports.proofs.OutputLemmas.{outputs_next}
use Rattle.elab_ports.proofs.joining.+outputs.Goals as goal

pub check_outputs-loop-expr-preserved : goal.check_outputs-loop-expr-preserved
check_outputs-loop-expr-preserved t c =
    let g = binding_of c.args.scope.now in
    let label = name_view c.args.label in
    let e = expr_view c.expr-item.result in
    let others = exprs_of (exprs_view (drop (c.loop-expr.expr-index + 1) c.args.exprs.now)) in
    let next = ap (all_output_faults g label) (next_is c.args.exprs.now c.loop-expr.expr-index c.expr-item.result c.loop-expr-test.true c.expr-item.is) ∙ outputs_next g label e others in
    record {
      met = met_next c.loop-expr.tally c.check_output-sound.new.tally _ (output_faults g label e) (all_output_faults g label others) _ next c.loop-expr.invariant.met c.check_output-sound.ensures.met;
      sound = none_next c.loop-expr.sound c.check_output-sound.result _ (output_faults g label e) (all_output_faults g label others) _ next c.loop-expr.invariant.sound c.check_output-sound.ensures.sound;
    }
