use Rattle.std.proofs.Common.{◌≡◌, ◌&&◌, drop}
use Rattle.flat_design.specs.Fault.{none}
use Rattle.flat_design.specs.Scope.{binding_of}
use Rattle.verilog_tree.specs.Tree.{exprs_of}
use Rattle.verilog_tree.specs.View.{exprs_view}
use Rattle.elab_scope.specs.Tally.{after_faults}
use Rattle.elab_scope.specs.View.{name_view}
use Rattle.elab_ports.specs.Outputs.{all_output_faults}
use Rattle.elab_ports.proofs.joining.+outputs.Given as goal

-- the faults so far, with those of the expressions that are left, are those of all
abbrev pub invariant-check_outputs-loop-expr : goal.invariant-check_outputs-loop-expr
invariant-check_outputs-loop-expr l =
    let rest = all_output_faults (binding_of l.scope) (name_view l.label) (exprs_of (exprs_view (drop l.expr-index l.exprs))) in
    let all = all_output_faults (binding_of l.fn.scope) (name_view l.fn.label) (exprs_of (exprs_view l.fn.exprs)) in
    record {
      met : after_faults l.tally rest ≡ after_faults l.fn.tally all;
      sound : (l.sound && none rest) ≡ none all;
    }
