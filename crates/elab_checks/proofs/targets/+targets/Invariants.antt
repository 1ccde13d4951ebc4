use Rattle.std.proofs.Common.{◌≡◌, drop}
use Rattle.std.specs.Prelude.{◌&&◌}
use Rattle.verilog_tree.specs.Tree.{exprs_of}
use Rattle.verilog_tree.specs.View.{exprs_view}
use Rattle.flat_design.specs.Fault.{none}
use Rattle.flat_design.specs.Scope.{binding_of}
use Rattle.flat_design.specs.Targets.{all_target_faults}
use Rattle.elab_scope.specs.Tally.{after_faults}
use Rattle.elab_checks.proofs.targets.+targets.Given as goal

-- the faults so far, with those of the rest, are those of all
abbrev pub invariant-check_all_targets-loop-expr : goal.invariant-check_all_targets-loop-expr
invariant-check_all_targets-loop-expr l =
    record {
      met : after_faults l.tally (all_target_faults (binding_of l.scope) l.mode (exprs_of (exprs_view (drop l.expr-index l.exprs)))) ≡ after_faults l.fn.tally (all_target_faults (binding_of l.fn.scope) l.fn.mode (exprs_of (exprs_view l.fn.exprs)));
      sound : (l.sound && none (all_target_faults (binding_of l.scope) l.mode (exprs_of (exprs_view (drop l.expr-index l.exprs))))) ≡ none (all_target_faults (binding_of l.fn.scope) l.fn.mode (exprs_of (exprs_view l.fn.exprs)));
    }
