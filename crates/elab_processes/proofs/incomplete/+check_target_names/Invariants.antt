use Rattle.std.proofs.Common.{◌≡◌, drop}
use Rattle.verilog_tree.specs.Tree.{exprs_of}
use Rattle.verilog_tree.specs.View.{exprs_view}
use Rattle.flat_design.specs.Targets.{all_target_reads}
use Rattle.flat_design.specs.Scope.{binding_of}
use Rattle.elab_scope.specs.Tally.{after_faults}
use Rattle.elab_processes.specs.Listed.{lacking}
use Rattle.elab_processes.proofs.incomplete.+check_target_names.Given as goal

-- what was reported so far, and then what is reported of the rest, is what is reported of all
abbrev pub invariant-check_all_target_names-loop-expr : goal.invariant-check_all_target_names-loop-expr
invariant-check_all_target_names-loop-expr l =
    after_faults l.tally (lacking (binding_of l.scope) l.known (all_target_reads (exprs_of (exprs_view (drop l.expr-index l.exprs))))) ≡ after_faults l.fn.tally (lacking (binding_of l.fn.scope) l.fn.known (all_target_reads (exprs_of (exprs_view l.fn.exprs))))
