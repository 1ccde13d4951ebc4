use Rattle.std.proofs.Common.{◌≡◌, ◌++◌, drop}
use Rattle.flat_design.specs.Processes.{listed_signals}
use Rattle.flat_design.specs.Scope.{binding_of}
use Rattle.flat_design.specs.Targets.{all_target_reads}
use Rattle.verilog_tree.specs.Tree.{exprs_of}
use Rattle.verilog_tree.specs.View.{exprs_view}
use Rattle.elab_bodies.proofs.reads.+add_target.Given as goal

-- the signals so far, with those of the rest, are those of all
abbrev pub invariant-add_targets-loop-target : goal.invariant-add_targets-loop-target
invariant-add_targets-loop-target l =
    l.signals ++ listed_signals (binding_of l.scope) (all_target_reads (exprs_of (exprs_view (drop l.target-index l.targets)))) ≡ l.fn.signals ++ listed_signals (binding_of l.fn.scope) (all_target_reads (exprs_of (exprs_view l.fn.targets)))
