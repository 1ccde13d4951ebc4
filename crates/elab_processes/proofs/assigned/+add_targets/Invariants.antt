use Rattle.std.proofs.Common.{◌≡◌, ◌++◌, drop, map}
use Rattle.verilog_tree.specs.Tree.{exprs_of}
use Rattle.verilog_tree.specs.View.{exprs_view}
use Rattle.flat_design.specs.Identifiers.{base_name}
use Rattle.flat_design.specs.Processes.{listed_signals}
use Rattle.flat_design.specs.Scope.{binding_of}
use Rattle.flat_design.specs.Targets.{all_leaves}
use Rattle.elab_processes.specs.Listed.{has}
use Rattle.elab_processes.proofs.assigned.+add_targets.Given as goal

-- the signals so far, with those of the rest, are those of all
abbrev pub invariant-add_all_targets-loop-target : goal.invariant-add_all_targets-loop-target
invariant-add_all_targets-loop-target l =
    has (listed_signals (binding_of l.scope) (map base_name (all_leaves (exprs_of (exprs_view (drop l.target-index l.targets))))) ++ l.known) ≡ has (listed_signals (binding_of l.fn.scope) (map base_name (all_leaves (exprs_of (exprs_view l.fn.targets)))) ++ l.fn.known)
