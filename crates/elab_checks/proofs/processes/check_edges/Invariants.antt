use Rattle.std.proofs.Common.{◌≡◌, drop}
use Rattle.std.specs.Prelude.{flat_map}
use Rattle.flat_design.specs.Processes.{edge_faults}
use Rattle.flat_design.specs.Scope.{binding_of, look_up}
use Rattle.elab_scope.specs.Tally.{after_faults}
use Rattle.elab_checks.proofs.processes.check_edges.Given as goal

-- the faults so far, with those of the rest, are those of all
abbrev pub invariant-loop-name : goal.invariant-loop-name
invariant-loop-name l =
    after_faults l.tally (flat_map (λ e. edge_faults (look_up (binding_of l.scope) e.1.name) e.1) (drop l.name-index l.edges)) ≡ after_faults l.fn.tally (flat_map (λ e. edge_faults (look_up (binding_of l.fn.scope) e.1.name) e.1) l.fn.edges)
