use Rattle.std.proofs.Common.{◌≡◌, drop}
use Rattle.std.specs.Prelude.{flat_map}
use Rattle.flat_design.specs.Processes.{listed_faults}
use Rattle.flat_design.specs.Scope.{binding_of, look_up}
use Rattle.elab_scope.specs.Tally.{after_faults}
use Rattle.elab_checks.proofs.processes.check_names.Given as goal

-- the faults so far, with those of the rest, are those of all
abbrev pub invariant-loop-name : goal.invariant-loop-name
invariant-loop-name l =
    after_faults l.tally (flat_map (λ x. listed_faults (look_up (binding_of l.scope) x.name) x) (drop l.name-index l.names)) ≡ after_faults l.fn.tally (flat_map (λ x. listed_faults (look_up (binding_of l.fn.scope) x.name) x) l.fn.names)
