use Rattle.std.proofs.Common.{◌≡◌, drop}
use Rattle.elab_scope.specs.Tally.{after_faults}
use Rattle.flat_design.specs.Declarations.{direction_faults}
use Rattle.elab_declarations.proofs.declarations.check_directions.Given as goal

-- with the faults of the ports that are left, the tally is the last one
abbrev pub invariant-loop-port : goal.invariant-loop-port
invariant-loop-port l = after_faults l.tally (direction_faults l.declarations (drop l.port-index l.ports)) ≡ after_faults l.fn.tally (direction_faults l.fn.declarations l.fn.ports)
