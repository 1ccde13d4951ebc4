use Rattle.std.proofs.Common.{◌≡◌, map, take}
use Rattle.state_machines.specs.Drawn.{digits_of}
use Rattle.design_machines.proofs.drawn.digits_of_all.Given as goal

-- the digits of the values so far
abbrev pub invariant-loop-value : goal.invariant-loop-value
invariant-loop-value l = l.names.items ≡ map digits_of (take l.value-index l.values)
