use Rattle.std.proofs.Common.{◌≡◌, take}
use Rattle.state_machines.specs.Drawn.{digits_of}
use Rattle.design_machines.proofs.drawn.digits_of.Given as goal

-- the digits so far
abbrev pub invariant-loop-place : goal.invariant-loop-place
invariant-loop-place l = l.digits.items ≡ take l.place (digits_of l.value)
