use Rattle.std.proofs.Common.{take}
use Rattle.state_machines.specs.design_model.View.{design_view}
use Rattle.design_machines.specs.Machines.{AreMachines}
use Rattle.design_machines.proofs.table.design_machines.Given as goal

-- the machines so far
abbrev pub invariant-loop-place : goal.invariant-loop-place
invariant-loop-place l = AreMachines (design_view l.design) (take l.place l.states.named) l.found.items
