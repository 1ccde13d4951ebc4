use Rattle.std.proofs.Common.{take}
use Rattle.std.specs.List.{AllZip}
use Rattle.design_model.specs.Points.{IsStateValue}
use Rattle.design_model.specs.View.{design_view}
use Rattle.state_machines.proofs.machine.state_values.Given as goal

-- the values of the names so far
abbrev pub invariant-loop-place : goal.invariant-loop-place
invariant-loop-place l = AllZip (IsStateValue (design_view l.design) l.instance l.signal) (take l.place l.names) l.values.items
