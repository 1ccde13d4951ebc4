use Rattle.std.proofs.Common.{◌≡◌, ◌++◌, List}
use Rattle.state_machines.specs.design_model.View.{design_view}
use Rattle.design_machines.specs.Machines.{AreMachinesBelow}
use Rattle.design_machines.specs.declared.machine.Machine.{Machine}
use Rattle.state_machines.specs.Seen.{machine_seen}
use Rattle.design_machines.proofs.found.push_machines.Given as goal

-- the machines of the instances so far are added
abbrev pub invariant-loop-number : goal.invariant-loop-number
invariant-loop-number l = (xs : List Machine) × (l.found.items ≡ l.initial.found.items ++ xs) × AreMachinesBelow (design_view l.design) (machine_seen l.named) l.number xs
