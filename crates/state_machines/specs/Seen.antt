-- A machine by its parts.
use Rattle.design_model.specs.Points.{StateNames}
use Rattle.state_machines.specs.Machines.{machine_of}
use Rattle.state_machines.specs.declared.states.NamedMachine.{NamedMachine}

-- the machine without where its names are in memory
abbrev pub machine_seen : NamedMachine → StateNames
machine_seen m = machine_of m.«module».now m.variable.now m.names.now
