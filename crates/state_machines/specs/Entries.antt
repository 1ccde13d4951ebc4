-- The entries of a map as machines.
use Rattle.std.specs.Prelude.{List, ℕ, map}
use Rattle.std.specs.Global.{Vec}
use Rattle.design_model.specs.Points.{StateNames}
use Rattle.state_machines.specs.Machines.{machine_of}
use Rattle.state_machines.specs.declared.states.Variable.{Variable}

-- the machine of an entry
abbrev pub machine_in : Variable × Vec (List ℕ) → StateNames
machine_in e = machine_of e.0.«module».items e.0.name.items e.1.items

abbrev pub machines_in : List (Variable × Vec (List ℕ)) → List StateNames
machines_in es = map machine_in es
