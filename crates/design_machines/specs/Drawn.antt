-- The machines of what is drawn, and all state machines of a design.
use Rattle.std.specs.Prelude.{◌≡◌, ◌<◌, ◌≤◌, ◌++◌, if◌then◌else◌, List, [], ◌∷◌, length, map}
use Rattle.std.specs.List.{All}
use Rattle.four_state.specs.Vector.{Vector, same_bits}
use Rattle.state_machines.specs.design_model.Design.{Design, In, signal_at}
use Rattle.state_machines.specs.Drawn.{digits_of}
use Rattle.state_machines.specs.Machines.{StateMachines}
use Rattle.state_machines.specs.Values.{IsNamedSignal}
use Rattle.state_machines.specs.declared.drawn.Drawn.{Drawn}
use Rattle.design_machines.specs.Machines.{AreApart, AreMachines}
use Rattle.design_machines.specs.declared.machine.Machine.{Machine}

-- the values have one width
abbrev pub HasOneWidth : Drawn → Type 0
HasOneWidth e = length e.from.bits ≡ length e.to.bits

-- the values that are drawn, each once
abbrev pub values_of : Drawn → List Vector
values_of e = if same_bits e.from.bits e.to.bits then e.from ∷ [] else e.from ∷ e.to ∷ []

-- the machine of a state, or of two states and the arc that leaves the first of them
abbrev pub drawn_machine : Drawn → Machine
drawn_machine e = record { instance = e.instance; variable = e.name; signal = e.signal; names = map digits_of (values_of e); values = values_of e; leaving = 1 }

-- the machine is of an instance of the design and of its signal, and has few states, of different values of the signal's width
pub record IsWhole (d : Design) (x : Machine) : Type 0 where
  pub instance : x.instance < length d.instances
  pub signal : IsNamedSignal d x.instance x.variable x.signal
  pub count : length x.names ≡ length x.values
  pub most : length x.names ≤ 64
  pub widths : All (λ (v : Vector). length v.bits ≡ (signal_at d x.signal).width) x.values
  pub apart : AreApart x.values
  pub leaving : x.leaving ≤ length x.names

-- the list has the machines that are named, in their instances, and then one for each that is drawn
pub record AreAllMachines (d : Design) (ms : StateMachines) (xs : List Machine) : Type 0 where
  pub named : List Machine
  pub are_named : AreMachines d ms.named named
  pub are : xs ≡ named ++ map drawn_machine ms.drawn
  pub whole : (x : Machine) → In x xs → IsWhole d x
