-- The state machines in the instances of a design.
use Rattle.std.specs.Prelude.{◌≡◌, ◌<◌, ◌≤◌, ℕ, List, [], length, slice_index_or}
use Rattle.std.specs.List.{AllZip}
use Rattle.four_state.specs.Vector.{Vector}
use Rattle.state_machines.specs.design_model.Design.{Design, In, no_instance}
use Rattle.state_machines.specs.design_model.declared.design.Instance.{Instance}
use Rattle.state_machines.specs.design_model.Points.{IsInstanceOf, IsStateValue, StateNames}
use Rattle.state_machines.specs.Same.{HasBefore}
use Rattle.state_machines.specs.Values.{IsNamedSignal}
use Rattle.design_machines.specs.declared.machine.Machine.{Machine}

-- the name at a place
abbrev pub name_at : List (List ℕ) → ℕ → List ℕ
name_at names k = slice_index_or names k []

-- what a list of machines gives past its end
abbrev pub no_machine : Machine
no_machine = record { instance = 0; variable = []; signal = 0; names = []; values = []; leaving = 0 }

-- the machine at a place
abbrev pub machine_at : List Machine → ℕ → Machine
machine_at xs k = slice_index_or xs k no_machine

-- the instance at a place is of this module
abbrev pub IsOfModule : List Instance → ℕ → List ℕ → Type 0
IsOfModule is i name = (i < length is) × ((slice_index_or is i no_instance).«module» ≡ name)

-- the machine has 2 to 64 states
abbrev pub IsCounted : StateNames → Type 0
IsCounted m = (2 ≤ length m.names) × (length m.names ≤ 64)

-- no two of the values are the same
abbrev pub AreApart : List Vector → Type 0
AreApart vs = (k : ℕ) → k < length vs → HasBefore vs k → ⊥

-- x is machine m in an instance of its module: its signal, its names, and their values there, which differ
pub record IsMachineOf (d : Design) (m : StateNames) (x : Machine) : Type 0 where
  pub instance : IsInstanceOf d x.instance m.of_module
  pub variable : x.variable ≡ m.variable
  pub signal : IsNamedSignal d x.instance m.variable x.signal
  pub names : x.names ≡ m.names
  pub values : AllZip (IsStateValue d x.instance x.signal) m.names x.values
  pub apart : AreApart x.values
  pub leaving : x.leaving ≡ length x.names

-- the list has machine m in each instance of its module with a number below n
pub record AreMachinesBelow (d : Design) (m : StateNames) (n : ℕ) (xs : List Machine) : Type 0 where
  pub each : (x : Machine) → In x xs → IsMachineOf d m x
  pub all : (i : ℕ) → i < n → IsInstanceOf d i m.of_module → (x : Machine) × In x xs × (x.instance ≡ i)

-- each of these machines has 2 to 64 states and an instance, and the list has it in each of its instances
pub record AreMachines (d : Design) (ms : List StateNames) (xs : List Machine) : Type 0 where
  pub each : (x : Machine) → In x xs → (m : StateNames) × In m ms × IsMachineOf d m x
  pub all : (m : StateNames) (i : ℕ) → In m ms → IsInstanceOf d i m.of_module → (x : Machine) × In x xs × IsMachineOf d m x × (x.instance ≡ i)
  pub counted : (m : StateNames) → In m ms → IsCounted m
  pub placed : (m : StateNames) → In m ms → (i : ℕ) × IsInstanceOf d i m.of_module
