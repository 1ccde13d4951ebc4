-- The first fault in the state machines that are named.
use Rattle.std.specs.Prelude.{◌≡◌, ◌⊎◌, ◌<◌, ℕ, List, length, slice_index_or, take}
use Rattle.std.specs.List.{AllZip}
use Rattle.four_state.specs.Vector.{Vector}
use Rattle.state_machines.specs.design_model.Design.{Design}
use Rattle.state_machines.specs.design_model.Points.{IsInstanceOf, IsNameOf, IsStateValue, StateNames}
use Rattle.state_machines.specs.Machines.{no_machine}
use Rattle.state_machines.specs.Same.{IsFirstSame}
use Rattle.state_machines.specs.Values.{IsFirstNoParameter, IsNamedSignal}
use Rattle.design_machines.specs.Machines.{AreMachines, AreMachinesBelow, IsCounted, name_at}
use Rattle.design_machines.specs.declared.fault.StateFault.{StateFault}
use Rattle.design_machines.specs.declared.fault.StateFault.TheVariants.{NoState, SameState, TooManyStates}
use Rattle.design_machines.specs.declared.machine.Machine.{Machine}

-- in instance i the variable is a signal
abbrev pub IsVariable : Design → StateNames → ℕ → Type 0
IsVariable d m i = (s : ℕ) × IsNamedSignal d i m.variable s

-- in instance i the variable is no signal, or a name, the first such one, is no parameter
abbrev pub IsUnknownIn : Design → StateNames → ℕ → List ℕ → Type 0
IsUnknownIn d m i name =
    (((s : ℕ) → IsNameOf d i m.variable s → ⊥) × (name ≡ m.variable)) ⊎ (IsVariable d m i × (k : ℕ) × IsFirstNoParameter d i m.names k × (name ≡ name_at m.names k))

-- in instance i all names are parameters, and this one is the first that has the value of one before it
abbrev pub IsSameIn : Design → StateNames → ℕ → List ℕ → Type 0
IsSameIn d m i name =
    (s : ℕ) × IsNamedSignal d i m.variable s × (vs : List Vector) × AllZip (IsStateValue d i s) m.names vs × (k : ℕ) × IsFirstSame vs k × (name ≡ name_at m.names k)

-- the fault of machine m in instance i
abbrev pub IsFaultIn : Design → StateNames → ℕ → StateFault → Type 0
IsFaultIn d m i (NoState name) = IsUnknownIn d m i name
IsFaultIn d m i (SameState name) = IsSameIn d m i name
IsFaultIn d m i _ = ⊥

-- the fault of machine m in the first instance of its module in which there is one
abbrev pub IsFirstFault : Design → StateNames → StateFault → Type 0
IsFirstFault d m f = (i : ℕ) × IsInstanceOf d i m.of_module × IsFaultIn d m i f × (xs : List Machine) × AreMachinesBelow d m i xs

-- the module has no instance
abbrev pub HasNoInstance : Design → StateNames → Type 0
HasNoInstance d m = (i : ℕ) → IsInstanceOf d i m.of_module → ⊥

-- the fault of machine m: its count, then its module, then that in an instance
abbrev pub IsFaultOf : Design → StateNames → StateFault → Type 0
IsFaultOf d m (TooManyStates name) = (IsCounted m → ⊥) × (name ≡ m.variable)
IsFaultOf d m (NoState name) = IsCounted m × ((HasNoInstance d m × (name ≡ m.of_module)) ⊎ IsFirstFault d m (NoState name))
IsFaultOf d m f = IsCounted m × IsFirstFault d m f

-- the fault of the first machine that has one
abbrev pub IsStateFault : Design → List StateNames → StateFault → Type 0
IsStateFault d ms f = (k : ℕ) × (k < length ms) × IsFaultOf d (slice_index_or ms k no_machine) f × (xs : List Machine) × AreMachines d (take k ms) xs
