-- The state machines of signals, and the states of values.
use Rattle.std.specs.Prelude.{◌≡◌, ◌↔◌, ◌<◌, ℕ, true, List, length}
use Rattle.std.specs.List.{Contains}
use Rattle.four_state.specs.Vector.{Vector, same_bits}
use Rattle.index_sets.specs.Rows.{row_at}
use Rattle.state_machines.specs.Same.{bits_at}
use Rattle.design_machines.specs.Machines.{machine_at}
use Rattle.design_machines.specs.declared.machine.Machine.{Machine}
use Rattle.machine_index.specs.declared.index.MachineIndex.{MachineIndex}

-- the machine at this place has this signal
abbrev pub HasSignal : List Machine → ℕ → ℕ → Type 0
HasSignal xs k s = (k < length xs) × ((machine_at xs k).signal ≡ s)

-- the index has for each signal below the count the machines that have it
pub record IsIndexOf (xs : List Machine) (count : ℕ) (x : MachineIndex) : Type 0 where
  pub count_is : length x.rows ≡ count
  pub has : (s k : ℕ) → s < count → Contains (row_at x.rows s) k ↔ HasSignal xs k s

-- the value at this place is the same, bit by bit
abbrev pub HasValue : List Vector → ℕ → Vector → Type 0
HasValue vs k v = same_bits (bits_at vs k) v.bits ≡ true
