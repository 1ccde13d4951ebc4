-- What is reported of a step: the values of some things at its start and its end.
use Rattle.std.specs.Prelude.{◌≡◌, ◌≢◌, ◌⊎◌, ℕ, Bool, true, List}
use Rattle.event_machine.specs.Cell.{Cell, Values}
use Rattle.event_machine.specs.Machine.{Machine, IsTarget}
use Rattle.event_machine.specs.State.{State}
use Rattle.event_machine.specs.Event.{Event, end_state}

-- which things are reported, and their values at the start and the end
pub record Told (V : Type 0) : Type 0 where
  pub is_told : ℕ → Bool
  pub old : Values V
  pub new : Values V

-- a reported input cell
abbrev pub IsToldInput : {V : Type 0} → Machine V → Told V → Cell → Type 0
IsToldInput m t c = (m.is_input c ≡ true) × (t.is_told c.thing ≡ true)

-- a reported cell, which the environment or a process may write
abbrev pub IsToldCell : {V : Type 0} → Machine V → Told V → Cell → Type 0
IsToldCell m t c = (t.is_told c.thing ≡ true) × ((m.is_input c ≡ true) ⊎ ((p : ℕ) × IsTarget m p c))

-- the step has the reported values at its start and its end
abbrev pub IsAsTold : {V : Type 0} → Machine V → Told V → State V → List (Event V) → Type 0
IsAsTold m t s es = (c : Cell) → IsToldCell m t c → (s.values c ≡ t.old c) × ((end_state m s es).values c ≡ t.new c)

-- an input cell that is not reported, or that changes
abbrev pub IsMovingInput : {V : Type 0} → Machine V → Told V → Cell → Type 0
IsMovingInput m t c = (m.is_input c ≡ true) × (t.is_told c.thing ≡ true → t.old c ≢ t.new c)
