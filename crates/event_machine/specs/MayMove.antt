-- What may move in a step, which process can wake, and which is clean, by what is reported of the step.
-- `single` says of which cells it is known that they change at most once in the step, from the old to the new value.
use Rattle.std.specs.Prelude.{◌≡◌, ◌⊎◌, ℕ, true, false}
use Rattle.event_machine.specs.Cell.{Cell}
use Rattle.event_machine.specs.Machine.{Edge, Machine, IsTarget}
use Rattle.event_machine.specs.Told.{Told, IsMovingInput}

-- a change of event signal c can be an edge that process p lists: if c is single, its change is one
abbrev pub CanBeEdge : {V : Type 0} → Machine V → Told V → (Cell → Type 0) → Cell → ℕ → Type 0
CanBeEdge m t single c p = (e : Edge) × (m.edge p e c ≡ true) × (single c → m.is_edge e (t.old c) (t.new c) ≡ true)

-- a change of thing x may wake process p
abbrev pub MayWake : {V : Type 0} → Machine V → Told V → (Cell → Type 0) → ℕ → ℕ → Type 0
MayWake m t single x p = (m.level p x ≡ true) ⊎ ((c : Cell) × (c.thing ≡ x) × CanBeEdge m t single c p)

-- the things that may move: the least set with each moving input and each target of a process that a member may wake
pub data MayMove {V : Type 0} (m : Machine V) (t : Told V) (single : Cell → Type 0) : ℕ → Type 0 where
  of_input : (c : Cell) → IsMovingInput m t c → MayMove m t single c.thing
  of_target : (x p : ℕ) (c : Cell) → MayMove m t single x → MayWake m t single x p → IsTarget m p c → MayMove m t single c.thing

-- process p can wake, by event signal c
abbrev pub CanWake : {V : Type 0} → Machine V → Told V → (Cell → Type 0) → Cell → ℕ → Type 0
CanWake m t single c p = CanBeEdge m t single c p × MayMove m t single c.thing

-- Clocked b is clean, with trigger c: c alone can wake it, and c is single
pub record IsClean {V : Type 0} (m : Machine V) (t : Told V) (single : Cell → Type 0) (b : ℕ) (c : Cell) : Type 0 where
  pub clocked : (x : ℕ) → m.level b x ≡ false
  pub can_wake : CanWake m t single c b
  pub alone : (d : Cell) → CanWake m t single d b → d ≡ c
  pub is_single : single c
