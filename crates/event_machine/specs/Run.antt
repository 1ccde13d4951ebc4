-- The runs of a machine: steps at rising times.
use Rattle.std.specs.Prelude.{◌≡◌, ◌<◌, ℕ, false, true, if◌then◌else◌, nat_le, List, [], ◌∷◌, ⊤}
use Rattle.event_machine.specs.Cell.{Cell, put_all}
use Rattle.event_machine.specs.Machine.{Machine, output}
use Rattle.event_machine.specs.State.{State, IsSettled}
use Rattle.event_machine.specs.Event.{Event, end_state}
use Rattle.event_machine.specs.Habit.{Habit}
use Rattle.event_machine.specs.Step.{IsStep}

-- the events of a step, at its time
pub record Timed (V : Type 0) : Type 0 where
  pub time : ℕ
  pub events : List (Event V)

-- the state in which the next step begins: no cell has moved
abbrev pub step_start : {V : Type 0} → State V → State V
step_start s = record { values = s.values; woken = s.woken; active = s.active; queued = s.queued; moved = λ c. false }

-- steps at rising times, after the time now
abbrev pub AreSteps : {V : Type 0} → Machine V → Habit → ℕ → State V → List (Timed V) → Type 0
AreSteps m h now s [] = ⊤
AreSteps m h now s (x ∷ xs) = (now < x.time) × IsStep m h s x.events × AreSteps m h x.time (step_start (end_state m s x.events)) xs

-- cell c has the value that process p computes for it on the present values
abbrev pub HasComputed : {V : Type 0} → Machine V → ℕ → Cell → State V → Type 0
HasComputed m p c s = s.values c ≡ put_all s.values (output m p s.values) c

-- a run: a settled start, in which the target of each Assign has its value (IEEE 1364-2001, 6.1), and then steps
pub record IsRun {V : Type 0} (m : Machine V) (h : Habit) (now : ℕ) (s : State V) (xs : List (Timed V)) : Type 0 where
  pub starts : IsSettled s
  pub unmoved : (c : Cell) → s.moved c ≡ false
  pub nets : (p : ℕ) (c : Cell) → m.is_assign p ≡ true → m.blocking p c ≡ true → HasComputed m p c s
  pub steps : AreSteps m h now s xs

-- the settled state at time t: after the last step at or before t
abbrev pub state_at : {V : Type 0} → Machine V → ℕ → State V → List (Timed V) → State V
state_at m t s [] = s
state_at m t s (x ∷ xs) = if nat_le x.time t then state_at m t (step_start (end_state m s x.events)) xs else s
