-- The runs of a design.
use Rattle.std.specs.Prelude.{◌≡◌, ◌∷◌, ◌++◌, ℕ, List, []}
use Rattle.event_machine.specs.Cell.{Values}
use Rattle.event_machine.specs.State.{State}
use Rattle.event_machine.specs.Event.{end_state}
use Rattle.event_machine.specs.Habit.{Habit}
use Rattle.event_machine.specs.Step.{evaluations}
use Rattle.four_state.specs.declared.bit.Bit.{Bit}
use Rattle.design_model.specs.Design.{Design}
use Rattle.design_model.specs.Machine.{machine}
use Rattle.event_machine.specs.Run.{IsRun as IsRunFrom, Timed, state_at, step_start}

-- when a run begins, its state then, and its steps
pub record Run : Type 0 where
  pub begins : ℕ
  pub start : State Bit
  pub steps : List (Timed Bit)

-- a run of the design: a settled start, in which the target of each Assign equals its value, and steps at rising times
abbrev pub IsRun : Design → Habit → Run → Type 0
IsRun d h r = IsRunFrom (machine d) h r.begins r.start r.steps

-- the settled values at a time: those after the last step at or before it
abbrev pub settled : Design → Run → ℕ → Values Bit
settled d r t = (state_at (machine d) t r.start r.steps).values

-- a step of a run
pub record StepOf (r : Run) : Type 0 where
  pub before : List (Timed Bit)
  pub step : Timed Bit
  pub later : List (Timed Bit)
  pub splits : r.steps ≡ before ++ step ∷ later

-- the state after these steps
abbrev pub state_after_steps : Design → State Bit → List (Timed Bit) → State Bit
state_after_steps d s [] = s
state_after_steps d s (x ∷ xs) = state_after_steps d (step_start (end_state (machine d) s x.events)) xs

-- the state at the start of a step
abbrev pub start_of : Design → (r : Run) → StepOf r → State Bit
start_of d r k = state_after_steps d r.start k.before

-- the state at the end of a step
abbrev pub end_of : Design → (r : Run) → StepOf r → State Bit
end_of d r k = end_state (machine d) (start_of d r k) k.step.events

-- the values on which process p is evaluated in the step, in order
abbrev pub evaluations_of : Design → (r : Run) → StepOf r → ℕ → List (Values Bit)
evaluations_of d r k p = evaluations (machine d) p (start_of d r k) k.step.events
