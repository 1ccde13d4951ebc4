-- A step as reported.
use Rattle.std.specs.Prelude.{List}
use Rattle.event_machine.specs.Machine.{Machine}
use Rattle.event_machine.specs.State.{State}
use Rattle.event_machine.specs.Event.{Event}
use Rattle.event_machine.specs.Habit.{Habit}
use Rattle.event_machine.specs.Step.{IsStep}
use Rattle.event_machine.specs.Told.{IsAsTold, Told}

-- a step by the habit that has the reported values at its start and its end
pub record ToldStep {V : Type 0} (m : Machine V) (h : Habit) (t : Told V) : Type 0 where
  pub start : State V
  pub events : List (Event V)
  pub is_step : IsStep m h start events
  pub as_told : IsAsTold m t start events
