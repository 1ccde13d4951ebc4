-- The steps of a machine.
use Rattle.std.specs.Prelude.{◌≡◌, ℕ, false, if◌then◌else◌, List, [], ◌∷◌, ◌++◌}
use Rattle.event_machine.specs.Cell.{Cell, Values, Write}
use Rattle.event_machine.specs.Machine.{Machine, output}
use Rattle.event_machine.specs.State.{State, IsSettled}
use Rattle.event_machine.specs.Event.{Event, is_evaluation, state_after, end_state, IsLegal}
use Rattle.event_machine.specs.Habit.{Habit, IsByHabit}

-- a step: events by the habit, from a settled state with no cell moved to a settled state
pub record IsStep {V : Type 0} (m : Machine V) (h : Habit) (s : State V) (es : List (Event V)) : Type 0 where
  pub starts : IsSettled s
  pub unmoved : (c : Cell) → s.moved c ≡ false
  pub legal : IsLegal m s es
  pub habit : IsByHabit m h s es
  pub ends : IsSettled (end_state m s es)

-- the values on which process p is evaluated along these events, in order
abbrev pub evaluations : {V : Type 0} → Machine V → ℕ → State V → List (Event V) → List (Values V)
evaluations m p s [] = []
evaluations m p s (e ∷ es) =
    if is_evaluation p e then s.values ∷ evaluations m p (state_after m s e) es else evaluations m p (state_after m s e) es

-- what evaluations of p on these values write, in order
abbrev pub outputs : {V : Type 0} → Machine V → ℕ → List (Values V) → List (Write V)
outputs m p [] = []
outputs m p (v ∷ vs) = output m p v ++ outputs m p vs
