use Rattle.event_machine.proofs.habit_law.Goals as goal
use Rattle.event_machine.proofs.Habits.{free_habit_law, late_habit_law, no_waking_move_law}

pub returns : goal.returns
returns g c = record { free = free_habit_law; no_waking_move = no_waking_move_law; late = late_habit_law }
