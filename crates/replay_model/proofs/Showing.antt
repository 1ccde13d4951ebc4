-- Runs that show a dump up to a time.
use Rattle.std.proofs.Common.{ℕ, ◌≤◌, arith}
use Rattle.event_machine.specs.Habit.{Habit}
use Rattle.design_model.specs.Design.{Design}
use Rattle.design_model.specs.Run.{IsRun, Run}
use Rattle.design_model.specs.Shows.{BoundDump, IsShowing, Shows}

-- what is shown up to a time is shown up to an earlier one
pub earlier : (d : Design) (h : Habit) (dump : BoundDump) (t u : ℕ) (r : Run) → u ≤ t → IsShowing d h dump t r → IsShowing d h dump u r
earlier d h dump t u r le showing = record { is_run = showing.is_run; shows = record { starts = showing.shows.starts; shows = λ s shown before. showing.shows.shows s shown (omega (arith, before, le)) } }

-- a run that shows the dump shows it up to each time
pub shows_to : (d : Design) (h : Habit) (dump : BoundDump) (t : ℕ) (r : Run) → IsRun d h r → Shows d dump r → IsShowing d h dump t r
shows_to d h dump t r is_run shows = record { is_run = is_run; shows = record { starts = shows.starts; shows = λ s is_shown le. shows.shows s is_shown } }
