use Rattle.event_machine.proofs.edge_law.Goals as goal
use Rattle.event_machine.specs.Habit.{Free, Late}
use Rattle.event_machine.proofs.Rounds.{edge_law}

pub returns : goal.returns
returns g c = record { free = λ m lawful. edge_law m lawful Free; late = λ m lawful. edge_law m lawful Late }
