use Rattle.event_machine.proofs.least_law.Goals as goal
use Rattle.event_machine.proofs.Least.{early_law, least_early, least_may_move}

pub returns : goal.returns
returns g c = record { may_move = least_may_move; early = least_early; early_may_move = λ m lawful. early_law m }
