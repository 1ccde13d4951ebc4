use Rattle.event_machine.proofs.rounds_law.Goals as goal
use Rattle.event_machine.proofs.Grow.{rounds_law}
use Rattle.event_machine.proofs.LastRound.{last_round_law}

pub returns : goal.returns
returns g c = record { grows = rounds_law; ends = last_round_law }
