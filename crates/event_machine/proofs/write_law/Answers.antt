use Rattle.event_machine.proofs.write_law.Goals as goal
use Rattle.event_machine.proofs.Leaves.{write_law}

pub returns : goal.returns
returns g c = write_law
