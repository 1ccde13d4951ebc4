use Rattle.step_machines.proofs.Closed.{closes}
use Rattle.step_machines.proofs.laws.closed_law.Goals as goal

pub returns : goal.returns
returns c = closes
