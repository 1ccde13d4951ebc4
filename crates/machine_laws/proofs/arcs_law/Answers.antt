use Rattle.machine_laws.proofs.Arcs.{arcs_apart}
use Rattle.machine_laws.proofs.arcs_law.Goals as goal

pub returns : goal.returns
returns c = arcs_apart
