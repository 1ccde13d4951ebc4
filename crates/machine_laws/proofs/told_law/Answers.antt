use Rattle.machine_laws.proofs.Told.{tells_all}
use Rattle.machine_laws.proofs.told_law.Goals as goal

pub returns : goal.returns
returns c = tells_all
