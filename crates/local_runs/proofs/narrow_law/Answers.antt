use Rattle.local_runs.proofs.Narrow as narrow
use Rattle.local_runs.proofs.narrow_law.Goals as goal

pub returns : goal.returns
returns c = narrow.narrow_law
