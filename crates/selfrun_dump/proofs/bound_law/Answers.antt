use Rattle.selfrun_dump.proofs.Says.{bound_law}
use Rattle.selfrun_dump.proofs.bound_law.Goals as goal

pub returns : goal.returns
returns c = bound_law
