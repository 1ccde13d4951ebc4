use Rattle.selfrun_dump.proofs.Steps.{times_law}
use Rattle.selfrun_dump.proofs.times_law.Goals as goal

pub returns : goal.returns
returns c = times_law
