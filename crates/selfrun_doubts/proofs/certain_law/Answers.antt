use Rattle.selfrun_doubts.proofs.Certain.{certain_law}
use Rattle.selfrun_doubts.proofs.certain_law.Goals as goal

pub returns : goal.returns
returns c = certain_law
