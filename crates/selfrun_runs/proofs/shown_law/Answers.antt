use Rattle.selfrun_runs.proofs.Run.{shown_law}
use Rattle.selfrun_runs.proofs.shown_law.Goals as goal

pub returns : goal.returns
returns c = shown_law
