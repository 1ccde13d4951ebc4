use Rattle.body_replay.proofs.RunsLawful.{runs_law}
use Rattle.body_replay.proofs.runs_lawful.Goals as goal

pub returns : goal.returns
returns c = runs_law
