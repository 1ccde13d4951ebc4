use Rattle.replay_sets.proofs.SetsLaw.{sets_law}
use Rattle.replay_sets.proofs.laws.sets_law.Goals as goal

pub returns : goal.returns
returns c = sets_law
