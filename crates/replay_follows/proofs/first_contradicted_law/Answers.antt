use Rattle.replay_follows.proofs.Steps.{against_first}
use Rattle.replay_follows.proofs.first_contradicted_law.Goals as goal

pub returns : goal.returns
returns c f t a x cell pauses first shown differs r showing = against_first f t a x cell pauses first shown differs r showing
