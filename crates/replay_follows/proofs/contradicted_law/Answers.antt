use Rattle.replay_follows.proofs.Steps.{against}
use Rattle.replay_follows.proofs.contradicted_law.Goals as goal

pub returns : goal.returns
returns c f t a x sets early cell follows window are differs r showing = against f t a x sets early cell follows window are differs r showing
