use Rattle.replay_follows.proofs.Steps.{given}
use Rattle.replay_follows.proofs.given_law.Goals as goal

pub returns : goal.returns
returns c f t a x values same follows = given f t a x values same follows
