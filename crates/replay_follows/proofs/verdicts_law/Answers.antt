use Rattle.replay_follows.proofs.Steps.{ends}
use Rattle.replay_follows.proofs.verdicts_law.Goals as goal

pub returns : goal.returns
returns c f t a x last follows = ends f t a x last follows
