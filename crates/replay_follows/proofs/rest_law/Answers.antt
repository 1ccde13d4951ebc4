use Rattle.replay_follows.proofs.Steps.{stays}
use Rattle.replay_follows.proofs.rest_law.Goals as goal

pub returns : goal.returns
returns c f t n a x calm gap follows = stays f t n a x calm gap follows
