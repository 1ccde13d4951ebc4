use Rattle.replay_follows.proofs.Steps.{due}
use Rattle.replay_follows.proofs.due_law.Goals as goal

pub returns : goal.returns
returns c f t a x follows given = due f t a x follows given
