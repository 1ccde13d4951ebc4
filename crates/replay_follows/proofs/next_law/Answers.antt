use Rattle.replay_follows.proofs.Steps.{nexts}
use Rattle.replay_follows.proofs.next_law.Goals as goal

pub returns : goal.returns
returns c f t time a x calm later window gap follows = nexts f t time a x calm later window gap follows
