use Rattle.replay_follows.proofs.Steps.{starts}
use Rattle.replay_follows.proofs.first_law.Goals as goal

pub returns : goal.returns
returns c f t a x y pauses first shown sets writers closed unsigned none rest = starts f t a x y pauses first shown sets writers closed unsigned none rest
