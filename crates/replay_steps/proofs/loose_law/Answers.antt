use Rattle.replay_steps.proofs.Settling.{loose_is}
use Rattle.replay_steps.proofs.loose_law.Goals as goal

pub returns : goal.returns
returns c st x woken are = loose_is st x woken are
