use Rattle.replay_steps.proofs.Settling.{filtered}
use Rattle.replay_steps.proofs.filter_law.Goals as goal

pub returns : goal.returns
returns c st ordered ps w = filtered st ordered ps w
