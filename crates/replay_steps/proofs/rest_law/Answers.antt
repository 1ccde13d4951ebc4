use Rattle.replay_steps.proofs.Resting.{rests}
use Rattle.replay_steps.proofs.rest_law.Goals as goal

pub returns : goal.returns
returns c d h dump run tables points is wakes t n a gap s = rests d h dump run tables points is wakes t n a gap s
