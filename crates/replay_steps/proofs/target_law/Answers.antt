use Rattle.replay_steps.proofs.Settling.{targets_move}
use Rattle.replay_steps.proofs.target_law.Goals as goal

pub returns : goal.returns
returns c d h dump run tables sets t a tabled are = targets_move d h dump run tables sets t a tabled are
