use Rattle.replay_steps.proofs.Blank.{first_blank}
use Rattle.replay_steps.proofs.blank_first_law.Goals as goal

pub returns : goal.returns
returns c d bound run tables new before has drives = first_blank d bound run tables new before has drives
