use Rattle.hidden_times.proofs.Jump.{jump_law}
use Rattle.hidden_times.proofs.jump_law.Goals as goal

pub returns : goal.returns
returns c = jump_law
