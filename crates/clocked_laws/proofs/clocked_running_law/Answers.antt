use Rattle.clocked_laws.proofs.Order.{running}
use Rattle.clocked_laws.proofs.clocked_running_law.Goals as goal

pub returns : goal.returns
returns c d h dump run tables sets t a are p = running d h dump run tables sets t a are p
