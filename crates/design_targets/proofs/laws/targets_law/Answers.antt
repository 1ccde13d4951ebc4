use Rattle.design_targets.proofs.Targets.{blocking_law, nonblocking_law, within_law}
use Rattle.design_targets.proofs.laws.targets_law.Goals as goal

pub returns : goal.returns
returns c = record { blocking = blocking_law; nonblocking = nonblocking_law; within = within_law }
