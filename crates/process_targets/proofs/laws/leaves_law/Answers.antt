use Rattle.process_targets.proofs.Leaves.{leaves_law, right_law}
use Rattle.process_targets.proofs.laws.leaves_law.Goals as goal

pub returns : goal.returns
returns c = record { has = leaves_law; right = right_law }
