use Rattle.clocked_laws.proofs.Kept.{targets_move}
use Rattle.clocked_laws.proofs.clocked_target_law.Goals as goal

pub returns : goal.returns
returns c d h dump run tables sets t a are = targets_move d h dump run tables sets t a are
