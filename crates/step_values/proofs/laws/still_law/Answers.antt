use Rattle.step_values.proofs.Bound.{still_known}
use Rattle.step_values.proofs.laws.still_law.Goals as goal

pub returns : goal.returns
returns c = still_known
