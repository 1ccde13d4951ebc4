use Rattle.step_values.proofs.Bound.{bound_known}
use Rattle.step_values.proofs.laws.bound_law.Goals as goal

pub returns : goal.returns
returns c = bound_known
