use Rattle.std.proofs.Common.{refl}
use Rattle.step_clocked.proofs.laws.order_example.Goals as goal

pub returns : goal.returns
returns c = refl
