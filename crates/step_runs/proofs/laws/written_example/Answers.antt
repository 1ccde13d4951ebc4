use Rattle.std.proofs.Common.{refl}
use Rattle.step_runs.proofs.laws.written_example.Goals as goal

pub returns : goal.returns
returns c = refl
