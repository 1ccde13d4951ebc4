use Rattle.std.proofs.Common.{refl}
use Rattle.step_runs.proofs.laws.order_example.Goals as goal

pub returns : goal.returns
returns c = record { first = refl; second = refl; last = refl; not_listed = refl; past = refl }
