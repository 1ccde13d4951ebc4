use Rattle.std.proofs.Common.{refl}
use Rattle.first_step.proofs.laws.first_example.Goals as goal

pub returns : goal.returns
returns c = record { net = refl; register = refl; acted = refl; before = refl; a = refl; b = refl; y = refl; past = refl }
