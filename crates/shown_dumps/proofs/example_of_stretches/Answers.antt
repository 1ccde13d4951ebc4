use Rattle.std.proofs.Common.{refl}
use Rattle.shown_dumps.proofs.example_of_stretches.Goals as goal

pub returns : goal.returns
returns c = record { on = refl; stretches = refl; ended = refl; last = refl; end = refl; before = refl; after = refl }
