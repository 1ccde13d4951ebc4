use Rattle.shown_dumps.proofs.Stretches.{value_open}
use Rattle.shown_dumps.proofs.value_law.Goals as goal

pub returns : goal.returns
returns c entries more last next code t rises is_last from until = value_open entries more last next rises is_last code t from until
