use Rattle.shown_dumps.proofs.Split.{open_going}
use Rattle.shown_dumps.proofs.Values.{first_until}
use Rattle.shown_dumps.specs.Said.{open_stretch}
use Rattle.shown_dumps.proofs.first_value_law.Goals as goal

pub returns : goal.returns
returns c entries more first next code one = first_until (open_stretch entries) more first next code (open_going entries) one
