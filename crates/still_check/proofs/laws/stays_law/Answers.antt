use Rattle.still_check.proofs.Still.{stays}
use Rattle.still_check.proofs.laws.stays_law.Goals as goal

pub returns : goal.returns
returns c st changed is known unchanged all cell has still = stays st changed is known unchanged all cell has still
