use Rattle.still_check.proofs.Still.{agrees}
use Rattle.still_check.proofs.laws.agrees_law.Goals as goal

pub returns : goal.returns
returns c st overwritten is dump over all cell mine = agrees st overwritten is dump over all cell mine
