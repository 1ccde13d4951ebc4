use Rattle.step_check.proofs.Checked.{differ_law}
use Rattle.step_check.proofs.laws.differ_law.Goals as goal

pub returns : goal.returns
returns c st ran targets checks codes last x v found run first = differ_law st ran targets checks codes last x v found run first
