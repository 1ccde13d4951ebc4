use Rattle.step_check.proofs.Checked.{agree_law}
use Rattle.step_check.proofs.laws.agree_law.Goals as goal

pub returns : goal.returns
returns c st ran targets checks codes last x v run all cell = agree_law st ran targets checks codes last x v run all cell
