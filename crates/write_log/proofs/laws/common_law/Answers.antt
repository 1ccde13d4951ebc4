use Rattle.write_log.proofs.CommonHeld.{common_held}
use Rattle.write_log.proofs.laws.common_law.Goals as goal

pub returns : goal.returns
returns c = common_held
