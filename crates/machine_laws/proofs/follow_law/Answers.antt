use Rattle.machine_laws.proofs.Followed.{follows}
use Rattle.machine_laws.proofs.follow_law.Goals as goal

pub returns : goal.returns
returns c = follows
