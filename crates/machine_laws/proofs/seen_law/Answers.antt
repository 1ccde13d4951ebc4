use Rattle.machine_laws.proofs.Followed.{stay_seen}
use Rattle.machine_laws.proofs.seen_law.Goals as goal

pub returns : goal.returns
returns c = stay_seen
