use Rattle.process_targets.proofs.Settled as settled
use Rattle.process_targets.proofs.laws.settled_law.Goals as goal

pub returns : goal.returns
returns c = settled.settled_law
