use Rattle.mark_laws.proofs.Marked.{nothing_marked}
use Rattle.mark_laws.proofs.nothing_law.Goals as goal

pub returns : goal.returns
returns c d ps n e = nothing_marked d ps n e
