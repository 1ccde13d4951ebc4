use Rattle.tree_places.proofs.Modules.{counted_module}
use Rattle.tree_places.proofs.counts_law.Goals as goal

pub returns : goal.returns
returns c tokens ms m g s k = counted_module tokens ms m g s k
