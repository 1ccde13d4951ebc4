use Rattle.clocked_laws.proofs.Order.{weak_filtered}
use Rattle.clocked_laws.proofs.weak_filter_law.Goals as goal

pub returns : goal.returns
returns c st f ps w all = weak_filtered st f ps w all
