use Rattle.clocked_laws.proofs.Order.{clocked_filtered}
use Rattle.clocked_laws.proofs.clocked_filter_law.Goals as goal

pub returns : goal.returns
returns c st f all = clocked_filtered st f all
