use Rattle.clocked_laws.proofs.Order.{clean_filtered}
use Rattle.clocked_laws.proofs.clean_filter_law.Goals as goal

pub returns : goal.returns
returns c st f ps w all = clean_filtered st f ps w all
