use Rattle.clocked_laws.proofs.Order.{clean_ordered}
use Rattle.clocked_laws.proofs.clean_order_law.Goals as goal

pub returns : goal.returns
returns c st round f ps w all = clean_ordered st round f ps w all
