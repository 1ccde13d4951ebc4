use Rattle.database_commands.proofs.AnyOrder.{merged_any_order}
use Rattle.database_commands.proofs.laws.any_order.Goals as goal

pub returns : goal.returns
returns c = merged_any_order
