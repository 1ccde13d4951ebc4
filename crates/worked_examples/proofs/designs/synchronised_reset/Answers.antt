use Rattle.worked_examples.proofs.Design.SyncedDoubt.{synced_example}
use Rattle.worked_examples.proofs.designs.synchronised_reset.Goals as goal

pub returns : goal.returns
returns c = synced_example
