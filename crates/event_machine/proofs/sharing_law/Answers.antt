use Rattle.event_machine.proofs.SharedEarly.{shared_early_law}
use Rattle.event_machine.proofs.sharing_law.Goals as goal

pub returns : goal.returns
returns g c = shared_early_law
