use Rattle.event_machine.proofs.Settled.{waking_law, own_write_law}
use Rattle.event_machine.proofs.waking_law.Goals as goal

pub returns : goal.returns
returns g c = record { wakes = waking_law; own_write = own_write_law }
