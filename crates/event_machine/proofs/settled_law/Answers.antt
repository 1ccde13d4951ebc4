use Rattle.event_machine.proofs.settled_law.Goals as goal
use Rattle.event_machine.proofs.Settled.{computed_law, idle_law, settled_law}
use Rattle.event_machine.proofs.Nets.{net_law}

pub returns : goal.returns
returns g c = record { settled = settled_law; idle = idle_law; computed = computed_law; nets = net_law }
