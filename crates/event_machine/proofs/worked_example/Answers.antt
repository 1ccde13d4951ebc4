use Rattle.event_machine.proofs.worked_example.Goals as goal
use Rattle.event_machine.proofs.Example.{worked_example}

pub returns : goal.returns
returns c = worked_example
