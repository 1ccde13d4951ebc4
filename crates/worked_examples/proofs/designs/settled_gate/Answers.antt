use Rattle.worked_examples.proofs.Design.SettlingClear.{settling_example}
use Rattle.worked_examples.proofs.designs.settled_gate.Goals as goal

pub returns : goal.returns
returns c = settling_example
