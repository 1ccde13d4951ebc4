use Rattle.worked_examples.proofs.Machine.Marked.{chance_example}
use Rattle.worked_examples.proofs.machines.chance_example.Goals as goal

pub returns : goal.returns
returns c = chance_example
