use Rattle.worked_examples.proofs.Machine.Marked.{index_example}
use Rattle.worked_examples.proofs.machines.index_example.Goals as goal

pub returns : goal.returns
returns c = index_example
