use Rattle.worked_examples.proofs.Machine.Marked.{test_example}
use Rattle.worked_examples.proofs.machines.test_example.Goals as goal

pub returns : goal.returns
returns c = test_example
