use Rattle.worked_examples.proofs.Step.Examples.{left}
use Rattle.worked_examples.proofs.steps.left_example.Goals as goal

pub returns : goal.returns
returns c = left
