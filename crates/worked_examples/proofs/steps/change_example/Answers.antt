use Rattle.worked_examples.proofs.Step.Examples.{change}
use Rattle.worked_examples.proofs.steps.change_example.Goals as goal

pub returns : goal.returns
returns c = change
