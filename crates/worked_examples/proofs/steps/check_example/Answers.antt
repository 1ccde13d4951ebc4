use Rattle.worked_examples.proofs.Step.Examples.{check}
use Rattle.worked_examples.proofs.steps.check_example.Goals as goal

pub returns : goal.returns
returns c = check
