use Rattle.worked_examples.proofs.Step.Examples.{wake}
use Rattle.worked_examples.proofs.steps.wake_example.Goals as goal

pub returns : goal.returns
returns c = wake
