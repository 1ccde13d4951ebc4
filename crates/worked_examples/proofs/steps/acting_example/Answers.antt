use Rattle.worked_examples.proofs.Step.Examples.{acting}
use Rattle.worked_examples.proofs.steps.acting_example.Goals as goal

pub returns : goal.returns
returns c = acting
