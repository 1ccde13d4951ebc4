use Rattle.worked_examples.proofs.Design.ResetDoubt.{both_example}
use Rattle.worked_examples.proofs.designs.clock_and_reset.Goals as goal

pub returns : goal.returns
returns c = both_example
